-- Whom the forwards of a request go to, and that each of them applies.
use Rattle.std.proofs.Common.{◌≡◌, ℕ, ◌⊎◌, ◌<◌, true, false, List, [], Option, Some, refl, sym, subst, ap, ◌∙◌, inl, inr}
use Rattle.std.specs.Prelude.{◌==◌, ◌≢◌}
use Rattle.std.proofs.lemmas.Bool.{and_from, or_left, false_from_ne_true}
use Rattle.pg_perm.specs.declared.kinds.Event.{Event}
use Rattle.pg_perm.specs.declared.kinds.Event.TheVariants.{Load, Store, Evict}
use Rattle.pg_perm.specs.declared.kinds.Who.{Who}
use Rattle.pg_perm.specs.declared.kinds.Who.TheVariants.{Other, Sharer, Owner}
use Rattle.pg_perm.specs.declared.kinds.ReqClass.TheVariants.{Read, Write}
use Rattle.pg_perm.specs.declared.kinds.FwdClass.TheVariants.{Inv, Share, Keep, Drop}
use Rattle.pg_perm.specs.declared.draft.Draft.{Draft}
use Rattle.pg_perm.specs.declared.draft.RowLine.{RowLine}
use Rattle.pg_perm.specs.declared.draft.TakeLine.{TakeLine}
use Rattle.pg_perm.specs.declared.draft.Action.TheVariants as action
use Rattle.pg_perm.specs.Drafts.{IsWellFormed}
use Rattle.pg_terms.specs.declared.cases.DirCase.{DirCase}
use Rattle.pg_terms.specs.declared.cases.DirCase.TheVariants as case
use Rattle.pg_terms.specs.Terms.{is, is_write_owner, cache_is, shared, forward_of, has_class, lists, take_row, dir_row}
use Rattle.pg_shape.specs.Shaped.{IsShaped}
use Rattle.pg_terms.specs.Due.{is_due, forward_in}
use Rattle.pg_terms.specs.Rows.{action_in}
use Rattle.pg_shape.proofs.Searches.{not_both}
use Rattle.pg_shape.proofs.Shaped.{is_then_some}
use Rattle.pg_shape.proofs.Rows.{row_at}
use Rattle.pg_directory.specs.DirEntries.{DirEntry, Request, is_among, who, case_of, row_of, entry_after_write, entry_after_row, entry_after}
use Rattle.pg_directory.specs.Sends.{forward_sent}
use Rattle.pg_directory.specs.Sound.{IsSound, IsLegal, IsLegalAs, fits_as, fits}
use Rattle.pg_directory.specs.Requests.{action_of}
use Rattle.pg_directory.proofs.Cores.{same_core}
use Rattle.pg_directory.proofs.Holders.{who_of_sharer}
use Rattle.pg_directory.proofs.Members.{owner_joined, who_owns, holds_as_who, owner_fits, sharer_fits, other_fits}
use Rattle.pg_directory.proofs.Facts.{shared_not_owned, mixed_not_owned, keep_no_share, drop_no_share, first_has_class, keep_of-take_row, forward_acts, action_forwards, out_no_writer, shared_no_writer, reader_no_writer}
use Rattle.pg_directory.proofs.EntriesAfter.{after_is, by_share, shared_with, joined_by, owned_by, after_share_is, after_joined_is, after_owned_is}
use Rattle.pg_directory.proofs.Handling.{IsTaken, owner_of_taken, not_the_owner, load_row, evict_row, load_forward, load_class, store_forward, IsSentFor, sent_has_row, action_has_row}

-- Whom they go to

-- who isn't the owner
not_owning : (s : DirEntry) (c : ℕ) (w : Who) → who s c ≡ w → w ≢ Owner → is s.owner c ≡ false
not_owning s c Other e other = (holds_as_who s c Other e).0
not_owning s c Sharer e other = (holds_as_who s c Sharer e).0
not_owning s c Owner e other = absurd (other refl)

-- a request that is passed on comes from another than the owner, and there is an owner
passed_by : (d : Draft) (n : ℕ) (s : DirEntry) (core : ℕ) (event : Event) → IsShaped d → IsSound d n s → IsLegalAs d s.dir (who s core) event
    → (f : ℕ) (r : RowLine) → row_of d s (record { core = core; event = event }) ≡ Some r → action_in r.form ≡ Some (action.Forward f)
    → IsTaken d s.dir × (is s.owner core ≡ false)
passed_by d n s core Load shape sound legal f r row does =
    (load_forward d n s f r shape sound (load_row d s core r legal row) does, (holds_as_who s core Other legal).0)
passed_by d n s core Store shape sound legal f r row does =
    let (other, taken, class) = store_forward d n s f r (who s core) shape sound row does in
    (taken, not_owning s core (who s core) refl other)
passed_by d n s core Evict shape sound legal f r row does = absurd (cc (evict_row d s core r row, does))

-- what a request passes on goes to the owner, which is another core than the requestor
pub passed_on_to_owner : (d : Draft) (n : ℕ) (s : DirEntry) (q : Request) → IsWellFormed d → IsShaped d → IsSound d n s → q.core < n → IsLegal d s q
    → (f : ℕ) → action_of d s q ≡ Some (action.Forward f) → (o : ℕ) × (s.owner ≡ Some o) × ((q.core == o) ≡ false)
passed_on_to_owner d n s q well shape sound below legal f h =
    let (r, row, does) = action_has_row d s q (action.Forward f) h in
    let (taken, apart) = passed_by d n s q.core q.event shape sound legal f r row does in
    let (o, owns) = owner_of_taken d n s sound taken in
    (o, owns, not_the_owner s o q.core owns apart)

-- That they apply

-- a forward has a take row in a state; the next state fits, and may not write
abbrev pub Applies : Draft → DirEntry → ℕ → ℕ → ℕ → Type 0
Applies d s c f x = (t : TakeLine) × (take_row d x f ≡ Some t) × (fits d s c t.next ≡ true) × (cache_is is_write_owner d t.next ≡ false)

-- a sharer isn't the owner
sharer_no_owner : (d : Draft) (n : ℕ) (s : DirEntry) (c : ℕ) → IsSound d n s → is_among s.sharers c ≡ true → is s.owner c ≡ false
sharer_no_owner d n s c sound h = false_from_ne_true (is s.owner c) (λ owns. not_both (is_among s.sharers c) h (sound.owner c (is_then_some s.owner c owns)).1)

-- the state of the owner is listed, and that of a sharer is the shared state
owner_listed : (d : Draft) (s : DirEntry) (c x : ℕ) → is s.owner c ≡ true → fits d s c x ≡ true → lists d s.dir x ≡ true
owner_listed d s c x h fit = subst (λ (w : Who). fits_as d s.dir w x ≡ true) (who_owns s c h) fit

sharer_shares : (d : Draft) (s : DirEntry) (c x : ℕ) → is s.owner c ≡ false → is_among s.sharers c ≡ true → fits d s c x ≡ true → is (shared d) x ≡ true
sharer_shares d s c x h g fit = subst (λ (w : Who). fits_as d s.dir w x ≡ true) (who_of_sharer s c h g) fit

-- Where they are due

-- an invalidation is due where the state of a sharer fits
inv_due : (d : Draft) (n : ℕ) (s : DirEntry) (c f x : ℕ) → IsSound d n s → is_among s.sharers c ≡ true → forward_of d Inv ≡ Some f → fits d s c x ≡ true
    → is_due d x f ≡ true
inv_due d n s c f x sound among inv fit =
    let shares = sharer_shares d s c x (sharer_no_owner d n s c sound among) among fit in
    let first : is (forward_of d Inv) f ≡ true = ap (λ (o : Option ℕ). is o f) inv ∙ same_core f in
    or_left _ _ (and_from (is (shared d) x) (is (forward_of d Inv) f) shares first)

-- what a row passes on is due in each state that its directory state lists
due_passed : (d : Draft) (n f x : ℕ) (a : DirCase) (r : RowLine) → IsShaped d → dir_row d n a ≡ Some r → forward_in r.form ≡ Some f → lists d n x ≡ true → is_due d x f ≡ true
due_passed d n f x a r shape row passes at = let (k, get, dir, for) = row_at d n a r row in shape.takes.passed n x f k r get dir passes at

-- a forward that a request sends is due in each state that fits
pub forward_is_due : (d : Draft) (n : ℕ) (s : DirEntry) (q : Request) → IsShaped d → IsSound d n s → (c f x : ℕ) → forward_sent d s q c ≡ Some f → fits d s c x ≡ true
    → is_due d x f ≡ true
forward_is_due d n s q shape sound c f x sends fit = let (r, row, apart, what) = sent_has_row d s q c f sends in at r row what
  where
    at : (r : RowLine) → row_of d s q ≡ Some r → IsSentFor d s q.event c r f → is_due d x f ≡ true
    at r row (inl inv) = inv_due d n s c f x sound inv.1 inv.2 fit
    at r row (inr passes) = due_passed d s.dir f x (case_of s q) r shape row passes.1 (owner_listed d s c x passes.0 fit)

-- an invalidation applies, and leaves nothing
inv_applies : (d : Draft) (n : ℕ) (s : DirEntry) (core c f x : ℕ) (r : RowLine) → IsShaped d → IsSound d n s → (core == c) ≡ false
    → is_among s.sharers c ≡ true → forward_of d Inv ≡ Some f → fits d s c x ≡ true → Applies d (entry_after_write r core s) c f x
inv_applies d n s core c f x r shape sound apart among inv fit =
    let (t, row) = shape.takes.due x f (inv_due d n s c f x sound among inv fit) in
    let leads = (shape.takes.inv x f t row (first_has_class d Inv f inv)).1 in
    (t, row, other_fits d (entry_after_write r core s) c t.next apart refl leads, out_no_writer d t.next leads)

-- a listed state takes what is passed on
pub takes_passed : (d : Draft) (n f x : ℕ) (a : DirCase) (r : RowLine) → IsShaped d → dir_row d n a ≡ Some r → action_in r.form ≡ Some (action.Forward f)
    → lists d n x ≡ true → (t : TakeLine) × (take_row d x f ≡ Some t)
takes_passed d n f x a r shape row does at = shape.takes.due x f (due_passed d n f x a r shape row (action_forwards f r.form does) at)

-- a share applies, and leaves a sharer
share_applies : (d : Draft) (s : DirEntry) (core c f x : ℕ) (r : RowLine) → IsShaped d → is s.owner c ≡ true → lists d s.dir x ≡ true
    → dir_row d s.dir (case.Ask Read Other) ≡ Some r → action_in r.form ≡ Some (action.Forward f) → has_class Share d f ≡ true
    → Applies d (entry_after_row d r Load core s) c f x
share_applies d s core c f x r shape owns at row does class =
    let (t, take) = takes_passed d s.dir f x (case.Ask Read Other) r shape row does at in
    let leads = (shape.takes.share x f t take class).1 in
    let next = (shape.reads.share s.dir f r row does class).0 in
    let by = by_share d r f true (action_forwards f r.form does) class in
    let knows = after_share_is d r core s by (shared_not_owned d r.next next) in
    let among = owner_joined c core s.owner s.sharers (is_then_some s.owner c owns) in
    subst (λ (s : DirEntry). Applies d s c f x) (sym knows) (t, take, sharer_fits d (shared_with r.next core s) c t.next refl among leads, shared_no_writer d t.next leads)

-- a keep applies, and leaves an owner
keep_applies : (d : Draft) (s : DirEntry) (core c f x : ℕ) (r : RowLine) → IsShaped d → is s.owner c ≡ true → lists d s.dir x ≡ true
    → dir_row d s.dir (case.Ask Read Other) ≡ Some r → action_in r.form ≡ Some (action.Forward f) → has_class Keep d f ≡ true
    → Applies d (entry_after_row d r Load core s) c f x
keep_applies d s core c f x r shape owns at row does class =
    let (t, take) = takes_passed d s.dir f x (case.Ask Read Other) r shape row does at in
    let reader = (shape.takes.keep x f t take class).1 in
    let (next, lists_kept, finals) = shape.reads.keep s.dir f r row does class in
    let by = by_share d r f false (action_forwards f r.form does) (keep_no_share d f class) in
    let knows = after_joined_is d r core s by (mixed_not_owned d r.next next) in
    let listed = lists_kept x t.next at (keep_of-take_row d shape.forwards f x t class take) in
    subst (λ (s : DirEntry). Applies d s c f x) (sym knows) (t, take, owner_fits d (joined_by r.next core s) c t.next owns listed, reader_no_writer d t.next reader)

-- a drop applies, and leaves nothing
drop_applies : (d : Draft) (s : DirEntry) (core c f x : ℕ) (r : RowLine) → IsShaped d → (core == c) ≡ false → s.sharers ≡ [] → lists d s.dir x ≡ true
    → dir_row d s.dir (case.Ask Read Other) ≡ Some r → action_in r.form ≡ Some (action.Forward f) → has_class Drop d f ≡ true
    → Applies d (entry_after_row d r Load core s) c f x
drop_applies d s core c f x r shape apart alone at row does class =
    let (t, take) = takes_passed d s.dir f x (case.Ask Read Other) r shape row does at in
    let leads = (shape.takes.drop x f t take class).1 in
    let next = (shape.reads.drop s.dir f r row does class).0 in
    let by = by_share d r f false (action_forwards f r.form does) (drop_no_share d f class) in
    let knows = after_owned_is d r core s by next in
    let none : is_among s.sharers c ≡ false = ap (λ (xs : List ℕ). is_among xs c) alone in
    subst (λ (s : DirEntry). Applies d s c f x) (sym knows) (t, take, other_fits d (owned_by r.next core s) c t.next apart none leads, out_no_writer d t.next leads)

write_drop_applies : (d : Draft) (s : DirEntry) (core c f x : ℕ) (r : RowLine) (w : Who) → IsShaped d → (core == c) ≡ false → lists d s.dir x ≡ true
    → dir_row d s.dir (case.Ask Write w) ≡ Some r → action_in r.form ≡ Some (action.Forward f) → has_class Drop d f ≡ true
    → Applies d (entry_after_write r core s) c f x
write_drop_applies d s core c f x r w shape apart at row does class =
    let (t, take) = takes_passed d s.dir f x (case.Ask Write w) r shape row does at in
    let leads = (shape.takes.drop x f t take class).1 in
    (t, take, other_fits d (entry_after_write r core s) c t.next apart refl leads, out_no_writer d t.next leads)

-- what a load passes on to the owner applies
load_applies : (d : Draft) (n : ℕ) (s : DirEntry) (core c f x : ℕ) (r : RowLine) → IsShaped d → IsSound d n s → (core == c) ≡ false → is s.owner c ≡ true
    → lists d s.dir x ≡ true → dir_row d s.dir (case.Ask Read Other) ≡ Some r → action_in r.form ≡ Some (action.Forward f)
    → Applies d (entry_after_row d r Load core s) c f x
load_applies d n s core c f x r shape sound apart owns at row does = by_class (load_class d n s f r shape sound row does)
  where
    by_class : (has_class Share d f ≡ true) ⊎ ((has_class Keep d f ≡ true) ⊎ ((has_class Drop d f ≡ true) × (s.sharers ≡ [])))
        → Applies d (entry_after_row d r Load core s) c f x
    by_class (inl class) = share_applies d s core c f x r shape owns at row does class
    by_class (inr (inl class)) = keep_applies d s core c f x r shape owns at row does class
    by_class (inr (inr class)) = drop_applies d s core c f x r shape apart class.1 at row does class.0

-- what a row sends applies
row_applies : (d : Draft) (n : ℕ) (s : DirEntry) (core : ℕ) (event : Event) → IsShaped d → IsSound d n s → IsLegalAs d s.dir (who s core) event
    → (c f x : ℕ) (r : RowLine) → row_of d s (record { core = core; event = event }) ≡ Some r → (core == c) ≡ false → fits d s c x ≡ true
    → IsSentFor d s event c r f → Applies d (entry_after_row d r event core s) c f x
row_applies d n s core Load shape sound legal c f x r row apart fit (inl inv) = absurd (cc inv.0)
row_applies d n s core Load shape sound legal c f x r row apart fit (inr passes) =
    load_applies d n s core c f x r shape sound apart passes.0 (owner_listed d s c x passes.0 fit) (load_row d s core r legal row) (forward_acts f r.form passes.1)
row_applies d n s core Store shape sound legal c f x r row apart fit (inl inv) =
    inv_applies d n s core c f x r shape sound apart inv.1 inv.2 fit
row_applies d n s core Store shape sound legal c f x r row apart fit (inr passes) =
    let does = forward_acts f r.form passes.1 in
    let (other, taken, class) = store_forward d n s f r (who s core) shape sound row does in
    write_drop_applies d s core c f x r (who s core) shape apart (owner_listed d s c x passes.0 fit) row does class
row_applies d n s core Evict shape sound legal c f x r row apart fit (inl inv) = absurd (cc inv.0)
row_applies d n s core Evict shape sound legal c f x r row apart fit (inr passes) = absurd (cc (evict_row d s core r row, forward_acts f r.form passes.1))

-- a forward that a request sends has a take row in each state that fits; the next state fits afterwards, and may not write
pub applies : (d : Draft) (n : ℕ) (s : DirEntry) (q : Request) → IsWellFormed d → IsShaped d → IsSound d n s → q.core < n → IsLegal d s q
    → (c f x : ℕ) → forward_sent d s q c ≡ Some f → fits d s c x ≡ true → Applies d (entry_after d s q) c f x
applies d n s q well shape sound below legal c f x sends fit =
    let (r, row, apart, what) = sent_has_row d s q c f sends in
    subst (λ (s : DirEntry). Applies d s c f x) (sym (after_is d s q r row))
    (row_applies d n s q.core q.event shape sound legal c f x r row apart fit what)
