-- What came since the entry of a line that is ahead: all of it was put off, or it is one invalidation that was acknowledged early; and where that leads.
use Rattle.std.proofs.Common.{◌≡◌, ◌≢◌, ℕ, suc, ◌<◌, arith, Bool, true, false, ◌&&◌, not, List, [], ◌∷◌, Some, None, refl, sym, ap, subst, ◌∙◌, ◌⊎◌, inl, inr}
use Rattle.std.specs.Prelude.{if◌then◌else◌}
use Rattle.std.specs.List.{list_any}
use Rattle.pg_perm.proofs.Booleans.{and_true}
use Rattle.pg_perm.specs.declared.kinds.Event.{Event}
use Rattle.pg_perm.specs.declared.kinds.Event.TheVariants.{Store}
use Rattle.pg_perm.specs.declared.kinds.FwdClass.TheVariants.{Inv, Share, Keep, Drop}
use Rattle.pg_perm.specs.declared.draft.Draft.{Draft}
use Rattle.pg_perm.specs.declared.draft.ReplyName.{ReplyName}
use Rattle.pg_terms.specs.Terms.{is, is_owner, cache_is, shared, forward_of, has_class}
use Rattle.pg_terms.specs.Due.{is_to_owner, is_passed_to, is_due}
use Rattle.pg_terms.specs.Rows.{allows, final_state}
use Rattle.pg_shape.specs.Shaped.{IsShaped}
use Rattle.pg_shape.proofs.Bools.{or_true, one_three, three_and}
use Rattle.pg_shape.proofs.Searches.{not_true}
use Rattle.pg_directory.specs.DirEntries.{entry_after}
use Rattle.pg_directory.specs.Sound.{fits}
use Rattle.pg_directory.specs.Requests.{IsReply}
use Rattle.pg_directory.proofs.Facts.{one_class}
use Rattle.pg_atomic.proofs.Fits.{shared_stores}
use Rattle.pg_table.specs.declared.cache.Phase.{Phase}
use Rattle.pg_table.specs.declared.cache.Tag.{Tag}
use Rattle.pg_table.specs.declared.cache.Tag.TheVariants.{Plain, Kept, Gave, Gone}
use Rattle.pg_table.specs.Descriptors.{end_under_tag as ends_after}
use Rattle.pg_table.specs.Choices.{tag_by}
use Rattle.pg_messages.specs.declared.messages.Ordered.{Ordered}
use Rattle.pg_messages.specs.declared.messages.Ordered.TheVariants.{Forward, AckCount, PutAck}
use Rattle.pg_order.specs.Messages.{sent_between}
use Rattle.pg_order.specs.Orders.{DirOrder, entry_message}
use Rattle.pg_order.proofs.Known.{IsKnown}
use Rattle.pg_controllers.specs.Networks.{Line, Core}
use Rattle.pg_orderly.specs.Orderly.{Mark, tag_from, IsAhead, IsPlaced}
use Rattle.pg_orderly.proofs.Serving.{ArePutOff}
use Rattle.pg_orderly.proofs.TagReplay.{Leads, Stays, Takes, tag_replays}
use Rattle.pg_safe.proofs.Catch.{catch_up}
use Rattle.pg_safe.proofs.Ends.{phase_lacks, none_after}

-- Tags

never_plain : (d : Draft) (f : ℕ) → tag_by d f ≢ Plain
never_plain d f e = at (has_class Share d f) (has_class Keep d f) e
  where
    at : (a b : Bool) → (if a then Gave else if b then Kept else Gone) ≡ Plain → ⊥
    at true b e = cc
    at false true e = cc
    at false false e = cc

pub inv_tag : (d : Draft) (f : ℕ) → has_class Inv d f ≡ true → tag_by d f ≡ Gone
inv_tag d f inv =
    let share = not_true (has_class Share d f) (λ h. absurd (cc (one_class d f Inv Share inv h))) in
    let keep = not_true (has_class Keep d f) (λ h. absurd (cc (one_class d f Inv Keep inv h))) in
    ap (λ b. if b then Gave else if has_class Keep d f then Kept else Gone) share ∙ ap (λ b. if b then Kept else Gone) keep

off_after : (d : Draft) (t u : Tag) (ms : List Ordered) → t ≢ Plain → tag_from d t ms ≡ Some u → ArePutOff d ms × (u ≢ Plain)
off_after d Plain u ms plain h = absurd (plain refl)
off_after d Kept u [] plain h = (tt, λ e. let same : Kept ≡ u = cc in plain (same ∙ e))
off_after d Kept u (Forward f r n k ∷ ms) plain h = at (has_class Inv d f) refl h (off_after d (tag_by d f) u ms (never_plain d f))
  where
    at : (b : Bool) → has_class Inv d f ≡ b → (if b then None else tag_from d (tag_by d f) ms) ≡ Some u → (tag_from d (tag_by d f) ms ≡ Some u → ArePutOff d ms × (u ≢ Plain)) → ArePutOff d (Forward f r n k ∷ ms) × (u ≢ Plain)
    at true inv h below = cc
    at false inv h below = let (rest, more) = below h in ((ap not inv, rest), more)
off_after d Kept u (AckCount n k ∷ ms) plain h = cc
off_after d Kept u (PutAck k ∷ ms) plain h = cc
off_after d Gave u [] plain h = (tt, λ e. let same : Gave ≡ u = cc in plain (same ∙ e))
off_after d Gave u (m ∷ ms) plain h = cc
off_after d Gone u [] plain h = (tt, λ e. let same : Gone ≡ u = cc in plain (same ∙ e))
off_after d Gone u (m ∷ ms) plain h = cc

-- one invalidation came, and no other message
pub record IsLate (d : Draft) (t : Tag) (ms : List Ordered) : Type 0 where
  pub f : ℕ
  pub r : ℕ
  pub n : ℕ
  pub k : ℕ
  pub only : ms ≡ Forward f r n k ∷ []
  pub inv : has_class Inv d f ≡ true
  pub gone : t ≡ Gone

pub tag_splits : (d : Draft) (t : Tag) (ms : List Ordered) → tag_from d Plain ms ≡ Some t → ArePutOff d ms ⊎ IsLate d t ms
tag_splits d t [] h = inl tt
tag_splits d t (Forward f r n k ∷ ms) h = at (has_class Inv d f) refl
  where
    none : (ms : List Ordered) → tag_from d Gone ms ≡ Some t → (ms ≡ []) × (t ≡ Gone)
    none [] h = (refl, cc)
    none (m ∷ ms) h = cc

    at : (b : Bool) → has_class Inv d f ≡ b → ArePutOff d (Forward f r n k ∷ ms) ⊎ IsLate d t (Forward f r n k ∷ ms)
    at false inv = inl (ap not inv, (off_after d (tag_by d f) t ms (never_plain d f) h).0)
    at true inv =
        let (empty, gone) = none ms (subst (λ u. tag_from d u ms ≡ Some t) (inv_tag d f inv) h) in
        inr (record { f = f; r = r; n = n; k = k; only = ap (λ ms. Forward f r n k ∷ ms) empty; inv = inv; gone = gone })
tag_splits d t (AckCount n k ∷ ms) h = cc
tag_splits d t (PutAck k ∷ ms) h = cc

-- without a tag nothing came
pub plain_empty : (d : Draft) (ms : List Ordered) → tag_from d Plain ms ≡ Some Plain → ms ≡ []
plain_empty d [] h = refl
plain_empty d (Forward f r n k ∷ ms) h = absurd ((off_after d (tag_by d f) Plain ms (never_plain d f) h).1 refl)
plain_empty d (AckCount n k ∷ ms) h = cc
plain_empty d (PutAck k ∷ ms) h = cc

-- Where that leads

-- an invalidation is due in the shared state alone
pub inv_shared : (d : Draft) (x f : ℕ) → has_class Inv d f ≡ true → is_due d x f ≡ true → is (shared d) x ≡ true
inv_shared d x f inv due = elim (or_true (is (shared d) x && is (forward_of d Inv) f) (cache_is (λ c. is_owner c.role) d x && is_to_owner d f && list_any (is_passed_to d x f) d.rows) due) [
  | inl h ↦ (and_true (is (shared d) x) (is (forward_of d Inv) f) h).0
  | inr h ↦ absurd (by (one_three (has_class Share d f) (has_class Keep d f) (has_class Drop d f) (three_and (cache_is (λ c. is_owner c.role) d x) (is_to_owner d f) (list_any (is_passed_to d x f) d.rows) h).1))
]
  where
    by : (has_class Share d f ≡ true) ⊎ ((has_class Keep d f ≡ true) ⊎ (has_class Drop d f ≡ true)) → ⊥
    by (inl h) = cc (one_class d f Inv Share inv h)
    by (inr (inl h)) = cc (one_class d f Inv Keep inv h)
    by (inr (inr h)) = cc (one_class d f Inv Drop inv h)

pub record IsGranted (d : Draft) (p : DirOrder) (c seen : ℕ) (e : Event) (s : ℕ) (t : Tag) (ms : List Ordered) (name : ReplyName) : Type 0 where
  pub fin : ℕ
  pub ends : final_state d s e name ≡ Some fin
  pub may : cache_is (allows e) d fin ≡ true
  pub state : ℕ
  pub leads : Leads d fin ms state
  pub told : ends_after d fin t ≡ Some state
  pub fits : fits d (p.dir_entry seen) c state ≡ true

pub ahead_grants : (d : Draft) (n : ℕ) (p : DirOrder) → IsShaped d → IsKnown d n p → (c : ℕ) (x : Core) (m : Mark) (l : Line) (e : Event) (s : ℕ) (ph : Phase) (t : Tag) → IsPlaced d p c x m
    → (a : IsAhead d p c l m e s ph t) → (name : ReplyName) → IsReply d (p.dir_entry a.ordered.entry) (p.at a.ordered.entry) name → IsGranted d p c m.seen e s t (sent_between (entry_message d p c) m.last a.past) name
ahead_grants d n p sh k c x m l e s ph t pl a name reply =
    let last = a.ordered.last in
    let low = pl.last_low in
    let upto = a.upto in
    let rest = pl.upto in
    let entry : ℕ = a.ordered.entry in
    let inside : entry < p.top = omega (arith, last, low) in
    let own = pl.last_own entry last in
    let (asks, lacks) = phase_lacks d e s ph sh a.phase in
    let (fin, ends, fits_t, may) = (k.handled entry inside).granted (λ h. asks (sym a.ordered.event ∙ h)) s name (subst (λ c. fits d (p.dir_entry entry) c s ≡ true) (sym own) a.state)
    (subst (λ e. cache_is (allows e) d s ≡ false) (sym a.ordered.event) lacks) reply in
    let fit : fits d (p.dir_entry (suc entry)) c fin ≡ true = ap (λ s. fits d s c fin) (k.past.follows entry inside) ∙ subst (λ c. fits d (entry_after d (p.dir_entry entry) (p.at entry)) c fin ≡ true) own fits_t in
    let caught = catch_up d n p sh k c fin m.last a.past m.seen upto (omega (arith, rest)) (subst (λ j. fits d (p.dir_entry j) c fin ≡ true) (sym last) fit)
    (none_after d p c x m pl m.last m.seen (omega arith) (omega (arith, rest))) in
    record {
      fin = fin;
      ends = subst (λ e. final_state d s e name ≡ Some fin) a.ordered.event ends;
      may = subst (λ e. cache_is (allows e) d fin ≡ true) a.ordered.event may;
      state = caught.state;
      leads = caught.leads;
      told = tag_replays d sh fin fin caught.state Plain t (sent_between (entry_message d p c) m.last a.past) a.tag refl caught.leads;
      fits = caught.fits;
    }

-- what began as a store acknowledges no invalidation early
pub store_not_late : (d : Draft) (x y : ℕ) (t : Tag) (ms : List Ordered) → IsShaped d → cache_is (allows Store) d x ≡ true → Leads d x ms y → IsLate d t ms → ⊥
store_not_late d x y t ms sh may leads late = by x y (Forward late.f late.r late.n late.k ∷ []) may refl (subst (λ ms. Leads d x ms y) late.only leads)
  where
    by : (x y : ℕ) (xs : List Ordered) → cache_is (allows Store) d x ≡ true → xs ≡ Forward late.f late.r late.n late.k ∷ [] → Leads d x xs y → ⊥
    by x _ _ may e (Stays _) = cc
    by x y _ may e (Takes _ _ f r n k ms t due row rest) =
        let same : f ≡ late.f = cc in
        let shares = inv_shared d x f (subst (λ f. has_class Inv d f ≡ true) (sym same) late.inv) due in
        let lacks = shared_stores d sh x shares in cc (lacks, may)
