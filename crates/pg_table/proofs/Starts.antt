-- The states in which a store asks, and the tags of loads and stores.
use Rattle.std.proofs.Common.{◌≡◌, ℕ, ◌<◌, Bool, true, false, not, ◌&&◌, length, Option, Some, None, refl, sym, subst, ap, ◌∙◌, inl, inr}
use Rattle.std.specs.Prelude.{slice_get, is_some, if◌then◌else◌}
use Rattle.std.specs.Option.{option_map_or}
use Rattle.std.proofs.lemmas.Bool.{and_parts, or_left, or_right}
use Rattle.pg_perm.specs.declared.kinds.Role.{Role}
use Rattle.pg_perm.specs.declared.kinds.Role.TheVariants as role
use Rattle.pg_perm.specs.declared.kinds.Event.{Event}
use Rattle.pg_perm.specs.declared.kinds.Event.TheVariants.{Load, Store}
use Rattle.pg_perm.specs.declared.kinds.FwdClass.{FwdClass}
use Rattle.pg_perm.specs.declared.kinds.FwdClass.TheVariants.{Inv, Share, Keep, Drop}
use Rattle.pg_perm.specs.declared.kinds.Mode.{Mode}
use Rattle.pg_perm.specs.declared.kinds.Mode.TheVariants as mode
use Rattle.pg_perm.specs.declared.draft.Draft.{Draft}
use Rattle.pg_perm.specs.declared.draft.CacheLine.{CacheLine}
use Rattle.pg_perm.specs.declared.draft.TakeLine.{TakeLine}
use Rattle.pg_perm.specs.Drafts.{IsWellFormed}
use Rattle.pg_terms.specs.Terms.{is_out, is_shared, is_owner, is_read_perm, is_read_owner, cache_is, out, shared, forward_of, has_class, take_row, keep_of}
use Rattle.pg_terms.specs.Due.{is_due}
use Rattle.pg_terms.specs.Rows.{allows, may_keep}
use Rattle.pg_shape.specs.Shaped.{HasPerms, IsShaped}
use Rattle.pg_shape.proofs.Bools.{and_of_both}
use Rattle.pg_shape.proofs.Searches.{position_get, get_below, map_or_get}
use Rattle.pg_shape.proofs.Cores.{at_cache, none_writes_not, read_writes_not}
use Rattle.pg_directory.proofs.Facts.{is_first_of_class, keep_of-take_row, owner_reads}
use Rattle.pg_table.specs.declared.cache.Desc.TheVariants.{Ask}
use Rattle.pg_table.specs.declared.cache.Phase.TheVariants.{Ad, Ac}
use Rattle.pg_table.specs.declared.cache.Tag.{Tag}
use Rattle.pg_table.specs.declared.cache.Tag.TheVariants.{Plain, Kept, Gave, Gone}
use Rattle.pg_table.specs.Descriptors.{may_share, may_give, end_under_tag, final_states, is_tag_of, store_phase}
use Rattle.pg_table.specs.Choices.{is_later, tag_by}
use Rattle.pg_table.proofs.Forwards.{due_class}
use Rattle.pg_table.proofs.Lists.{IsIn, any_in, in_any}
use Rattle.pg_table.proofs.Members.{IsStart, HasTag, IsState, out_is_out_state}
use Rattle.pg_table.proofs.Finals.{asking_ends}

-- States in which a store asks

-- there is such a state, and it has no permission to write
start_denies : (d : Draft) (s : ℕ) → HasPerms d → IsStart d s → (c : CacheLine) × (slice_get d.caches s ≡ Some c) × (allows Store c ≡ false)
start_denies d s perms (inl e) =
    let (c, get, role) = (position_get (λ c. is_out c.role) d.caches s e).1 in
    (c, get, none_writes_not c.perm (perms.out_none s c get role).1)
start_denies d s perms (inr (inl e)) =
    let (c, get, role) = (position_get (λ c. is_shared c.role) d.caches s e).1 in
    (c, get, read_writes_not c.perm (perms.shared_read s c get role).1)
start_denies d s perms (inr (inr h)) =
    let (c, get, reads) = map_or_get is_read_owner (slice_get d.caches s) h in
    (c, get, read_writes_not c.perm (and_parts (is_owner c.role) (is_read_perm c.perm) reads).1)

-- a state without the permission to write is one in which a store asks
pub denied_starts : (d : Draft) (s : ℕ) → HasPerms d → s < length d.caches → cache_is (allows Store) d s ≡ false → IsStart d s
denied_starts d s perms below denied = let (c, get) = get_below d.caches s below in at c get c.role refl
  where
    at : (c : CacheLine) → slice_get d.caches s ≡ Some c → (r : Role) → c.role ≡ r → IsStart d s
    at c get role.Out e = inl (perms.out_none s c get (ap is_out e)).0
    at c get role.Shared e = inr (inl (perms.shared_read s c get (ap is_shared e)).0)
    at c get role.Owner e =
        let owner : cache_is (λ c. is_owner c.role) d s ≡ true = at_cache (λ c. is_owner c.role) d s c get ∙ ap is_owner e in
        inr (inr (owner_reads d s perms owner denied))

-- a forward that is due leads to a state in which a store asks
pub takes_to_start : (d : Draft) (s f : ℕ) (t : TakeLine) → IsShaped d → is_due d s f ≡ true → take_row d s f ≡ Some t → IsStart d t.next
takes_to_start d s f t shape due row = let (class, of) = due_class d s f due in at class of
  where
    at : (class : FwdClass) → has_class class d f ≡ true → IsStart d t.next
    at Inv of = inl (shape.takes.inv s f t row of).1
    at Share of = inr (inl (shape.takes.share s f t row of).1)
    at Keep of = inr (inr (shape.takes.keep s f t row of).1)
    at Drop of = inl (shape.takes.drop s f t row of).1

-- Operations that have met no later forward

plain : (d : Draft) (m : Mode) (s : ℕ) (event : Event) → (x : ℕ) × IsIn x (final_states d s event) → HasTag d m s event Plain
plain d mode.Stall s event ends = refl
plain d mode.Defer s event ends = in_any (λ f. is_some (end_under_tag d f Plain)) ends.0 (final_states d s event) ends.1 refl

-- a store may end where it asks
pub store_plain : (d : Draft) (m : Mode) (s : ℕ) → IsWellFormed d → IsShaped d → IsStart d s → HasTag d m s Store Plain
store_plain d m s well shape start =
    let (c, get, denied) = start_denies d s shape.perms start in
    let (l, row) = shape.cores.row s Store c get (λ e. absurd cc) in
    let (request, pairs, asks, of) = shape.cores.store s l c get row denied in
    plain d m s Store (asking_ends d s Store l request pairs well row asks)

-- a load may end where it asks
pub load_plain : (d : Draft) (m : Mode) (s : ℕ) → IsWellFormed d → IsShaped d → out d ≡ Some s → HasTag d m s Load Plain
load_plain d m s well shape start =
    let (c, get, role) = (position_get (λ c. is_out c.role) d.caches s start).1 in
    let (l, row) = shape.cores.row s Load c get (λ e. absurd cc) in
    let (request, pairs, asks, of) = shape.cores.load s l c get row (ap not (shape.perms.out_none s c get role).1) in
    plain d m s Load (asking_ends d s Load l request pairs well row asks)

-- a store that begins where stores ask
pub store_begins : (d : Draft) (m : Mode) (s : ℕ) → IsWellFormed d → IsShaped d → IsStart d s → IsState d m (Ask Store s (store_phase d s) Plain)
store_begins d m s well shape start = at (cache_is (λ c. is_owner c.role) d s) refl
  where
    at : (b : Bool) → cache_is (λ c. is_owner c.role) d s ≡ b → IsState d m (Ask Store s (if b then Ac else Ad) Plain)
    at true e = (start, e, refl)
    at false e = (start, e, store_plain d m s well shape start)

-- Operations that have met later forwards

-- a tag that a final state may have
abbrev Bears : Draft → ℕ → Tag → Type 0
Bears d x tag = is_some (end_under_tag d x tag) ≡ true

bears_gone : (d : Draft) (x : ℕ) → HasPerms d → Bears d x Gone
bears_gone d x perms = ap is_some (out_is_out_state d perms)

-- where a share comes to it there is a shared state
share_shares : (d : Draft) (x f : ℕ) → IsShaped d → has_class Share d f ≡ true → is_due d x f ≡ true → is_some (shared d) ≡ true
share_shares d x f shape class due = let (t, row) = shape.takes.due x f due in ap is_some (shape.takes.share x f t row class).1

bears_gave : (d : Draft) (x : ℕ) → may_give d x ≡ true → is_some (shared d) ≡ true → Bears d x Gave
bears_gave d x may some = subst (λ b. is_some (if b then shared d else None) ≡ true) (sym may) some

bears_kept : (d : Draft) (x : ℕ) → may_keep d x ≡ true → is_some (keep_of d x) ≡ true → Bears d x Kept
bears_kept d x may some = subst (λ b. is_some (if b then keep_of d x else None) ≡ true) (sym may) some

may_take : (d : Draft) (x f : ℕ) (o : Option ℕ) → o ≡ Some f → is_due d x f ≡ true → option_map_or (is_due d x) o false ≡ true
may_take d x f o e due = ap (λ (o : Option ℕ). option_map_or (is_due d x) o false) e ∙ due

-- a forward that is due at a final state sets a tag that it may have
due_tagged : (d : Draft) (x f : ℕ) → IsShaped d → is_due d x f ≡ true → Bears d x (tag_by d f)
due_tagged d x f shape due = at (has_class Share d f) refl (has_class Keep d f) refl
  where
    at : (a : Bool) → has_class Share d f ≡ a → (b : Bool) → has_class Keep d f ≡ b → Bears d x (if a then Gave else if b then Kept else Gone)
    at true share b keep =
        let may : may_share d x ≡ true = may_take d x f (forward_of d Share) (is_first_of_class d shape.forwards Share f share) due in
        bears_gave d x (or_left (may_share d x) (may_keep d x && option_map_or (may_share d) (keep_of d x) false) may) (share_shares d x f shape share due)
    at false share true keep =
        let (t, row) = shape.takes.due x f due in
        bears_kept d x (may_take d x f (forward_of d Keep) (is_first_of_class d shape.forwards Keep f keep) due) (ap is_some (keep_of-take_row d shape.forwards f x t keep row))
    at false share false keep = bears_gone d x shape.perms

-- and so does one that is due where a keep leads it
kept_tagged : (d : Draft) (x k f : ℕ) → IsShaped d → may_keep d x ≡ true → keep_of d x ≡ Some k → is_due d k f ≡ true → Bears d x (tag_by d f)
kept_tagged d x k f shape keeps leads due = at (has_class Share d f) refl (has_class Keep d f)
  where
    at : (a : Bool) → has_class Share d f ≡ a → (b : Bool) → Bears d x (if a then Gave else if b then Kept else Gone)
    at true share b =
        let may : may_share d k ≡ true = may_take d k f (forward_of d Share) (is_first_of_class d shape.forwards Share f share) due in
        let there : option_map_or (may_share d) (keep_of d x) false ≡ true = ap (λ (o : Option ℕ). option_map_or (may_share d) o false) leads ∙ may in
        bears_gave d x (or_right (may_share d x) (may_keep d x && option_map_or (may_share d) (keep_of d x) false) (and_of_both (may_keep d x) _ keeps there))
        (share_shares d k f shape share due)
    at false share true = bears_kept d x keeps (ap is_some leads)
    at false share false = bears_gone d x shape.perms

-- a later forward that may come sets a tag that there is
pub later_tagged : (d : Draft) (s : ℕ) (event : Event) (tag : Tag) (f : ℕ) → IsShaped d → is_later d s event tag f ≡ true → is_tag_of d s event (tag_by d f) ≡ true
later_tagged d s event Plain f shape h =
    let (x, there, due) = any_in (λ x. is_due d x f) (final_states d s event) h in
    in_any (λ x. is_some (end_under_tag d x (tag_by d f))) x (final_states d s event) there (due_tagged d x f shape due)
later_tagged d s event Kept f shape h =
    let (x, there, keeps) = any_in (λ x. may_keep d x && option_map_or (λ k. is_due d k f) (keep_of d x) false) (final_states d s event) h in
    let (may, leads) = and_parts (may_keep d x) (option_map_or (λ k. is_due d k f) (keep_of d x) false) keeps in
    let (k, kept, due) = map_or_get (λ k. is_due d k f) (keep_of d x) leads in
    in_any (λ x. is_some (end_under_tag d x (tag_by d f))) x (final_states d s event) there (kept_tagged d x k f shape may kept due)
later_tagged d s event Gave f shape h = absurd cc
later_tagged d s event Gone f shape h = absurd cc
