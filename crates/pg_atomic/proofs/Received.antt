-- Which cores a request sends a forward: the receivers alone, and they are all there.
use Rattle.std.proofs.Common.{◌≡◌, ℕ, ◌<◌, Bool, true, false, List, Option, Some, None, refl, sym, ap, subst, ◌∙◌}
use Rattle.std.specs.Prelude.{◌==◌, ◌&&◌}
use Rattle.std.proofs.lemmas.Bool.{eqb-true}
use Rattle.std.specs.Option.{option_map_or, option_and_then}
use Rattle.pg_perm.specs.declared.kinds.Event.{Event}
use Rattle.pg_perm.specs.declared.kinds.Event.TheVariants.{Load, Store, Evict}
use Rattle.pg_perm.specs.declared.draft.Draft.{Draft}
use Rattle.pg_perm.specs.declared.draft.RowLine.{RowLine}
use Rattle.pg_terms.specs.Terms.{is, same_event}
use Rattle.pg_directory.specs.DirEntries.{DirEntry, Request, is_among, with_owner, row_of}
use Rattle.pg_directory.specs.Sends.{forward_by_row}
use Rattle.pg_directory.proofs.Cores.{are_below, among_without_other, among_with_same, among_with_other, below_with, below_without}
use Rattle.pg_atomic.specs.States.{next_by_forward, take_next}
use Rattle.pg_atomic.specs.Receivers.{invalidated, receivers}

-- who isn't among the cores with the owner is no owner, and not among the cores
without_owner : (o : Option ℕ) (c : ℕ) (xs : List ℕ) → is_among (with_owner o xs) c ≡ false → (is o c ≡ false) × (is_among xs c ≡ false)
without_owner None c xs h = (refl, h)
without_owner (Some o) c xs h = at (o == c) refl
  where
    at : (t : Bool) → (o == c) ≡ t → ((o == c) ≡ false) × (is_among xs c ≡ false)
    at true e =
        let same : o ≡ c = eqb-true o c e in
        let among : is_among (with_owner (Some o) xs) c ≡ true = subst (λ n. is_among (with_owner (Some o) xs) n ≡ true) same (among_with_same o xs) in
        absurd (cc (sym h ∙ among))
    at false e = (e, sym (among_with_other o c xs e) ∙ h)

-- who may be sent no invalidation isn't sent one
no_inv : (s : DirEntry) (e : Event) (c : ℕ) → is_among (invalidated s e) c ≡ false → (same_event e Store && is_among s.sharers c) ≡ false
no_inv s Load c h = refl
no_inv s Store c h = h
no_inv s Evict c h = refl

nothing_sent : (d : Draft) (s : DirEntry) (q : Request) (c : ℕ) (r : RowLine) → is_among (receivers s q) c ≡ false → forward_by_row d s q c r ≡ None
nothing_sent d s q c r h = at (q.core == c) refl
  where
    at : (t : Bool) → (q.core == c) ≡ t → forward_by_row d s q c r ≡ None
    at true e = rw e refl
    at false e =
        let others : is_among (with_owner s.owner (invalidated s q.event)) c ≡ false =
        sym (among_without_other q.core c (with_owner s.owner (invalidated s q.event)) e) ∙ h in
        let apart = without_owner s.owner c (invalidated s q.event) others in
        let inv : (same_event q.event Store && is_among s.sharers c) ≡ false = no_inv s q.event c apart.1 in
        let own : is s.owner c ≡ false = apart.0 in
        rw (e, inv, own) refl

-- a core that isn't among the receivers stays
pub stays : (d : Draft) (s : DirEntry) (q : Request) (c x : ℕ) → is_among (receivers s q) c ≡ false → next_by_forward d s q c x ≡ x
stays d s q c x h = ap (λ m. option_map_or (take_next d x) m x) (at (row_of d s q))
  where
    at : (r : Option RowLine) → option_and_then (forward_by_row d s q c) r ≡ None
    at None = refl
    at (Some r) = nothing_sent d s q c r h

below_owner : (n : ℕ) (o : Option ℕ) (xs : List ℕ) → ((c : ℕ) → o ≡ Some c → c < n) → are_below n xs ≡ true → are_below n (with_owner o xs) ≡ true
below_owner n None xs owner h = h
below_owner n (Some o) xs owner h = below_with n o xs (owner o refl) h

below_invalidated : (n : ℕ) (s : DirEntry) (e : Event) → are_below n s.sharers ≡ true → are_below n (invalidated s e) ≡ true
below_invalidated n s Load h = refl
below_invalidated n s Store h = h
below_invalidated n s Evict h = refl

pub receivers_below : (n : ℕ) (s : DirEntry) (q : Request) → ((o : ℕ) → s.owner ≡ Some o → o < n) → are_below n s.sharers ≡ true
    → are_below n (receivers s q) ≡ true
receivers_below n s q owner h =
    below_without n q.core (with_owner s.owner (invalidated s q.event)) (below_owner n s.owner (invalidated s q.event) owner (below_invalidated n s q.event h))
