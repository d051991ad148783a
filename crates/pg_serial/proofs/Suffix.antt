-- What stands after a grant of which nothing was served, and a store that is inserted there.
use Rattle.std.proofs.Common.{◌≡◌, ℕ, zero, suc, ◌<◌, ◌≤◌, ◌⊎◌, inl, inr, true, List, [], ◌∷◌, ◌++◌, length, refl, sym, ap, subst, ◌∙◌, arith}
use Rattle.std.proofs.lemmas.Bool.{cases_order}
use Rattle.std.specs.Prelude.{not}
use Rattle.pg_perm.specs.declared.kinds.Event.TheVariants as event
use Rattle.pg_perm.specs.declared.kinds.Who.{Who}
use Rattle.pg_perm.specs.declared.kinds.Who.TheVariants.{Other}
use Rattle.pg_perm.specs.declared.step.Step.{Step}
use Rattle.pg_perm.specs.declared.step.Step.TheVariants.{Txn, Stale, Load, Store}
use Rattle.pg_perm.specs.declared.draft.Draft.{Draft}
use Rattle.pg_perm.specs.Drafts.{IsWellFormed}
use Rattle.pg_shape.specs.Shaped.{IsShaped}
use Rattle.pg_terms.specs.Terms.{is, out}
use Rattle.pg_directory.specs.DirEntries.{DirEntry, who}
use Rattle.pg_directory.specs.Sound.{fits_as}
use Rattle.pg_atomic.specs.States.{State, state_of}
use Rattle.pg_atomic.specs.Steps.{may, IsAllowed, AreAllowed, after_step, after_steps}
use Rattle.pg_atomic.proofs.Operations.{allowed-append, after-append}
use Rattle.pg_atomic.proofs.Fits.{out_loads, out_stores}
use Rattle.pg_serial.specs.Groups.{Groups, at, base, IsRunTo, Each, IsAccessOf, HasAccesses, IsFromNothing, IsFresh, Inserts, IsStored}
use Rattle.pg_serial.proofs.Runs.{IsGood, at_base, good_step, good_steps, good_at, directory_at}
use Rattle.pg_serial.proofs.Agree.{Agrees, agrees_base, agrees_at}
use Rattle.pg_serial.proofs.Insert.{allowed_first, allowed_rest, state_kept, none_alone}

pub out_at : (d : Draft) (n : ℕ) (a : State) (c : ℕ) → IsGood d n a → c < n → who a.entry c ≡ Other → is (out d) (state_of a c) ≡ true
out_at d n a c good inside nothing =
    let there : c < length a.states = omega (arith, inside, good.1) in
    subst (λ (w : Who). fits_as d a.entry.dir w (state_of a c) ≡ true) nothing (good.0.fits c there)

-- an entry of a core that holds nothing is allowed in each safe state, and keeps the word
pub nothing_allowed : (d : Draft) → IsShaped d → (n : ℕ) (a : State) (x : Step) → IsGood d n a → IsFromNothing n a.entry x
    → IsAllowed d a x × ((after_step d a x).word ≡ a.word)
nothing_allowed d s n a (Txn c event.Load) good h =
    (((omega (arith, h.0, good.1)), ap not (out_loads d s (state_of a c) (out_at d n a c good h.0 h.1))), refl)
nothing_allowed d s n a (Txn c event.Store) good h =
    (((omega (arith, h.0, good.1)), ap not (out_stores d s (state_of a c) (out_at d n a c good h.0 h.1))), refl)
nothing_allowed d s n a (Txn c event.Evict) good h = absurd (h.2 refl)
nothing_allowed d s n a (Stale c) good h = (((omega (arith, h.0, good.1)), out_at d n a c good h.0 h.1), refl)
nothing_allowed d s n a (Load c v) good h = absurd h
nothing_allowed d s n a (Store c v) good h = absurd h

-- Whatever the state after entry k is, the entries after it are allowed
pub record Follows (d : Draft) (n : ℕ) (g : Groups) (k j : ℕ) : Type 0 where
  pub good : IsGood d n (at d n g j)
  pub word : (at d n g j).word ≡ (at d n g k).word

pub follows : (d : Draft) → IsWellFormed d → IsShaped d → (n : ℕ) (g : Groups) (k top : ℕ) → HasAccesses g → IsFresh d n g k top → IsGood d n (at d n g k)
    → (j : ℕ) → k ≤ j → j ≤ top → Follows d n g k j
follows d whole s n g k top accesses fresh good zero from low =
    let z : k ≡ zero = omega (arith, from) in
    subst (λ (m : ℕ). Follows d n g k m) z (record { good = good; word = refl })
follows d whole s n g k top accesses fresh good (suc j) from low = let split : (k ≡ suc j) ⊎ (k ≤ j) = search (arith, from) in elim split [
  | inl here ↦ subst (λ (m : ℕ). Follows d n g k m) here (record { good = good; word = refl })
  | inr more ↦
      let before = follows d whole s n g k top accesses fresh good j more (omega (arith, low)) in
      let asks = subst (λ (t : DirEntry). IsFromNothing n t (g.entry j)) (sym (directory_at d n g accesses j).1) (fresh.asks j more (omega (arith, low))) in
      let allowed = nothing_allowed d s n (at d n g j) (g.entry j) before.good asks in
      let next : IsGood d n (after_step d (at d n g j) (g.entry j)) = good_step d whole s n (at d n g j) (g.entry j) before.good allowed.0 in
      let none : at d n g (suc j) ≡ after_step d (at d n g j) (g.entry j) = ap (after_steps d (after_step d (at d n g j) (g.entry j))) (fresh.newest (suc j) (omega (arith, more))) in
      record { good = subst (IsGood d n) (sym none) next; word = ap (λ (a : State). a.word) none ∙ allowed.1 ∙ before.word }
]

pub entry_allowed : (d : Draft) → IsWellFormed d → IsShaped d → (n : ℕ) (g : Groups) (k top : ℕ) → HasAccesses g → IsFresh d n g k top → IsGood d n (at d n g k)
    → (j : ℕ) → k ≤ j → j < top → IsAllowed d (at d n g j) (g.entry j)
entry_allowed d whole s n g k top accesses fresh good j from low =
    (nothing_allowed d s n (at d n g j) (g.entry j) (follows d whole s n g k top accesses fresh good j from (omega (arith, low))).good
    (subst (λ (t : DirEntry). IsFromNothing n t (g.entry j)) (sym (directory_at d n g accesses j).1) (fresh.asks j from low))).0

-- A store

each_in : (P : Step → Type 0) (x : Step) (xs ys : List Step) → Each P (xs ++ ys) → P x → Each P (xs ++ x ∷ ys)
each_in P x [] ys h p = (p, h)
each_in P x (y ∷ xs) ys h p = (h.0, each_in P x xs ys h.1 p)

-- the groups are still of accesses
pub inserted_accesses : (old new : ℕ → List Step) (k c : ℕ) (x : Step) → Inserts old new k c x → IsAccessOf (λ e. Unit {0}) x
    → ((j : ℕ) → Each (IsAccessOf (λ e. Unit {0})) (old j)) → (j : ℕ) → Each (IsAccessOf (λ e. Unit {0})) (new j)
inserted_accesses old new k c x i is h j = by (cases_order j k)
  where
    by : (j ≡ k) ⊎ ((j < k) ⊎ (k < j)) → Each (IsAccessOf (λ e. Unit {0})) (new j)
    by (inl same) = subst (λ (m : ℕ). Each (IsAccessOf (λ e. Unit {0})) (new m)) (sym same)
        (subst (Each (IsAccessOf (λ e. Unit {0}))) (sym i.after) (each_in (IsAccessOf (λ e. Unit {0})) x i.front i.back (subst (Each (IsAccessOf (λ e. Unit {0}))) i.before (h k)) is))
    by (inr (inl less)) = subst (Each (IsAccessOf (λ e. Unit {0}))) (sym (i.same j (omega arith))) (h j)
    by (inr (inr more)) = subst (Each (IsAccessOf (λ e. Unit {0}))) (sym (i.same j (omega arith))) (h j)

pub store_in : (d : Draft) → IsWellFormed d → IsShaped d → (n : ℕ) (g : Groups) (top : ℕ) → IsRunTo d n g top → HasAccesses g
    → (k : ℕ) → k ≤ top → IsFresh d n g k top → (new : ℕ → List Step) (c v : ℕ) → c < n → may d (state_of (at d n g k) c) event.Store ≡ true
    → Inserts g.group new k c (Store c v) → IsStored d n g (record g { group = new }) k top c v
store_in d whole s n g top r accesses k low fresh new c v inside writes i = record {
  run = record {
    entries = λ j below. entry j below (cases_order j k);
    groups = λ j below. group j below (cases_order j k);
  };
  bases = bases;
  before = before;
  here = here;
  words = λ j from below. (follows d whole s n h k top accesses_in fresh_in good_here j from below).word ∙ ap (λ (a : State). a.word) here;
}
  where
    h : Groups
    h = record g { group = new }

    good : IsGood d n (base d n g k)
    good = (good_at d whole s n g top r k low).0

    good_k : IsGood d n (at d n g k)
    good_k = (good_at d whole s n g top r k low).1

    all : AreAllowed d (base d n g k) (i.front ++ i.back)
    all = subst (AreAllowed d (base d n g k)) i.before (r.groups k low)

    place : State
    place = after_steps d (base d n g k) i.front

    there : IsGood d n place
    there = good_steps d whole s n (base d n g k) i.front good (allowed_first d (base d n g k) i.front i.back all)

    back : AreAllowed d place i.back
    back = allowed_rest d (base d n g k) i.front i.back all

    is_behind : at d n g k ≡ after_steps d place i.back
    is_behind = at_base d n g k ∙ ap (after_steps d (base d n g k)) i.before ∙ after-append d (base d n g k) i.front i.back

    none : i.back ≡ []
    none = none_alone d s n place c i.back there inside
        (subst (λ (x : ℕ). may d x event.Store ≡ true) (ap (λ (a : State). state_of a c) is_behind ∙ state_kept d c place i.back i.others) writes) back i.others

    is_place : at d n g k ≡ place
    is_place = is_behind ∙ ap (after_steps d place) none

    is_new : new k ≡ i.front ++ Store c v ∷ []
    is_new = i.after ∙ ap (λ (xs : List Step). i.front ++ Store c v ∷ xs) none

    agrees : Agrees d n g h k
    agrees = record { entries = λ j below. refl; groups = λ j below. ap (after_steps d (base d n g j)) (i.same j (omega arith)) ∙ sym (at_base d n g j) }

    bases : (j : ℕ) → j ≤ k → base d n h j ≡ base d n g j
    bases = agrees_base d n g h k agrees

    before : (j : ℕ) → j < k → at d n h j ≡ at d n g j
    before = agrees_at d n g h k agrees

    allowed : IsAllowed d (at d n g k) (Store c v)
    allowed = (omega (arith, inside, good_k.1), writes)

    here : at d n h k ≡ after_step d (at d n g k) (Store c v)
    here =
        at_base d n h k ∙ ap (λ (a : State). after_steps d a (new k)) (bases k (omega arith)) ∙ ap (after_steps d (base d n g k)) is_new
        ∙ after-append d (base d n g k) i.front (Store c v ∷ []) ∙ ap (λ (a : State). after_step d a (Store c v)) (sym is_place)

    good_here : IsGood d n (at d n h k)
    good_here = subst (IsGood d n) (sym here) (good_step d whole s n (at d n g k) (Store c v) good_k allowed)

    accesses_in : HasAccesses h
    accesses_in = inserted_accesses g.group new k c (Store c v) i tt accesses

    fresh_in : IsFresh d n h k top
    fresh_in = record { newest = λ j more. i.same j (omega arith) ∙ fresh.newest j more; asks = fresh.asks }

    entry : (j : ℕ) → j < top → (j ≡ k) ⊎ ((j < k) ⊎ (k < j)) → IsAllowed d (at d n h j) (g.entry j)
    entry j below (inl same) = entry_allowed d whole s n h k top accesses_in fresh_in good_here j (omega arith) below
    entry j below (inr (inl less)) = subst (λ (a : State). IsAllowed d a (g.entry j)) (sym (before j less)) (r.entries j below)
    entry j below (inr (inr more)) = entry_allowed d whole s n h k top accesses_in fresh_in good_here j (omega arith) below

    group : (j : ℕ) → j ≤ top → (j ≡ k) ⊎ ((j < k) ⊎ (k < j)) → AreAllowed d (base d n h j) (new j)
    group j below (inl same) = subst (λ (m : ℕ). AreAllowed d (base d n h m) (new m)) (sym same)
        (subst (λ (a : State). AreAllowed d a (new k)) (sym (bases k (omega arith)))
        (subst (AreAllowed d (base d n g k)) (sym is_new)
        (allowed-append d (base d n g k) i.front (Store c v ∷ []) (allowed_first d (base d n g k) i.front i.back all)
        (subst (λ (a : State). IsAllowed d a (Store c v)) is_place allowed, tt))))
    group j below (inr (inl less)) = subst (λ (a : State). AreAllowed d a (new j)) (sym (bases j (omega arith)))
        (subst (AreAllowed d (base d n g j)) (sym (i.same j (omega arith))) (r.groups j below))
    group j below (inr (inr more)) = subst (AreAllowed d (base d n h j)) (sym (fresh_in.newest j more)) tt
