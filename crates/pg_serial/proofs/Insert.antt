-- An access that is inserted into its group.
use Rattle.std.proofs.Common.{◌≡◌, ◌≢◌, ℕ, suc, ◌<◌, ◌≤◌, ◌⊎◌, inl, inr, Bool, true, false, List, [], ◌∷◌, ◌++◌, length, get_or-set_other, refl, sym, ap, subst, ◌∙◌, arith}
use Rattle.std.proofs.lemmas.Bool.{cases_order}
use Rattle.pg_perm.specs.declared.kinds.Event.TheVariants as event
use Rattle.pg_perm.specs.declared.kinds.Who.{Who}
use Rattle.pg_perm.specs.declared.kinds.Who.TheVariants.{Other, Sharer, Owner}
use Rattle.pg_perm.specs.declared.step.Step.{Step}
use Rattle.pg_perm.specs.declared.step.Step.TheVariants.{Txn, Stale, Load, Store}
use Rattle.pg_perm.specs.declared.draft.Draft.{Draft}
use Rattle.pg_perm.specs.Drafts.{IsWellFormed}
use Rattle.pg_shape.specs.Shaped.{IsShaped}
use Rattle.pg_directory.specs.DirEntries.{DirEntry, who}
use Rattle.pg_directory.specs.Sound.{fits_as}
use Rattle.pg_atomic.specs.States.{State, state_of, hit_next}
use Rattle.pg_atomic.specs.Steps.{may, IsAllowed, AreAllowed, after_step, after_steps}
use Rattle.pg_atomic.proofs.Operations.{allowed-append, after-append}
use Rattle.pg_atomic.proofs.Fits.{shared_loads, owner_loads}
use Rattle.pg_atomic.proofs.Accesses.{single_writer}
use Rattle.pg_serial.specs.Groups.{Groups, at, base, IsRunTo, dir_entry_after, Each, IsAccessOf, HasAccesses, Inserts, IsLoaded}
use Rattle.pg_serial.proofs.Runs.{IsGood, at_base, good_steps, good_at, directory_at, directory_accesses}
use Rattle.pg_serial.proofs.Agree.{Agrees, agrees_base, agrees_at}

-- Lists of accesses

-- the first of steps that are allowed one after another
pub allowed_first : (d : Draft) (a : State) (xs ys : List Step) → AreAllowed d a (xs ++ ys) → AreAllowed d a xs
allowed_first d a [] ys h = tt
allowed_first d a (x ∷ xs) ys h = (h.0, allowed_first d (after_step d a x) xs ys h.1)

-- the rest of them
pub allowed_rest : (d : Draft) (a : State) (xs ys : List Step) → AreAllowed d a (xs ++ ys) → AreAllowed d (after_steps d a xs) ys
allowed_rest d a [] ys h = h
allowed_rest d a (x ∷ xs) ys h = allowed_rest d (after_step d a x) xs ys h.1

pub each_first : (P : Step → Type 0) (xs ys : List Step) → Each P (xs ++ ys) → Each P xs
each_first P [] ys h = tt
each_first P (x ∷ xs) ys h = (h.0, each_first P xs ys h.1)

-- accesses of other cores leave the state of a core alone
pub state_kept : (d : Draft) (c : ℕ) (a : State) (xs : List Step) → Each (IsAccessOf (λ e. e ≢ c)) xs → state_of (after_steps d a xs) c ≡ state_of a c
state_kept d c a [] each = refl
state_kept d c a (Txn e ev ∷ xs) each = absurd each.0
state_kept d c a (Stale e ∷ xs) each = absurd each.0
state_kept d c a (Load e v ∷ xs) each = state_kept d c a xs each.1
state_kept d c a (Store e v ∷ xs) each =
    state_kept d c (after_step d a (Store e v)) xs each.1
    ∙ get_or-set_other a.states e c (hit_next d (state_of a e)) 0 (λ q. each.0 (sym q))

not_both : (b : Bool) → b ≡ true → b ≡ false → ⊥
not_both b h g = absurd (cc (h, g))

-- where a core may read, others only load
pub loads_alone : (d : Draft) → IsShaped d → (n : ℕ) (a : State) (c : ℕ) (xs : List Step) → IsGood d n a → c < n → may d (state_of a c) event.Load ≡ true
    → AreAllowed d a xs → Each (IsAccessOf (λ e. e ≢ c)) xs → after_steps d a xs ≡ a
loads_alone d s n a c [] good inside reads allowed each = refl
loads_alone d s n a c (Txn e ev ∷ xs) good inside reads allowed each = absurd each.0
loads_alone d s n a c (Stale e ∷ xs) good inside reads allowed each = absurd each.0
loads_alone d s n a c (Load e v ∷ xs) good inside reads allowed each = loads_alone d s n a c xs good inside reads allowed.1 each.1
loads_alone d s n a c (Store e v ∷ xs) good inside reads allowed each =
    let there : c < length a.states = omega (arith, inside, good.1) in
    absurd (not_both _ reads (single_writer d s a good.0 e c allowed.0.0 there each.0 allowed.0.1).0)

-- where a core may write, others do nothing
pub none_alone : (d : Draft) → IsShaped d → (n : ℕ) (a : State) (c : ℕ) (xs : List Step) → IsGood d n a → c < n → may d (state_of a c) event.Store ≡ true
    → AreAllowed d a xs → Each (IsAccessOf (λ e. e ≢ c)) xs → xs ≡ []
none_alone d s n a c [] good inside writes allowed each = refl
none_alone d s n a c (Txn e ev ∷ xs) good inside writes allowed each = absurd each.0
none_alone d s n a c (Stale e ∷ xs) good inside writes allowed each = absurd each.0
none_alone d s n a c (Load e v ∷ xs) good inside writes allowed each =
    let there : c < length a.states = omega (arith, inside, good.1) in
    absurd (not_both _ allowed.0.1 (single_writer d s a good.0 c e there allowed.0.0 (λ q. each.0 (sym q)) writes).0)
none_alone d s n a c (Store e v ∷ xs) good inside writes allowed each =
    let there : c < length a.states = omega (arith, inside, good.1) in
    absurd (not_both _ allowed.0.1 (single_writer d s a good.0 c e there allowed.0.0 (λ q. each.0 (sym q)) writes).1)

-- who holds something may read
pub reads_as : (d : Draft) → IsShaped d → (n : ℕ) (w : Who) (x : ℕ) → fits_as d n w x ≡ true → w ≢ Other → may d x event.Load ≡ true
reads_as d s n Other x fit holds = absurd (holds refl)
reads_as d s n Sharer x fit holds = shared_loads d s x fit
reads_as d s n Owner x fit holds = owner_loads d s n x fit

-- A load

pub load_in : (d : Draft) → IsWellFormed d → IsShaped d → (n : ℕ) (g : Groups) (top : ℕ) → IsRunTo d n g top → HasAccesses g
    → (k : ℕ) → k ≤ top → (new : ℕ → List Step) (c v : ℕ) → c < n → who (dir_entry_after d g.entry k) c ≢ Other → v ≡ (at d n g k).word
    → Inserts g.group new k c (Load c v) → IsLoaded d n g (record g { group = new }) top
load_in d whole s n g top r accesses k low new c v inside holds is_word i = record {
  run = record {
    entries = λ j below. subst (λ (a : State). IsAllowed d a (g.entry j)) (sym (states j)) (r.entries j below);
    groups = λ j below. subst (λ (a : State). AreAllowed d a (new j)) (sym (bases j)) (group j below (cases_order j k));
  };
  bases = bases;
  states = states;
}
  where
    h : Groups
    h = record g { group = new }

    good : IsGood d n (base d n g k)
    good = (good_at d whole s n g top r k low).0

    -- where it is placed
    place : State
    place = after_steps d (base d n g k) i.front

    all : AreAllowed d (base d n g k) (i.front ++ i.back)
    all = subst (AreAllowed d (base d n g k)) i.before (r.groups k low)

    front : AreAllowed d (base d n g k) i.front
    front = allowed_first d (base d n g k) i.front i.back all

    back : AreAllowed d place i.back
    back = allowed_rest d (base d n g k) i.front i.back all

    there : IsGood d n place
    there = good_steps d whole s n (base d n g k) i.front good front

    directory : place.entry ≡ dir_entry_after d g.entry k
    directory =
        directory_accesses d (λ e. Unit {0}) (base d n g k) i.front (each_first (λ e. IsAccessOf (λ x. Unit {0}) e) i.front i.back (subst (Each (IsAccessOf (λ e. Unit {0}))) i.before (accesses k)))
        ∙ (directory_at d n g accesses k).0

    below_cores : c < length place.states
    below_cores = omega (arith, inside, there.1)

    reads : may d (state_of place c) event.Load ≡ true
    reads = reads_as d s place.entry.dir (who place.entry c) (state_of place c) (there.0.fits c below_cores)
        (subst (λ (t : DirEntry). who t c ≢ Other) (sym directory) holds)

    quiet : after_steps d place i.back ≡ place
    quiet = loads_alone d s n place c i.back there inside reads back i.others

    is_place : at d n g k ≡ place
    is_place = at_base d n g k ∙ ap (after_steps d (base d n g k)) i.before ∙ after-append d (base d n g k) i.front i.back ∙ quiet

    effect : (j : ℕ) → (j ≡ k) ⊎ ((j < k) ⊎ (k < j)) → after_steps d (base d n g j) (new j) ≡ at d n g j
    effect j (inl same) = subst (λ (m : ℕ). after_steps d (base d n g m) (new m) ≡ at d n g m) (sym same)
        (ap (after_steps d (base d n g k)) i.after ∙ after-append d (base d n g k) i.front (Load c v ∷ i.back) ∙ quiet ∙ sym is_place)
    effect j (inr (inl less)) = ap (after_steps d (base d n g j)) (i.same j (omega arith)) ∙ sym (at_base d n g j)
    effect j (inr (inr more)) = ap (after_steps d (base d n g j)) (i.same j (omega arith)) ∙ sym (at_base d n g j)

    agrees : (m : ℕ) → Agrees d n g h m
    agrees m = record { entries = λ j low. refl; groups = λ j low. effect j (cases_order j k) }

    bases : (j : ℕ) → base d n h j ≡ base d n g j
    bases j = agrees_base d n g h j (agrees j) j (omega arith)

    states : (j : ℕ) → at d n h j ≡ at d n g j
    states j = agrees_at d n g h (suc j) (agrees (suc j)) j (omega arith)

    group : (j : ℕ) → j ≤ top → (j ≡ k) ⊎ ((j < k) ⊎ (k < j)) → AreAllowed d (base d n g j) (new j)
    group j below (inl same) = subst (λ (m : ℕ). AreAllowed d (base d n g m) (new m)) (sym same)
        (subst (AreAllowed d (base d n g k)) (sym i.after)
        (allowed-append d (base d n g k) i.front (Load c v ∷ i.back) front ((below_cores, reads, is_word ∙ ap (λ (a : State). a.word) is_place), back)))
    group j below (inr (inl less)) = subst (AreAllowed d (base d n g j)) (sym (i.same j (omega arith))) (r.groups j below)
    group j below (inr (inr more)) = subst (AreAllowed d (base d n g j)) (sym (i.same j (omega arith))) (r.groups j below)
