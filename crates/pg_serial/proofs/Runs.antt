-- A run in groups is a run, and what holds in the states between.
use Rattle.std.proofs.Common.{◌≡◌, ℕ, zero, suc, ◌≤◌, List, [], ◌∷◌, length, refl, sym, ap, subst, ◌∙◌, arith}
use Rattle.std.proofs.lemmas.List.{length-replicate}
use Rattle.pg_perm.specs.declared.step.Step.{Step}
use Rattle.pg_perm.specs.declared.step.Step.TheVariants.{Txn, Stale, Load, Store}
use Rattle.pg_perm.specs.declared.draft.Draft.{Draft}
use Rattle.pg_perm.specs.Drafts.{IsWellFormed}
use Rattle.pg_shape.specs.Shaped.{IsShaped}
use Rattle.pg_directory.specs.DirEntries.{DirEntry}
use Rattle.pg_atomic.specs.States.{State, out_state, initial_state}
use Rattle.pg_atomic.specs.Steps.{IsAllowed, AreAllowed, IsRun, after_step, after_steps}
use Rattle.pg_atomic.specs.Safety.{IsSafe}
use Rattle.pg_atomic.proofs.Operations.{allowed-append, after-append}
use Rattle.pg_atomic.proofs.Reached.{safe_initial_state, safe_step, safe_steps}
use Rattle.pg_serial.specs.Groups.{Groups, at, base, serial, IsRunTo, dir_entry_after_step, dir_entry_after, Each, IsAccessOf, HasAccesses}

pub at_base : (d : Draft) (n : ℕ) (g : Groups) (k : ℕ) → at d n g k ≡ after_steps d (base d n g k) (g.group k)
at_base d n g zero = refl
at_base d n g (suc k) = refl

-- where the run leads
pub serial_leads : (d : Draft) (n : ℕ) (g : Groups) (k : ℕ) → after_steps d (initial_state d n) (serial g k) ≡ at d n g k
serial_leads d n g zero = refl
serial_leads d n g (suc k) =
    after-append d (initial_state d n) (serial g k) (g.entry k ∷ g.group (suc k))
    ∙ ap (λ (a : State). after_steps d (after_step d a (g.entry k)) (g.group (suc k))) (serial_leads d n g k)

run_to : (d : Draft) (n : ℕ) (g : Groups) (top : ℕ) → IsRunTo d n g top → (k : ℕ) → k ≤ top → AreAllowed d (initial_state d n) (serial g k)
run_to d n g top r zero low = r.groups zero low
run_to d n g top r (suc k) low =
    allowed-append d (initial_state d n) (serial g k) (g.entry k ∷ g.group (suc k)) (run_to d n g top r k (omega (arith, low)))
    (subst (λ (a : State). AreAllowed d a (g.entry k ∷ g.group (suc k))) (sym (serial_leads d n g k)) (r.entries k (omega (arith, low)), r.groups (suc k) low))

-- a run of a concatenation
pub is_run : (d : Draft) (n : ℕ) (g : Groups) (top : ℕ) → IsRunTo d n g top → IsRun d n (serial g top)
is_run d n g top r = run_to d n g top r top (omega arith)

-- a safe state of n cores
abbrev pub IsGood : Draft → ℕ → State → Type 0
IsGood d n a = IsSafe d a × (length a.states ≡ n)

pub good_step : (d : Draft) → IsWellFormed d → IsShaped d → (n : ℕ) (a : State) (x : Step) → IsGood d n a → IsAllowed d a x → IsGood d n (after_step d a x)
good_step d whole s n a x good allowed = let p = safe_step d whole s a x good.0 allowed in (p.0, p.1 ∙ good.1)

pub good_steps : (d : Draft) → IsWellFormed d → IsShaped d → (n : ℕ) (a : State) (xs : List Step) → IsGood d n a → AreAllowed d a xs → IsGood d n (after_steps d a xs)
good_steps d whole s n a xs good allowed = let p = safe_steps d whole s a xs good.0 allowed in (p.0, p.1 ∙ good.1)

pub good_at : (d : Draft) → IsWellFormed d → IsShaped d → (n : ℕ) (g : Groups) (top : ℕ) → IsRunTo d n g top → (k : ℕ) → k ≤ top
    → IsGood d n (base d n g k) × IsGood d n (at d n g k)
good_at d whole s n g top r zero low =
    let opens : IsGood d n (initial_state d n) = (safe_initial_state d whole s n, length-replicate n (out_state d)) in
    (opens, good_steps d whole s n (initial_state d n) (g.group zero) opens (r.groups zero low))
good_at d whole s n g top r (suc k) low =
    let before = good_at d whole s n g top r k (omega (arith, low)) in
    let here : IsGood d n (base d n g (suc k)) = good_step d whole s n (at d n g k) (g.entry k) before.1 (r.entries k (omega (arith, low))) in
    (here, good_steps d whole s n (base d n g (suc k)) (g.group (suc k)) here (r.groups (suc k) low))

-- The directory

directory_step : (d : Draft) (a : State) (x : Step) → (after_step d a x).entry ≡ dir_entry_after_step d a.entry x
directory_step d a (Txn c e) = refl
directory_step d a (Stale c) = refl
directory_step d a (Load c v) = refl
directory_step d a (Store c v) = refl

-- accesses leave the directory alone
pub directory_accesses : (d : Draft) (P : ℕ → Type 0) (a : State) (xs : List Step) → Each (IsAccessOf P) xs → (after_steps d a xs).entry ≡ a.entry
directory_accesses d P a [] each = refl
directory_accesses d P a (Txn c e ∷ xs) each = absurd each.0
directory_accesses d P a (Stale c ∷ xs) each = absurd each.0
directory_accesses d P a (Load c v ∷ xs) each = directory_accesses d P a xs each.1
directory_accesses d P a (Store c v ∷ xs) each = directory_accesses d P (after_step d a (Store c v)) xs each.1

-- the directory's part of the states is what it knows after the entries
pub directory_at : (d : Draft) (n : ℕ) (g : Groups) → HasAccesses g → (k : ℕ) → ((base d n g k).entry ≡ dir_entry_after d g.entry k) × ((at d n g k).entry ≡ dir_entry_after d g.entry k)
directory_at d n g h zero = (refl, directory_accesses d (λ c. Unit {0}) (initial_state d n) (g.group zero) (h zero))
directory_at d n g h (suc k) =
    let before = directory_at d n g h k in
    let here : (base d n g (suc k)).entry ≡ dir_entry_after d g.entry (suc k) = directory_step d (at d n g k) (g.entry k) ∙ ap (λ (t : DirEntry). dir_entry_after_step d t (g.entry k)) before.1 in
    (here, directory_accesses d (λ c. Unit {0}) (base d n g (suc k)) (g.group (suc k)) (h (suc k)) ∙ here)
