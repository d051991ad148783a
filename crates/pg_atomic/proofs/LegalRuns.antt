-- The requests among the steps of a run may come one after another.
use Rattle.std.proofs.Common.{ℕ, List, [], ◌∷◌, length, subst}
use Rattle.std.proofs.lemmas.List.{length-replicate}
use Rattle.pg_perm.specs.declared.step.Step.{Step}
use Rattle.pg_perm.specs.declared.step.Step.TheVariants.{Txn, Stale, Load, Store}
use Rattle.pg_perm.specs.declared.draft.Draft.{Draft}
use Rattle.pg_perm.specs.Drafts.{IsWellFormed}
use Rattle.pg_shape.specs.Shaped.{IsShaped}
use Rattle.pg_directory.specs.DirEntries.{Request, initial_entry}
use Rattle.pg_directory.specs.Sound.{AreLegal}
use Rattle.pg_atomic.specs.States.{State, initial_state}
use Rattle.pg_atomic.specs.Steps.{after_step, AreAllowed, IsRun, requests_of}
use Rattle.pg_atomic.specs.Safety.{IsSafe}
use Rattle.pg_atomic.proofs.CoresAfter.{needed_is_legal}
use Rattle.pg_atomic.proofs.Reached.{safe_initial_state, safe_step}

pub allowed_are_legal : (d : Draft) → IsWellFormed d → IsShaped d → (a : State) (steps : List Step) → IsSafe d a → AreAllowed d a steps
    → AreLegal d (length a.states) a.entry (requests_of steps)
allowed_are_legal d whole s a [] safe allowed = tt
allowed_are_legal d whole s a (Txn c e ∷ xs) safe allowed =
    let q : Request = record { core = c; event = e } in
    let p = safe_step d whole s a (Txn c e) safe allowed.0 in
    let rest = allowed_are_legal d whole s (after_step d a (Txn c e)) xs p.0 allowed.1 in
    (allowed.0.0, needed_is_legal d a q s safe allowed.0.0 allowed.0.1, subst (λ (n : ℕ). AreLegal d n (after_step d a (Txn c e)).entry (requests_of xs)) p.1 rest)
allowed_are_legal d whole s a (Stale c ∷ xs) safe allowed = allowed_are_legal d whole s a xs safe allowed.1
allowed_are_legal d whole s a (Load c v ∷ xs) safe allowed = allowed_are_legal d whole s a xs safe allowed.1
allowed_are_legal d whole s a (Store c v ∷ xs) safe allowed =
    let p = safe_step d whole s a (Store c v) safe allowed.0 in
    let rest = allowed_are_legal d whole s (after_step d a (Store c v)) xs p.0 allowed.1 in
    subst (λ (n : ℕ). AreLegal d n a.entry (requests_of xs)) p.1 rest

pub run_is_legal : (d : Draft) (n : ℕ) (steps : List Step) → IsWellFormed d → IsShaped d → IsRun d n steps → AreLegal d n (initial_entry d) (requests_of steps)
run_is_legal d n steps whole s run =
    subst (λ (m : ℕ). AreLegal d m (initial_entry d) (requests_of steps)) (length-replicate n _)
    (allowed_are_legal d whole s (initial_state d n) steps (safe_initial_state d whole s n) run)
