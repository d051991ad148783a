-- What the directory knows after steps.
use Rattle.std.proofs.Common.{◌≡◌, List, [], ◌∷◌, refl}
use Rattle.pg_perm.specs.declared.step.Step.{Step}
use Rattle.pg_perm.specs.declared.step.Step.TheVariants.{Txn, Stale, Load, Store}
use Rattle.pg_perm.specs.declared.draft.Draft.{Draft}
use Rattle.pg_directory.specs.DirEntries.{entry_after_all}
use Rattle.pg_atomic.specs.States.{State}
use Rattle.pg_atomic.specs.Steps.{after_step, after_steps, requests_of}

-- it is the fold of the requests among them
pub entry_after_steps : (d : Draft) (a : State) (steps : List Step) → (after_steps d a steps).entry ≡ entry_after_all d a.entry (requests_of steps)
entry_after_steps d a [] = refl
entry_after_steps d a (Txn c e ∷ xs) = entry_after_steps d (after_step d a (Txn c e)) xs
entry_after_steps d a (Stale c ∷ xs) = entry_after_steps d a xs
entry_after_steps d a (Load c v ∷ xs) = entry_after_steps d a xs
entry_after_steps d a (Store c v ∷ xs) = entry_after_steps d (after_step d a (Store c v)) xs
