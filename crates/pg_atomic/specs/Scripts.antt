-- The steps that operations take, one after another.
use Rattle.std.specs.Prelude.{ℕ, ◌<◌, List, [], ◌∷◌, ◌++◌, if◌then◌else◌}
use Rattle.pg_perm.specs.declared.kinds.Event.TheVariants as event
use Rattle.pg_perm.specs.declared.kinds.Op.{Op}
use Rattle.pg_perm.specs.declared.kinds.Op.TheVariants as op
use Rattle.pg_perm.specs.declared.step.Step.{Step}
use Rattle.pg_perm.specs.declared.step.Step.TheVariants.{Txn, Load, Store}
use Rattle.pg_perm.specs.declared.draft.Draft.{Draft}
use Rattle.pg_atomic.specs.States.{State, state_of}
use Rattle.pg_atomic.specs.Steps.{may, after_steps}

-- the steps of an operation: a load or a store, after a transaction where it takes one, and for an evict a transaction where there is
-- something to evict
abbrev pub op_steps : Draft → State → ℕ → Op → List Step
op_steps d a c op.Load = if may d (state_of a c) event.Load then Load c a.word ∷ [] else Txn c event.Load ∷ Load c a.word ∷ []
op_steps d a c (op.Store v) = if may d (state_of a c) event.Store then Store c v ∷ [] else Txn c event.Store ∷ Store c v ∷ []
op_steps d a c op.Evict = if may d (state_of a c) event.Evict then Txn c event.Evict ∷ [] else []

-- the steps of operations, each of a core
abbrev pub steps_of : Draft → State → List (ℕ × Op) → List Step
steps_of d a [] = []
steps_of d a (o ∷ ops) = op_steps d a o.0 o.1 ++ steps_of d (after_steps d a (op_steps d a o.0 o.1)) ops

-- each operation is of one of n cores
abbrev pub AreOfCores : ℕ → List (ℕ × Op) → Type 0
AreOfCores n [] = Unit {0}
AreOfCores n (o ∷ ops) = (o.0 < n) × AreOfCores n ops
