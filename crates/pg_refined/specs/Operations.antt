-- The operations of a core, and the accesses that they make.
use Rattle.std.specs.Prelude.{ℕ, ◌≡◌, ◌<◌, List, [], ◌∷◌, ◌++◌, length, get_or, Option, Some, None}
use Rattle.pg_perm.specs.declared.kinds.Op.{Op}
use Rattle.pg_perm.specs.declared.kinds.Op.TheVariants as op
use Rattle.pg_perm.specs.declared.step.Step.{Step}
use Rattle.pg_perm.specs.declared.step.Step.TheVariants as step
use Rattle.pg_controllers.specs.Worlds.{World, core}
use Rattle.pg_serial.specs.Serial.{made_by}
use Rattle.pg_refined.specs.Shown.{accesses}

-- a load makes a load of some word, a store that of its word, and an evict no access
abbrev pub MadeOf : ℕ → List Op → List Step → Type 0
MadeOf c [] xs = xs ≡ []
MadeOf c (op.Evict ∷ os) xs = MadeOf c os xs
MadeOf c (op.Load ∷ os) [] = ⊥
MadeOf c (op.Load ∷ os) (x ∷ xs) = ((v : ℕ) × (x ≡ step.Load c v)) × MadeOf c os xs
MadeOf c (op.Store v ∷ os) [] = ⊥
MadeOf c (op.Store v ∷ os) (x ∷ xs) = (x ≡ step.Store c v) × MadeOf c os xs

abbrev pub pending_ops : Option Op → List Op
pending_ops None = []
pending_ops (Some o) = o ∷ []

-- what core c was given is what it has done, what it waits for, and what is left
pub record HasTaken (given : List (List Op)) (w : World) (c : ℕ) : Type 0 where
  pub taken : List Op
  pub all : get_or given c [] ≡ taken ++ (pending_ops (core w c).line.pending ++ (core w c).left)
  pub made : MadeOf c taken (made_by c (accesses w.done))

abbrev pub HaveTaken : List (List Op) → World → Type 0
HaveTaken given w = (c : ℕ) → c < length given → HasTaken given w c
