-- What the headline says of a world.
use Rattle.std.specs.Prelude.{ℕ, ◌≡◌, ◌<◌, List, [], ◌++◌, length, map, get_or}
use Rattle.pg_perm.specs.declared.kinds.Op.{Op}
use Rattle.pg_perm.specs.declared.step.Step.{Step}
use Rattle.pg_perm.specs.declared.draft.Draft.{Draft}
use Rattle.pg_atomic.specs.Steps.{IsRun}
use Rattle.pg_controllers.specs.Worlds.{World, core}
use Rattle.pg_orderly.specs.Orderly.{Mark}
use Rattle.pg_serial.specs.Serial.{serial_of, accesses_of, made_by}
use Rattle.pg_refined.specs.Shown.{accesses, entry_of}
use Rattle.pg_refined.specs.Operations.{MadeOf, pending_ops}
use Rattle.pg_refined.specs.Kept.{IsRefined}

-- with n cores: the directory's order as steps, and after the entry with stamp k the accesses that were completed with that stamp: by core, and those of one core in the
-- order in which it completed them
abbrev pub serial_order : ℕ → World → List Step
serial_order n w = serial_of n (map entry_of w.order) (accesses w.done)

-- the operations that core c has still to complete
abbrev pub open_operations : World → ℕ → List Op
open_operations w c = pending_ops (core w c).line.pending ++ (core w c).left

-- core c was given the operations that it has completed and then those that are open; its accesses stand in the serial order as it completed them, and are,
-- one by one, those of the operations that it has completed
pub record HasKeptOrder (given : List (List Op)) (w : World) (c : ℕ) : Type 0 where
  pub completed : List Op
  pub all : get_or given c [] ≡ completed ++ open_operations w c
  pub same : accesses_of c (serial_order (length given) w) ≡ made_by c (accesses w.done)
  pub made : MadeOf c completed (accesses_of c (serial_order (length given) w))

-- the serial order is a run of the atomic machine, with each core's accesses in its order
pub record IsAtomicRun (d : Draft) (given : List (List Op)) (w : World) : Type 0 where
  pub run : IsRun d (length given) (serial_order (length given) w)
  pub order : (c : ℕ) → c < length given → HasKeptOrder given w c

-- a world of which all holds that goes along a run, with some marks
abbrev pub IsRefinedWorld : Draft → List (List Op) → World → Type 0
IsRefinedWorld d given w = (u : ℕ → Mark) × IsRefined d given w u
