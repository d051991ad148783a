-- The worlds of which the laws of this crate speak.
use Rattle.std.specs.Prelude.{List}
use Rattle.pg_perm.specs.declared.kinds.Op.{Op}
use Rattle.pg_perm.specs.declared.draft.Draft.{Draft}
use Rattle.pg_perm.specs.Drafts.{IsWellFormed}
use Rattle.pg_shape.specs.Shaped.{IsShaped}
use Rattle.pg_table.specs.Tables.{TableState}
use Rattle.pg_table.specs.Pick.{pick}
use Rattle.pg_table.specs.Sound.{IsSoundCache}
use Rattle.pg_controllers.specs.Worlds.{World}
use Rattle.pg_controllers.specs.Runs.{IsReached}

-- a world that is reached: the protocol is well formed and has the shape, the caches follow a sound table of it, each core began with the operations that
-- it was given, and the world's journal, each of whose events could happen at its turn, leads from there to the world
pub record IsReachedWorld (d : Draft) (t : List TableState) (given : List (List Op)) (w : World) : Type 0 where
  pub well_formed : IsWellFormed d
  pub shaped : IsShaped d
  pub sound : IsSoundCache d t
  pub reached : IsReached d (pick t) given w
