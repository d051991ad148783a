-- What goes along every run.
use Rattle.std.specs.Prelude.{ℕ, List, length}
use Rattle.pg_perm.specs.declared.kinds.Op.{Op}
use Rattle.pg_perm.specs.declared.draft.Draft.{Draft}
use Rattle.pg_controllers.specs.Worlds.{World}
use Rattle.pg_orderly.specs.Orderly.{Mark, IsOrderly}
use Rattle.pg_serial.specs.Faithful.{IsFaithful}
use Rattle.pg_refined.specs.Shown.{HasFlags, shown}
use Rattle.pg_refined.specs.Ordering.{HasSlots}
use Rattle.pg_refined.specs.Operations.{HaveTaken}

-- orderly, with its flags, slots and operations, and faithful
pub record IsRefined (d : Draft) (given : List (List Op)) (w : World) (m : ℕ → Mark) : Type 0 where
  pub orderly : IsOrderly d (length given) w m
  pub flags : HasFlags d w
  pub slots : HasSlots (length given) w
  pub taken : HaveTaken given w
  pub faithful : IsFaithful d (length given) (shown d w m)
