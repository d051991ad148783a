-- A pending operation in the order.
use Rattle.std.specs.Prelude.{ℕ, suc, ◌≡◌, ◌<◌, ◌≤◌, ◌==◌, false, Some}
use Rattle.pg_perm.specs.declared.kinds.Op.{Op}
use Rattle.pg_perm.specs.declared.draft.Draft.{Draft}
use Rattle.pg_controllers.specs.Networks.{event_of}
use Rattle.pg_controllers.specs.Worlds.{World, core, order_of}

-- it stands in the order as its core's last entry
pub record IsPendingEntry (d : Draft) (w : World) (c j : ℕ) : Type 0 where
  pub inside : j < (order_of d w).top
  pub own : ((order_of d w).at j).core ≡ c
  pub newest : (i : ℕ) → suc j ≤ i → i < (order_of d w).top → (((order_of d w).at i).core == c) ≡ false
  pub op : Op
  pub pending : (core w c).line.pending ≡ Some op
  pub event : ((order_of d w).at j).event ≡ event_of op
