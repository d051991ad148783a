-- What holds of a block's world between events, and what its calls show.
use Rattle.std.specs.Prelude.{ℕ, ◌≡◌, ◌<◌, ◌≤◌, List, [], ◌∷◌, length}
use Rattle.pg_perm.specs.declared.kinds.Op.{Op}
use Rattle.pg_table.specs.Tables.{Parts}
use Rattle.pg_controllers.specs.Worlds.{World}
use Rattle.pg_safe.specs.Work.{total, operation_work}
use Rattle.pg_reached.specs.Reached.{IsReachedWorld}
use Rattle.pg_block.specs.Blocks.{Program, Block, world_of, given_of}
use Rattle.pg_block.specs.Fitted.{IsFitted}

-- the journal never gets longer than the work that the operations are
abbrev pub longest_journal : List (List Op) → ℕ
longest_journal given = total (total (operation_work (length given))) given

-- how many operations there are
abbrev pub operation_count : List (List Op) → ℕ
operation_count given = total (λ (os : List Op). length os) given

-- there is room for an entry of each operation and one more, and for the journal; a stamp is never too large for its type
pub record HasLimits (b : Block) : Type 0 where
  pub order : operation_count (given_of b.programs) < b.limits.order
  pub done : operation_count (given_of b.programs) < b.limits.done
  pub journal : longest_journal (given_of b.programs) ≤ b.limits.journal
  pub stamps : operation_count (given_of b.programs) < 4294967295

pub record IsKept (b : Block) : Type 0 where
  pub fitted : IsFitted b
  pub limits : HasLimits b
  pub reached : IsReachedWorld b.tables.protocol b.tables.cache (given_of b.programs) (world_of b)

-- What the world's calls show

-- the tables that its controllers follow, by core the operations that it was given, the world, and how long the journal may get
pub record WorldView : Type 0 where
  pub tables : Parts
  pub given : List (List Op)
  pub world : World
  pub limit : ℕ

abbrev pub view_of : Block → WorldView
view_of b = record { tables = b.tables; given = given_of b.programs; world = world_of b; limit = b.limits.journal }

-- each core's operations are all still to begin
abbrev pub AreWhole : List Program → Type 0
AreWhole [] = Unit {0}
AreWhole (p ∷ ps) = (p.left ≡ p.given) × AreWhole ps
