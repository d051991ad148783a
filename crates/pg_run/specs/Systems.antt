-- The worlds of all blocks.
use Rattle.std.specs.Prelude.{ℕ, ◌≡◌, ◌≤◌, Bool, List, Option, length, map}
use Rattle.std.specs.List.{All, range_with_len}
use Rattle.std.specs.Option.{option_map_or}
use Rattle.pg_perm.specs.declared.kinds.Op.{Op}
use Rattle.pg_table.specs.Tables.{Parts}
use Rattle.pg_table.specs.Pick.{pick}
use Rattle.pg_controllers.specs.Worlds.{World, step}
use Rattle.pg_controllers.specs.Runs.{opening}
use Rattle.pg_reached.specs.Reached.{IsReachedWorld}
use Rattle.pg_world.specs.Enabled.{enabled_events}
use Rattle.pg_world.specs.Kept.{WorldView}
use Rattle.pg_script.specs.Scripts.{Operations, on_block}
use Rattle.pg_run.specs.Schedules.{Turn, block, is_active, event_at, next_turn, after_turn, AreReached}

-- the tables that all blocks follow, by block and core the operations that they were given, and the worlds
pub record SystemView : Type 0 where
  pub tables : Parts
  pub given : List (List (List Op))
  pub worlds : List World

abbrev pub system_of : Parts → List WorldView → SystemView
system_of t ws = record { tables = t; given = map (λ w. w.given) ws; worlds = map (λ w. w.world) ws }

-- a block follows the tables, and is reached from the operations that it was given
pub record IsBlock (t : Parts) (w : WorldView) : Type 0 where
  pub tables : w.tables ≡ t
  pub reached : IsReachedWorld t.protocol t.cache w.given w.world

-- there are 1 to 64 blocks
pub record IsSystem (t : Parts) (ws : List WorldView) : Type 0 where
  pub some : 1 ≤ length ws
  pub few : length ws ≤ 64
  pub each : All (IsBlock t) ws

-- each block is reached
abbrev pub IsReachedSystem : SystemView → Type 0
IsReachedSystem s = AreReached s.tables.protocol s.tables.cache s.given s.worlds

-- What happens

-- whether the block at a place is active
abbrev pub active_at : SystemView → ℕ → Bool
active_at s i = is_active (pick s.tables.cache) (block s.tables.protocol s.worlds i)

-- the turn at a pick
abbrev pub turn_at : SystemView → ℕ → Option Turn
turn_at s k = next_turn s.tables.protocol (pick s.tables.cache) s.worlds k

-- a block after the event at a pick, and the same block where it has none
abbrev pub advanced : ℕ → WorldView → WorldView
advanced k w = option_map_or (λ e. record w { world = step w.tables.protocol (pick w.tables.cache) w.world (0, e) }) (event_at k (enabled_events (pick w.tables.cache) w.world)) w

-- all blocks after the turn at a pick, and the same blocks where there is none
abbrev pub after_pick : ℕ → SystemView → SystemView
after_pick k s =
    record s { worlds = option_map_or (after_turn s.tables.protocol (pick s.tables.cache) s.worlds) (turn_at s k) s.worlds }

-- What a script gives

-- the operations of each core on a block
abbrev pub todo_on : Operations → ℕ → List (List Op)
todo_on s b = map (λ c. on_block s c b) (range_with_len 0 s.cores)

-- those on each block
abbrev pub todo_of : Operations → List (List (List Op))
todo_of s = map (todo_on s) (range_with_len 0 s.blocks)

-- a block in which nothing has happened, with its operations to do
pub record IsOpened (t : Parts) (s : Operations) (b : ℕ) (w : WorldView) : Type 0 where
  pub block : IsBlock t w
  pub given : w.given ≡ todo_on s b
  pub world : w.world ≡ opening t.protocol (todo_on s b)

-- the first n blocks, in which nothing has happened
pub record AreOpened (t : Parts) (s : Operations) (n : ℕ) (ws : List WorldView) : Type 0 where
  pub each : All (IsBlock t) ws
  pub given : map (λ w. w.given) ws ≡ map (todo_on s) (range_with_len 0 n)
  pub worlds : map (λ w. w.world) ws ≡ map (opening t.protocol) (map (todo_on s) (range_with_len 0 n))
