-- The schedule of a seed: in which order the events of all blocks happen.
use Rattle.std.specs.Prelude.{if◌then◌else◌, ℕ, zero, suc, ◌-◌, ◌%◌, ◌==◌, Bool, not, List, [], ◌++◌, length, get_or, set, Option, Some, None, slice_get}
use Rattle.std.specs.List.{AllZip, find, range_with_len}
use Rattle.std.specs.Option.{option_map, option_map_or, option_and_then}
use Rattle.pg_sched.specs.Picks.{next_state, pick_of}
use Rattle.pg_perm.specs.declared.kinds.Op.{Op}
use Rattle.pg_perm.specs.declared.draft.Draft.{Draft}
use Rattle.pg_table.specs.Tables.{TableState}
use Rattle.pg_messages.specs.declared.messages.WorldEvent.{WorldEvent}
use Rattle.pg_controllers.specs.Worlds.{Picks, World, step}
use Rattle.pg_controllers.specs.Runs.{opening}
use Rattle.pg_safe.specs.Moving.{is_empty}
use Rattle.pg_safe.specs.Work.{total, work}
use Rattle.pg_reached.specs.Reached.{IsReachedWorld}
use Rattle.pg_world.specs.Enabled.{enabled_events}

-- Draws

-- the state from which a seed draws; with seed 0 nothing is drawn
abbrev pub draws_of : ℕ → Option ℕ
draws_of seed = if seed == 0 then None else Some seed

-- the state after the next draw, and its pick; where nothing is drawn each pick is 0
abbrev pub draw : Option ℕ → Option ℕ
draw x = option_map next_state x

abbrev pub drawn_pick : Option ℕ → ℕ
drawn_pick x = option_map_or pick_of x 0

-- Turns

-- the block at a place, and a world of no cores where there is none
abbrev pub block : Draft → List World → ℕ → World
block d ws b = get_or ws b (opening d [])

-- an event is enabled in the block
abbrev pub is_active : Picks → World → Bool
is_active pick w = not (is_empty (enabled_events pick w))

-- the places of n blocks from place b on, cyclically
abbrev pub places_from : ℕ → ℕ → List ℕ
places_from b n = range_with_len b (n - b) ++ range_with_len 0 b

-- the first block at or after place b, cyclically, that is active
abbrev pub active_block : Draft → Picks → List World → ℕ → Option ℕ
active_block d pick ws b = find (λ i. is_active pick (block d ws i)) (places_from b (length ws))

-- the event at a pick, modulo the number of events
abbrev pub event_at : ℕ → List WorldEvent → Option WorldEvent
event_at p es = slice_get es (p % length es)

-- a block, and one of its enabled events
pub record Turn : Type 0 where
  pub block : ℕ
  pub event : WorldEvent

-- what happens next at a pick: the block is at or after the pick modulo the number of blocks, and the event at the pick modulo the number of its enabled events
abbrev pub turn_in : Draft → Picks → List World → ℕ → ℕ → Option Turn
turn_in d pick ws p b = option_map (λ e. record { block = b; event = e }) (event_at p (enabled_events pick (block d ws b)))

abbrev pub next_turn : Draft → Picks → List World → ℕ → Option Turn
next_turn d pick ws p = option_and_then (turn_in d pick ws p) (active_block d pick ws (p % length ws))

-- the blocks after it, which is stepped as by seat 0
abbrev pub after_turn : Draft → Picks → List World → Turn → List World
after_turn d pick ws t = set ws t.block (step d pick (block d ws t.block) (0, t.event))

-- Schedules

-- the blocks after at most n events, where x is drawn from
abbrev pub after_events : Draft → Picks → ℕ → Option ℕ → List World → List World
after_events d pick zero x ws = ws
after_events d pick (suc n) x ws = option_map_or (λ t. after_events d pick n (draw x) (after_turn d pick ws t)) (next_turn d pick ws (drawn_pick (draw x))) ws

-- the work that is left in all blocks
abbrev pub work_of : Draft → List World → ℕ
work_of d ws = total (λ w. work d (length w.cores) w) ws

-- the blocks when no event is enabled any more: each event lowers the work
abbrev pub drained : Draft → Picks → Option ℕ → List World → List World
drained d pick x ws = after_events d pick (work_of d ws) x ws

-- what the schedule of a seed makes of the blocks
abbrev pub scheduled : Draft → Picks → ℕ → List World → List World
scheduled d pick seed ws = drained d pick (draws_of seed) ws

-- each block is reached from the operations that its cores were given
abbrev pub AreReached : Draft → List TableState → List (List (List Op)) → List World → Type 0
AreReached d t given ws = AllZip (IsReachedWorld d t) given ws
