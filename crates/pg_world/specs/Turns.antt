-- A world as a value that passes take turns at: what never changes of it is its root, and its entries are its journal.
use Rattle.std.specs.Prelude.{ℕ, List}
use Rattle.pg_messages.specs.declared.messages.WorldEvent.{WorldEvent}
use Rattle.pg_world.specs.declared.turns.WorldRoot.{WorldRoot}
use Rattle.pg_world.specs.Kept.{WorldView}

abbrev pub root_of : WorldView → WorldRoot
root_of w = record { tables = w.tables; given = w.given; limit = w.limit }

abbrev pub journal_of : WorldView → List (ℕ × WorldEvent)
journal_of w = w.world.journal

-- the seat that made an event
abbrev pub seat_of : ℕ × WorldEvent → ℕ
seat_of e = e.0
