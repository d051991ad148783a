-- What the row of a table makes of a line and the networks of its block.
use Rattle.std.specs.Prelude.{ℕ, ◌≡◌, ◌<◌, ◌≤◌, ◌+◌, Bool, true, false, List, ◌++◌, length, set, get_or, Option, Some, None}
use Rattle.std.specs.List.{list_any}
use Rattle.std.specs.Option.{option_map}
use Rattle.pg_perm.specs.declared.kinds.Event.{Event}
use Rattle.pg_perm.specs.declared.kinds.Event.TheVariants.{Evict}
use Rattle.pg_perm.specs.declared.draft.Draft.{Draft}
use Rattle.pg_table.specs.declared.cache.Desc.{Desc}
use Rattle.pg_table.specs.declared.cache.Desc.TheVariants.{Stable, Ask, Leave}
use Rattle.pg_table.specs.declared.cache.Act.{Act}
use Rattle.pg_table.specs.declared.cache.Act.TheVariants as act
use Rattle.pg_table.specs.declared.cache.Input.{Input}
use Rattle.pg_table.specs.Controllers.{state_at}
use Rattle.pg_table.specs.Tables.{Parts, TableState, number_of}
use Rattle.pg_table.specs.Sound.{states_of}
use Rattle.pg_table.specs.Choices.{Choice}
use Rattle.pg_table.specs.Pick.{pick}
use Rattle.pg_messages.specs.declared.messages.Finish.{Finish}
use Rattle.pg_messages.specs.declared.messages.Finished.{Finished}
use Rattle.pg_controllers.specs.Networks.{Line, event_of}
use Rattle.pg_controllers.specs.Lines.{Received, LineResult, result_of}
use Rattle.pg_queue.specs.Nets.{Nets, message_limit, ordered_count}
use Rattle.pg_cache.specs.Acts.{LineView}

-- a line and its networks once a row was carried out, and what was completed
pub record RowResult : Type 0 where
  pub line : LineView
  pub nets : Nets
  pub done : Option Finish

-- a line, its slot and the replies as the acts leave them, and the number of the next state
abbrev pub with_result : LineView → Nets → ℕ → LineResult → RowResult
with_result x w n a = record {
  line = record x { line = a.line; state = n };
  nets = record w { slots = set w.slots x.core a.slot; replies = w.replies ++ a.replies };
  done = a.done;
}

-- after a choice that leads to the state with a number
abbrev pub after_choice : Draft → Choice → ℕ → Received → LineView → Nets → RowResult
after_choice d c n m x w = with_result x w n (result_of d c m x.line (get_or w.slots x.core None))

abbrev pub after_pick : Draft → List TableState → Received → LineView → Nets → Option Choice → RowResult
after_pick d t m x w None = record { line = x; nets = w; done = None }
after_pick d t m x w (Some c) = after_choice d c (number_of (states_of t) c.next) m x w

-- after what the table picks at an input; where it has no row for it, all stays as it is
abbrev pub after_row : Parts → Input → Received → LineView → Nets → RowResult
after_row t i m x w = after_pick t.protocol t.cache m x w (pick t.cache x.line.desc i)

-- What a call asks for

-- a line was made with this table: the number of its state is there that of its descriptor
abbrev pub IsMadeWith : Parts → LineView → Type 0
IsMadeWith t x = state_at t.cache x.state ≡ Some x.line.desc

abbrev pub is_defer : Act → Bool
is_defer act.Defer = true
is_defer _ = false

abbrev pub is_count : Act → Bool
is_count act.Count = true
is_count _ = false

-- the networks have room for what a row sends, the line for the forward that it defers, and the count for the acknowledgement that it counts
pub record HasRoomFor (d : Draft) (c : Choice) (m : Received) (x : LineView) (w : Nets) : Type 0 where
  pub sends : ordered_count w.lists + length (w.replies ++ (result_of d c m x.line (get_or w.slots x.core None)).replies) ≤ message_limit (length w.slots)
  pub defers : list_any is_defer c.acts ≡ true → length x.line.deferred < x.room
  pub counts : list_any is_count c.acts ≡ true → x.line.got < 64

-- the line was made with this table, its core is one of those of the networks, the table has a row for the input, and there is room for what the row does
pub record IsReady (t : Parts) (i : Input) (m : Received) (x : LineView) (w : Nets) : Type 0 where
  pub made : IsMadeWith t x
  pub core : x.core < length w.slots
  pub choice : Choice
  pub picked : pick t.cache x.line.desc i ≡ Some choice
  pub room : HasRoomFor t.protocol choice m x w

-- What is outstanding

-- the event of the operation that is outstanding in a state
abbrev pub outstanding : Desc → Option Event
outstanding (Stable s) = None
outstanding (Ask e s p t) = Some e
outstanding (Leave s) = Some Evict

-- an operation is pending exactly where the line's state says that one is outstanding, and it is of that event
abbrev pub HasOutstanding : Line → Type 0
HasOutstanding l = option_map event_of l.pending ≡ outstanding l.desc

-- what was completed, with the stamp of what was met, and whether it came late
abbrev pub finish_of : Received → Option Finished → Option Finish
finish_of m None = None
finish_of m (Some f) = Some (record { stamp = m.stamp; fin = f; late = m.late })

-- a line and its networks alone
pub record LineAndNets : Type 0 where
  pub line : LineView
  pub nets : Nets

abbrev pub without_done : RowResult → LineAndNets
without_done r = record { line = r.line; nets = r.nets }
