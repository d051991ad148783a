-- The inputs of a line, and the kinds of messages.
use Rattle.std.specs.Prelude.{◌≡◌, Bool, true, false, List}
use Rattle.std.specs.List.{list_any}
use Rattle.std.specs.Option.{option_map_or}
use Rattle.pg_table.specs.declared.cache.Input.{Input}
use Rattle.pg_table.specs.declared.cache.Input.TheVariants as at
use Rattle.pg_table.specs.Tables.{TableState, number_of, find_row}
use Rattle.pg_table.specs.Sound.{states_of}
use Rattle.pg_table.specs.Stalls.{is_stall}
use Rattle.pg_messages.specs.declared.messages.Ordered.{Ordered}
use Rattle.pg_messages.specs.declared.messages.Ordered.TheVariants.{Forward, AckCount, PutAck}
use Rattle.pg_messages.specs.declared.messages.Reply.{Reply}
use Rattle.pg_messages.specs.declared.messages.Reply.TheVariants.{Data, InvAck, WbData}
use Rattle.pg_controllers.specs.Networks.{Line, event_of}
use Rattle.pg_controllers.specs.Lines.{Received, ordered_input}

abbrev pub IsForward : Ordered → Type 0
IsForward (Forward f r n k) = Unit {0}
IsForward (AckCount n k) = ⊥
IsForward (PutAck k) = ⊥

abbrev pub IsAckCount : Ordered → Type 0
IsAckCount (Forward f r n k) = ⊥
IsAckCount (AckCount n k) = Unit {0}
IsAckCount (PutAck k) = ⊥

abbrev pub IsPutAck : Ordered → Type 0
IsPutAck (Forward f r n k) = ⊥
IsPutAck (AckCount n k) = ⊥
IsPutAck (PutAck k) = Unit {0}

abbrev pub IsData : Reply → Type 0
IsData (Data r c w n k) = Unit {0}
IsData (InvAck c k) = ⊥
IsData (WbData w k) = ⊥

abbrev pub IsInvAck : Reply → Type 0
IsInvAck (Data r c w n k) = ⊥
IsInvAck (InvAck c k) = Unit {0}
IsInvAck (WbData w k) = ⊥

-- an input that brings the last of what an outstanding operation waits for: its data or their number with all acknowledgements got, the last of
-- these, or the answer to an evict
abbrev pub completes : Input → Bool
completes (at.Core e) = false
completes (at.Forward f) = false
completes at.CountAll = true
completes at.CountPart = false
completes at.PutAck = true
completes (at.DataAll r) = true
completes (at.DataPart r) = false
completes at.AckMore = false
completes at.AckLast = true

-- an operation of the core
abbrev pub is_core : Input → Bool
is_core (at.Core e) = true
is_core _ = false

-- at the event of an operation it is that operation which is met
abbrev pub IsMetAt : Input → Received → Type 0
IsMetAt (at.Core e) m = event_of m.op ≡ e
IsMetAt _ m = Unit {0}

-- the state of a line has a row for a message, and it is the stall row
abbrev pub has_stall_row : List TableState → Line → Ordered → Bool
has_stall_row t l m = option_map_or (λ r. list_any is_stall r.acts) (find_row t (number_of (states_of t) l.desc) (ordered_input l m)) false
