-- A line and the networks of its block while the acts of a row are carried out.
use Rattle.std.specs.Prelude.{ℕ, ◌<◌, ◌≤◌, ◌+◌, List, [], ◌∷◌, length, set, get_or, Option, None}
use Rattle.pg_perm.specs.declared.draft.Draft.{Draft}
use Rattle.pg_table.specs.declared.cache.Act.{Act}
use Rattle.pg_table.specs.declared.cache.Act.TheVariants as act
use Rattle.pg_table.specs.Choices.{answer_acts}
use Rattle.pg_terms.specs.Rows.{reply_to}
use Rattle.pg_messages.specs.declared.messages.Ask.{Ask as SentRequest}
use Rattle.pg_messages.specs.declared.messages.Ordered.{Ordered}
use Rattle.pg_messages.specs.declared.messages.Ordered.TheVariants.{Forward, AckCount, PutAck}
use Rattle.pg_messages.specs.declared.messages.Finish.{Finish}
use Rattle.pg_controllers.specs.Networks.{Line}
use Rattle.pg_controllers.specs.Lines.{Received, LineResult, do_act, do_acts, send_reply, send_replies, serve, complete_pending, next_of}
use Rattle.pg_queue.specs.Nets.{Nets, message_limit, ordered_count}

-- a line, the number of its state in the table, its core, and how many forwards it has room to defer
pub record LineView : Type 0 where
  pub line : Line
  pub state : ℕ
  pub core : ℕ
  pub room : ℕ

-- what acts leave as it is: how many cores there are, the slots of the others, and the lists
pub record Frame : Type 0 where
  pub state : ℕ
  pub core : ℕ
  pub room : ℕ
  pub cores : ℕ
  pub others : List (Option SentRequest)
  pub lists : List (List Ordered)

-- the line, its slot, all replies and what was completed so far, and the frame
pub record Progress : Type 0 where
  pub result : LineResult
  pub frame : Frame

abbrev pub result_so_far : LineView → Nets → Option Finish → LineResult
result_so_far x w dn = record { line = x.line; slot = get_or w.slots x.core None; replies = w.replies; done = dn }

abbrev pub frame_of : LineView → Nets → Frame
frame_of x w = record { state = x.state; core = x.core; room = x.room; cores = length w.slots; others = set w.slots x.core None; lists = w.lists }

abbrev pub progress : LineView → Nets → Option Finish → Progress
progress x w dn = record { result = result_so_far x w dn; frame = frame_of x w }

-- after an act, and after all acts of a row
abbrev pub after_act : Draft → Received → Act → Progress → Progress
after_act d m x y = record y { result = do_act d m x y.result }

abbrev pub after_acts : Draft → Received → List Act → Progress → Progress
after_acts d m xs y = record y { result = do_acts d m xs y.result }

-- after a reply was sent to a core, with a count and a stamp
abbrev pub after_reply : ℕ → ℕ → ℕ → Act → Progress → Progress
after_reply who n k x y = record y { result = send_reply who n k x y.result }

-- after a forward was answered as in a state
abbrev pub after_answer : Draft → ℕ → ℕ → ℕ → ℕ → ℕ → Progress → Progress
after_answer d x f who n k y = record y { result = send_replies who n k (answer_acts d f (reply_to d x f)) y.result }

abbrev pub without_deferred : LineResult → LineResult
without_deferred a = record a { line = record a.line { deferred = [] } }

-- a deferred forward is answered as in a state, and leads to the next
abbrev pub serve_one : Draft → ℕ → Ordered → LineResult → LineResult
serve_one d x (Forward f r n k) a = send_replies r n k (answer_acts d f (reply_to d x f)) a
serve_one d x (AckCount n k) a = a
serve_one d x (PutAck k) a = a

abbrev pub state_after_forward : Draft → ℕ → Ordered → ℕ
state_after_forward d x (Forward f r n k) = next_of d x f
state_after_forward d x (AckCount n k) = x
state_after_forward d x (PutAck k) = x

abbrev pub after_one_deferred : Draft → ℕ → Ordered → Progress → Progress
after_one_deferred d x m y = record y { result = serve_one d x m y.result }

-- after all deferred forwards were answered, from a state on
abbrev pub after_deferred : Draft → ℕ → List Ordered → Progress → Progress
after_deferred d x ms y = record y { result = serve d x ms (without_deferred y.result) }

-- a line of which the pending operation is done, while nothing is sent
abbrev pub done_alone : Received → LineView → LineResult
done_alone m x = complete_pending x.line.pending m (record { line = x.line; slot = None; replies = []; done = None })

-- no more messages are on their way than there may be
abbrev pub IsWithinLimit : Progress → Type 0
IsWithinLimit y = ordered_count y.frame.lists + length y.result.replies ≤ message_limit y.frame.cores

-- there is room for what an act sends, defers or counts
abbrev pub Fits : Draft → Received → Act → Progress → Type 0
Fits d m act.Ack y = IsWithinLimit (after_act d m act.Ack y)
Fits d m (act.Give r) y = IsWithinLimit (after_act d m (act.Give r) y)
Fits d m act.Wb y = IsWithinLimit (after_act d m act.Wb y)
Fits d m act.Serve y = IsWithinLimit (after_act d m act.Serve y)
Fits d m act.Defer y = length y.result.line.deferred < y.frame.room
Fits d m (act.Send q) y = y.frame.core < y.frame.cores
Fits d m act.Count y = y.result.line.got < 64
Fits d m act.Hit y = Unit {0}
Fits d m act.Skip y = Unit {0}
Fits d m act.Fill y = Unit {0}
Fits d m act.Need y = Unit {0}
Fits d m act.Done y = Unit {0}
Fits d m act.Stall y = Unit {0}

-- there is room for each act at its turn
abbrev pub AllFit : Draft → Received → List Act → Progress → Type 0
AllFit d m [] y = Unit {0}
AllFit d m (x ∷ xs) y = Fits d m x y × AllFit d m xs (after_act d m x y)
