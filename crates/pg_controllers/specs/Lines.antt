-- What the acts of a cache controller do to its line.
use Rattle.std.specs.Prelude.{ℕ, suc, Bool, true, false, ◌==◌, List, [], ◌∷◌, ◌++◌, Option, Some, None, unwrap_or, if◌then◌else◌}
use Rattle.std.specs.Option.{option_map_or}
use Rattle.pg_perm.specs.declared.kinds.Op.{Op}
use Rattle.pg_perm.specs.declared.kinds.Op.TheVariants as op
use Rattle.pg_perm.specs.declared.kinds.ReqClass.TheVariants.{Dirty}
use Rattle.pg_perm.specs.declared.draft.Draft.{Draft}
use Rattle.pg_perm.specs.declared.draft.ReplyName.TheVariants as reply
use Rattle.pg_terms.specs.Terms.{is, take_row}
use Rattle.pg_terms.specs.Rows.{reply_to, final_state}
use Rattle.pg_shape.specs.CoreRules.{asks_class}
use Rattle.pg_table.specs.declared.cache.Desc.{Desc}
use Rattle.pg_table.specs.declared.cache.Desc.TheVariants.{Ask}
use Rattle.pg_table.specs.declared.cache.Tag.TheVariants.{Gone}
use Rattle.pg_table.specs.declared.cache.Input.{Input}
use Rattle.pg_table.specs.declared.cache.Input.TheVariants as at
use Rattle.pg_table.specs.declared.cache.Act.{Act}
use Rattle.pg_table.specs.declared.cache.Act.TheVariants as act
use Rattle.pg_table.specs.Descriptors.{final_states}
use Rattle.pg_table.specs.Choices.{Choice, answer_acts, store_final}
use Rattle.pg_messages.specs.declared.messages.Ordered.{Ordered}
use Rattle.pg_messages.specs.declared.messages.Ordered.TheVariants.{Forward, AckCount, PutAck}
use Rattle.pg_messages.specs.declared.messages.Ask.{Ask as SentRequest}
use Rattle.pg_messages.specs.declared.messages.Finished.TheVariants as finish
use Rattle.pg_messages.specs.declared.messages.Reply.{Reply}
use Rattle.pg_messages.specs.declared.messages.Reply.TheVariants.{Data, InvAck, WbData}
use Rattle.pg_messages.specs.declared.messages.Finished.{Finished}
use Rattle.pg_messages.specs.declared.messages.Finish.{Finish}
use Rattle.pg_controllers.specs.Networks.{Line, event_of}

-- what a line meets: an operation, or a message with the core that it names, its word, count and stamp; the state from which what was put off is
-- answered, and whether the line holds nothing any more
pub record Received : Type 0 where
  pub op : Op
  pub who : ℕ
  pub word : ℕ
  pub count : ℕ
  pub stamp : ℕ
  pub message : Ordered
  pub final : ℕ
  pub late : Bool

-- a line, its slot, what was sent, and what was completed
pub record LineResult : Type 0 where
  pub line : Line
  pub slot : Option SentRequest
  pub replies : List Reply
  pub done : Option Finish

abbrev pub word_after : Op → ℕ → ℕ
word_after op.Load w = w
word_after (op.Store v) w = v
word_after op.Evict w = w

abbrev pub outcome_of : Op → ℕ → Finished
outcome_of op.Load w = finish.Load w
outcome_of (op.Store v) w = finish.Store v
outcome_of op.Evict w = finish.Evict

-- data and acknowledgements for a core, with a count and a stamp
abbrev pub send_reply : ℕ → ℕ → ℕ → Act → LineResult → LineResult
send_reply who n k act.Ack a = record a { line = record a.line { stamp = k }; replies = a.replies ++ InvAck who k ∷ [] }
send_reply who n k (act.Give r) a = record a { line = record a.line { stamp = k }; replies = a.replies ++ Data r who a.line.word n k ∷ [] }
send_reply who n k act.Wb a = record a { line = record a.line { stamp = k }; replies = a.replies ++ WbData a.line.word k ∷ [] }
send_reply who n k _ a = a

abbrev pub send_replies : ℕ → ℕ → ℕ → List Act → LineResult → LineResult
send_replies who n k [] a = a
send_replies who n k (x ∷ xs) a = send_replies who n k xs (send_reply who n k x a)

-- where a forward leads a line in a state
abbrev pub next_of : Draft → ℕ → ℕ → ℕ
next_of d x f = option_map_or (λ t. t.next) (take_row d x f) x

-- forwards that were put off are answered, from a state on
abbrev pub serve : Draft → ℕ → List Ordered → LineResult → LineResult
serve d x [] a = a
serve d x (Forward f r n k ∷ ms) a = serve d (next_of d x f) ms (send_replies r n k (answer_acts d f (reply_to d x f)) a)
serve d x (AckCount n k ∷ ms) a = serve d x ms a
serve d x (PutAck k ∷ ms) a = serve d x ms a

-- the operation is done
abbrev pub complete : Op → Received → LineResult → LineResult
complete o m a = record a {
  line = record a.line { word = word_after o a.line.word; stamp = m.stamp; need = None; got = 0; pending = None };
  done = Some (record { stamp = m.stamp; fin = outcome_of o a.line.word; late = m.late });
}

-- it is done at once; the line has nothing outstanding
abbrev pub complete_at_once : Op → Received → LineResult → LineResult
complete_at_once o m a = record a { line = record a.line { word = word_after o a.line.word }; done = Some (record { stamp = m.stamp; fin = outcome_of o a.line.word; late = m.late }) }

abbrev pub complete_pending : Option Op → Received → LineResult → LineResult
complete_pending None m a = a
complete_pending (Some o) m a = complete o m a

abbrev pub ask_for : Draft → ℕ → Op → Line → SentRequest
ask_for d q o l = record { request = q; event = event_of o; word = if asks_class Dirty d q then Some l.word else None }

abbrev pub do_act : Draft → Received → Act → LineResult → LineResult
do_act d m act.Hit a = complete_at_once m.op m a
do_act d m act.Skip a = complete_at_once m.op m a
do_act d m (act.Send q) a = record a { line = record a.line { pending = Some m.op }; slot = Some (ask_for d q m.op a.line) }
do_act d m act.Ack a = send_reply m.who m.count m.stamp act.Ack a
do_act d m (act.Give r) a = send_reply m.who m.count m.stamp (act.Give r) a
do_act d m act.Wb a = send_reply m.who m.count m.stamp act.Wb a
do_act d m act.Fill a = record a { line = record a.line { word = m.word; stamp = m.stamp } }
do_act d m act.Need a = record a { line = record a.line { need = Some m.count; stamp = m.stamp } }
do_act d m act.Count a = record a { line = record a.line { got = suc a.line.got } }
do_act d m act.Done a = complete_pending a.line.pending m a
do_act d m act.Defer a = record a { line = record a.line { deferred = a.line.deferred ++ m.message ∷ [] } }
do_act d m act.Serve a = serve d m.final a.line.deferred (record a { line = record a.line { deferred = [] } })
do_act d m act.Stall a = a

abbrev pub do_acts : Draft → Received → List Act → LineResult → LineResult
do_acts d m [] a = a
do_acts d m (x ∷ xs) a = do_acts d m xs (do_act d m x a)

abbrev pub goes_to : Desc → LineResult → LineResult
goes_to s a = record a { line = record a.line { desc = s } }

-- what a choice makes of a core's line and slot
abbrev pub result_of : Draft → Choice → Received → Line → Option SentRequest → LineResult
result_of d c m l slot = goes_to c.next (do_acts d m c.acts (record { line = l; slot = slot; replies = []; done = None }))

-- Inputs

abbrev pub ordered_input : Line → Ordered → Input
ordered_input l (Forward f r n k) = at.Forward f
ordered_input l (AckCount n k) = if n == l.got then at.CountAll else at.CountPart
ordered_input l (PutAck k) = at.PutAck

abbrev pub reply_input : Line → Reply → Input
reply_input l (Data r c w n k) = if n == l.got then at.DataAll r else at.DataPart r
reply_input l (InvAck c k) = if is l.need (suc l.got) then at.AckLast else at.AckMore
reply_input l (WbData w k) = at.AckMore

-- the state in which the operation ends, before what was put off is answered
abbrev pub final_at : Draft → Desc → Input → ℕ
final_at d (Ask e s p t) (at.DataAll r) = unwrap_or (final_state d s e (reply.Reply r)) 0
final_at d (Ask e s p t) at.AckLast = unwrap_or (store_final (final_states d s e)) 0
final_at d _ _ = 0

abbrev pub is_gone : Desc → Bool
is_gone (Ask e s p Gone) = true
is_gone _ = false

abbrev pub received_op : Line → Op → Received
received_op l o = record { op = o; who = 0; word = 0; count = 0; stamp = l.stamp; message = PutAck 0; final = 0; late = false }

abbrev pub received_ordered : Line → Ordered → Received
received_ordered l (Forward f r n k) = record { op = op.Evict; who = r; word = 0; count = n; stamp = k; message = Forward f r n k; final = 0; late = false }
received_ordered l (AckCount n k) = record { op = op.Evict; who = 0; word = 0; count = n; stamp = k; message = AckCount n k; final = 0; late = is_gone l.desc }
received_ordered l (PutAck k) = record { op = op.Evict; who = 0; word = 0; count = 0; stamp = l.stamp; message = PutAck k; final = 0; late = false }

abbrev pub received_reply : Draft → Line → Reply → Received
received_reply d l (Data r c w n k) = record { op = op.Evict; who = 0; word = w; count = n; stamp = k; message = PutAck 0; final = final_at d l.desc (reply_input l (Data r c w n k)); late = is_gone l.desc }
received_reply d l (InvAck c k) = record { op = op.Evict; who = 0; word = 0; count = 0; stamp = l.stamp; message = PutAck 0; final = final_at d l.desc (reply_input l (InvAck c k)); late = is_gone l.desc }
received_reply d l (WbData w k) = record { op = op.Evict; who = 0; word = w; count = 0; stamp = k; message = PutAck 0; final = 0; late = false }
