-- The acts of a row, carried out on the networks, are those on the line with its slot and what it sends alone.
use Rattle.std.proofs.Common.{◌≡◌, ℕ, List, [], ◌∷◌, ◌++◌, get_or, set, Option, Some, None, refl, sym, ap, ◌∙◌}
use Rattle.std.proofs.lemmas.List.{append_assoc, append-nil, set-set, set-get_or}
use Rattle.pg_perm.specs.declared.kinds.Op.{Op}
use Rattle.pg_perm.specs.declared.draft.Draft.{Draft}
use Rattle.pg_table.specs.declared.cache.Desc.{Desc}
use Rattle.pg_table.specs.declared.cache.Act.{Act}
use Rattle.pg_table.specs.declared.cache.Act.TheVariants as act
use Rattle.pg_table.specs.Choices.{answer_acts}
use Rattle.pg_terms.specs.Rows.{reply_to}
use Rattle.pg_controllers.specs.Lines.{Received}
use Rattle.pg_messages.specs.declared.messages.Finish.{Finish}
use Rattle.pg_messages.specs.declared.messages.Ordered.{Ordered}
use Rattle.pg_messages.specs.declared.messages.Ordered.TheVariants.{Forward, AckCount, PutAck}
use Rattle.pg_messages.specs.declared.messages.Reply.{Reply}
use Rattle.pg_queue.specs.Nets.{Nets}
use Rattle.pg_controllers.specs.Lines.{LineResult, send_reply, send_replies, serve, complete_pending, do_act, do_acts, result_of, next_of}
use Rattle.pg_cache.specs.Acts.{LineView, Progress, progress, after_acts}
use Rattle.pg_cache.specs.Rows.{RowResult, with_result}

-- what was sent before
abbrev pub behind : List Reply → LineResult → LineResult
behind rs a = record a { replies = rs ++ a.replies }

say_behind : (rs : List Reply) (who n k : ℕ) (x : Act) (a : LineResult) → send_reply who n k x (behind rs a) ≡ behind rs (send_reply who n k x a)
say_behind rs who n k act.Ack a = ap (λ (z : List Reply). record (send_reply who n k act.Ack a) { replies = z }) (append_assoc rs a.replies _)
say_behind rs who n k (act.Give r) a = ap (λ (z : List Reply). record (send_reply who n k (act.Give r) a) { replies = z }) (append_assoc rs a.replies _)
say_behind rs who n k act.Wb a = ap (λ (z : List Reply). record (send_reply who n k act.Wb a) { replies = z }) (append_assoc rs a.replies _)
say_behind rs who n k act.Hit a = refl
say_behind rs who n k act.Skip a = refl
say_behind rs who n k (act.Send q) a = refl
say_behind rs who n k act.Fill a = refl
say_behind rs who n k act.Need a = refl
say_behind rs who n k act.Count a = refl
say_behind rs who n k act.Done a = refl
say_behind rs who n k act.Defer a = refl
say_behind rs who n k act.Serve a = refl
say_behind rs who n k act.Stall a = refl

all_behind : (rs : List Reply) (who n k : ℕ) (xs : List Act) (a : LineResult) → send_replies who n k xs (behind rs a) ≡ behind rs (send_replies who n k xs a)
all_behind rs who n k [] a = refl
all_behind rs who n k (x ∷ xs) a = ap (send_replies who n k xs) (say_behind rs who n k x a) ∙ all_behind rs who n k xs (send_reply who n k x a)

serve_behind : (d : Draft) (rs : List Reply) (x : ℕ) (ms : List Ordered) (a : LineResult) → serve d x ms (behind rs a) ≡ behind rs (serve d x ms a)
serve_behind d rs x [] a = refl
serve_behind d rs x (Forward f r n k ∷ ms) a =
    ap (serve d (next_of d x f) ms) (all_behind rs r n k (answer_acts d f (reply_to d x f)) a) ∙ serve_behind d rs (next_of d x f) ms (send_replies r n k (answer_acts d f (reply_to d x f)) a)
serve_behind d rs x (AckCount n k ∷ ms) a = serve_behind d rs x ms a
serve_behind d rs x (PutAck k ∷ ms) a = serve_behind d rs x ms a

pending_behind : (rs : List Reply) (o : Option Op) (m : Received) (a : LineResult) → complete_pending o m (behind rs a) ≡ behind rs (complete_pending o m a)
pending_behind rs None m a = refl
pending_behind rs (Some o) m a = refl

act_behind : (d : Draft) (m : Received) (rs : List Reply) (x : Act) (a : LineResult) → do_act d m x (behind rs a) ≡ behind rs (do_act d m x a)
act_behind d m rs act.Ack a = say_behind rs m.who m.count m.stamp act.Ack a
act_behind d m rs (act.Give r) a = say_behind rs m.who m.count m.stamp (act.Give r) a
act_behind d m rs act.Wb a = say_behind rs m.who m.count m.stamp act.Wb a
act_behind d m rs act.Hit a = refl
act_behind d m rs act.Skip a = refl
act_behind d m rs (act.Send q) a = refl
act_behind d m rs act.Fill a = refl
act_behind d m rs act.Need a = refl
act_behind d m rs act.Count a = refl
act_behind d m rs act.Done a = pending_behind rs a.line.pending m a
act_behind d m rs act.Defer a = refl
act_behind d m rs act.Serve a = serve_behind d rs m.final a.line.deferred (record a { line = record a.line { deferred = [] } })
act_behind d m rs act.Stall a = refl

pub acts_behind : (d : Draft) (m : Received) (rs : List Reply) (xs : List Act) (a : LineResult) → do_acts d m xs (behind rs a) ≡ behind rs (do_acts d m xs a)
acts_behind d m rs [] a = refl
acts_behind d m rs (x ∷ xs) a = ap (do_acts d m xs) (act_behind d m rs x a) ∙ acts_behind d m rs xs (do_act d m x a)

-- a line and its networks, made anew
abbrev pub result_with : Desc → ℕ → Progress → RowResult
result_with s n y = record {
  line = record { line = record y.result.line { desc = s }; state = n; core = y.frame.core; room = y.frame.room };
  nets = record { slots = set y.frame.others y.frame.core y.result.slot; lists = y.frame.lists; replies = y.result.replies };
  done = y.result.done;
}

slots_back : (w : Nets) (c : ℕ) → set (set w.slots c None) c (get_or w.slots c None) ≡ w.slots
slots_back w c = set-set w.slots c None (get_or w.slots c None) ∙ set-get_or w.slots c None

pub settles : (d : Draft) (m : Received) (xs : List Act) (s : Desc) (n : ℕ) (x y : LineView) (w v : Nets) (dn : Option Finish) → progress y v dn ≡ after_acts d m xs (progress x w None)
    → record { line = record { line = record y.line { desc = s }; state = n; core = y.core; room = y.room }; nets = v; done = dn }
    ≡ with_result x w n (result_of d (record { acts = xs; next = s }) m x.line (get_or w.slots x.core None))
settles d m xs s n x y w v dn e = sym now ∙ ap (result_with s n) e ∙ after
  where
    now : result_with s n (progress y v dn)
        ≡ record { line = record { line = record y.line { desc = s }; state = n; core = y.core; room = y.room }; nets = v; done = dn }
    now = ap (λ (z : List (Option _)). record { line = record { line = record y.line { desc = s }; state = n; core = y.core; room = y.room }; nets = record v { slots = z }; done = dn }) (slots_back v y.core)

    start : LineResult
    start = record { line = x.line; slot = get_or w.slots x.core None; replies = []; done = None }

    from : (progress x w None).result ≡ behind w.replies start
    from = ap (λ (z : List Reply). record start { replies = z }) (sym (append-nil w.replies))

    all : do_acts d m xs (progress x w None).result ≡ behind w.replies (do_acts d m xs start)
    all = ap (do_acts d m xs) from ∙ acts_behind d m w.replies xs start

    after : result_with s n (after_acts d m xs (progress x w None)) ≡ with_result x w n (result_of d (record { acts = xs; next = s }) m x.line (get_or w.slots x.core None))
    after = ap (λ (z : LineResult). result_with s n (record (progress x w None) { result = z })) all
        ∙ ap (λ (z : List (Option _)). record (with_result x w n (result_of d (record { acts = xs; next = s }) m x.line (get_or w.slots x.core None))) { nets = record w { slots = z; replies = w.replies ++ (do_acts d m xs start).replies } })
        (set-set w.slots x.core None (do_acts d m xs start).slot)
