-- Where a row sends, puts off and counts no more than there is room for, each of its acts fits.
use Rattle.std.proofs.Common.{◌≡◌, ℕ, ◌+◌, ◌-◌, ◌<◌, ◌≤◌, arith, cond, List, [], ◌∷◌, ◌++◌, length, Option, Some, None, refl, ap, ◌∙◌}
use Rattle.std.proofs.lemmas.List.{length-append}
use Rattle.pg_perm.specs.declared.kinds.Op.{Op}
use Rattle.pg_perm.specs.declared.draft.Draft.{Draft}
use Rattle.pg_table.specs.declared.cache.Act.{Act}
use Rattle.pg_table.specs.declared.cache.Act.TheVariants as act
use Rattle.pg_table.specs.Choices.{answer_acts}
use Rattle.pg_terms.specs.Rows.{reply_to}
use Rattle.pg_controllers.specs.Lines.{Received}
use Rattle.pg_messages.specs.declared.messages.Ordered.{Ordered}
use Rattle.pg_messages.specs.declared.messages.Ordered.TheVariants.{Forward, AckCount, PutAck}
use Rattle.pg_controllers.specs.Lines.{LineResult, send_reply, send_replies, serve, complete_pending, do_act, do_acts, next_of}
use Rattle.pg_cache.specs.Acts.{Progress, IsWithinLimit, Fits, AllFit, after_act, after_acts, without_deferred}
use Rattle.pg_cache.specs.Rows.{is_defer, is_count}
use Rattle.pg_order.specs.Messages.{tally}
use Rattle.pg_cache.proofs.Serves.{say_grows, serve_grows}

-- What is said changes neither what is put off nor what is got

say_keeps : (who n k : ℕ) (x : Act) (a : LineResult) → ((send_reply who n k x a).line.deferred ≡ a.line.deferred) × ((send_reply who n k x a).line.got ≡ a.line.got)
say_keeps who n k act.Ack a = (refl, refl)
say_keeps who n k (act.Give r) a = (refl, refl)
say_keeps who n k act.Wb a = (refl, refl)
say_keeps who n k act.Hit a = (refl, refl)
say_keeps who n k act.Skip a = (refl, refl)
say_keeps who n k (act.Send q) a = (refl, refl)
say_keeps who n k act.Fill a = (refl, refl)
say_keeps who n k act.Need a = (refl, refl)
say_keeps who n k act.Count a = (refl, refl)
say_keeps who n k act.Done a = (refl, refl)
say_keeps who n k act.Defer a = (refl, refl)
say_keeps who n k act.Serve a = (refl, refl)
say_keeps who n k act.Stall a = (refl, refl)

all_keep : (who n k : ℕ) (xs : List Act) (a : LineResult) → ((send_replies who n k xs a).line.deferred ≡ a.line.deferred) × ((send_replies who n k xs a).line.got ≡ a.line.got)
all_keep who n k [] a = (refl, refl)
all_keep who n k (x ∷ xs) a =
    let (p, q) = say_keeps who n k x a in let (r, s) = all_keep who n k xs (send_reply who n k x a) in (r ∙ p, s ∙ q)

serve_keeps : (d : Draft) (x : ℕ) (ms : List Ordered) (a : LineResult) → ((serve d x ms a).line.deferred ≡ a.line.deferred) × ((serve d x ms a).line.got ≡ a.line.got)
serve_keeps d x [] a = (refl, refl)
serve_keeps d x (Forward f r n k ∷ ms) a =
    let (p, q) = all_keep r n k (answer_acts d f (reply_to d x f)) a in
    let (u, v) = serve_keeps d (next_of d x f) ms (send_replies r n k (answer_acts d f (reply_to d x f)) a) in (u ∙ p, v ∙ q)
serve_keeps d x (AckCount n k ∷ ms) a = serve_keeps d x ms a
serve_keeps d x (PutAck k ∷ ms) a = serve_keeps d x ms a

-- how much longer an act makes what is put off, and how much more is got
record Grows (x : Act) (a b : LineResult) : Type 0 where
  sent : length a.replies ≤ length b.replies
  later : length b.line.deferred ≤ cond (is_defer x) 1 0 + length a.line.deferred
  got : b.line.got ≤ cond (is_count x) 1 0 + a.line.got

said_grows : (who n k : ℕ) (x : Act) (a : LineResult) → Grows x a (send_reply who n k x a)
said_grows who n k x a = let (p, q) = say_keeps who n k x a in let l : length (send_reply who n k x a).line.deferred ≡ length a.line.deferred = ap length p in
    record { sent = say_grows who n k x a; later = omega (arith, l); got = omega (arith, q) }

done_grows : (o : Option Op) (m : Received) (a : LineResult) → Grows act.Done a (complete_pending o m a)
done_grows None m a = record { sent = omega arith; later = omega arith; got = omega arith }
done_grows (Some o) m a = record { sent = omega arith; later = omega arith; got = omega arith }

act_grows : (d : Draft) (m : Received) (x : Act) (a : LineResult) → Grows x a (do_act d m x a)
act_grows d m act.Ack a = said_grows m.who m.count m.stamp act.Ack a
act_grows d m (act.Give r) a = said_grows m.who m.count m.stamp (act.Give r) a
act_grows d m act.Wb a = said_grows m.who m.count m.stamp act.Wb a
act_grows d m act.Hit a = record { sent = omega arith; later = omega arith; got = omega arith }
act_grows d m act.Skip a = record { sent = omega arith; later = omega arith; got = omega arith }
act_grows d m (act.Send q) a = record { sent = omega arith; later = omega arith; got = omega arith }
act_grows d m act.Fill a = record { sent = omega arith; later = omega arith; got = omega arith }
act_grows d m act.Need a = record { sent = omega arith; later = omega arith; got = omega arith }
act_grows d m act.Count a = record { sent = omega arith; later = omega arith; got = omega arith }
act_grows d m act.Done a = done_grows a.line.pending m a
act_grows d m act.Defer a = let l : length (a.line.deferred ++ m.message ∷ []) ≡ length a.line.deferred + 1 = length-append a.line.deferred (m.message ∷ []) in
    record { sent = omega arith; later = omega (arith, l); got = omega arith }
act_grows d m act.Serve a =
    let (p, q) = serve_keeps d m.final a.line.deferred (without_deferred a) in
    let l : length (serve d m.final a.line.deferred (without_deferred a)).line.deferred ≡ 0 = ap length p in
    record { sent = serve_grows d m.final a.line.deferred (without_deferred a); later = omega (arith, l); got = omega (arith, q) }
act_grows d m act.Stall a = record { sent = omega arith; later = omega arith; got = omega arith }

acts_grow : (d : Draft) (m : Received) (xs : List Act) (a : LineResult) → length a.replies ≤ length (do_acts d m xs a).replies
acts_grow d m [] a = omega arith
acts_grow d m (x ∷ xs) a = let g = act_grows d m x a in let h = acts_grow d m xs (do_act d m x a) in let s = g.sent in omega (arith, s, h)

first_fits : (d : Draft) (m : Received) (x : Act) (y : Progress) → IsWithinLimit (after_act d m x y) → cond (is_defer x) 1 0 ≤ y.frame.room - length y.result.line.deferred
    → cond (is_count x) 1 0 ≤ 64 - y.result.line.got → y.frame.core < y.frame.cores → Fits d m x y
first_fits d m act.Ack y room defers counts low = room
first_fits d m (act.Give r) y room defers counts low = room
first_fits d m act.Wb y room defers counts low = room
first_fits d m act.Serve y room defers counts low = room
first_fits d m act.Defer y room defers counts low = omega (arith, defers)
first_fits d m (act.Send q) y room defers counts low = low
first_fits d m act.Count y room defers counts low = omega (arith, counts)
first_fits d m act.Hit y room defers counts low = tt
first_fits d m act.Skip y room defers counts low = tt
first_fits d m act.Fill y room defers counts low = tt
first_fits d m act.Need y room defers counts low = tt
first_fits d m act.Done y room defers counts low = tt
first_fits d m act.Stall y room defers counts low = tt

pub all_fit : (d : Draft) (m : Received) (xs : List Act) (y : Progress) → IsWithinLimit (after_acts d m xs y) → tally is_defer xs ≤ y.frame.room - length y.result.line.deferred
    → tally is_count xs ≤ 64 - y.result.line.got → y.frame.core < y.frame.cores → AllFit d m xs y
all_fit d m [] y room defers counts low = tt
all_fit d m (x ∷ xs) y room defers counts low =
    let g = act_grows d m x y.result in
    let sent = acts_grow d m xs (do_act d m x y.result) in
    let later = g.later in let got = g.got in (
      first_fits d m x y (omega (arith, room, sent)) (omega (arith, defers)) (omega (arith, counts)) low,
      all_fit d m xs (after_act d m x y) room (omega (arith, defers, later)) (omega (arith, counts, got)) low,
    )
