-- What was put off is answered one by one.
use Rattle.std.proofs.Common.{◌≡◌, ℕ, ◌+◌, ◌≤◌, arith, List, [], ◌∷◌, ◌++◌, length, refl, sym, ap, ◌∙◌}
use Rattle.std.proofs.lemmas.List.{length-append}
use Rattle.pg_perm.specs.declared.draft.Draft.{Draft}
use Rattle.pg_table.specs.declared.cache.Act.{Act}
use Rattle.pg_table.specs.declared.cache.Act.TheVariants as act
use Rattle.pg_table.specs.Choices.{answer_acts}
use Rattle.pg_terms.specs.Rows.{reply_to}
use Rattle.pg_messages.specs.declared.messages.Ordered.{Ordered}
use Rattle.pg_messages.specs.declared.messages.Ordered.TheVariants.{Forward, AckCount, PutAck}
use Rattle.pg_messages.specs.declared.messages.Reply.{Reply}
use Rattle.pg_controllers.specs.Lines.{LineResult, send_reply, send_replies, serve}
use Rattle.pg_cache.specs.Acts.{Progress, IsWithinLimit, without_deferred, serve_one, state_after_forward, after_one_deferred, after_deferred}

say_cleared : (who n k : ℕ) (x : Act) (a : LineResult) → without_deferred (send_reply who n k x a) ≡ send_reply who n k x (without_deferred a)
say_cleared who n k act.Ack a = refl
say_cleared who n k (act.Give r) a = refl
say_cleared who n k act.Wb a = refl
say_cleared who n k act.Hit a = refl
say_cleared who n k act.Skip a = refl
say_cleared who n k (act.Send q) a = refl
say_cleared who n k act.Fill a = refl
say_cleared who n k act.Need a = refl
say_cleared who n k act.Count a = refl
say_cleared who n k act.Done a = refl
say_cleared who n k act.Defer a = refl
say_cleared who n k act.Serve a = refl
say_cleared who n k act.Stall a = refl

all_cleared : (who n k : ℕ) (xs : List Act) (a : LineResult) → without_deferred (send_replies who n k xs a) ≡ send_replies who n k xs (without_deferred a)
all_cleared who n k [] a = refl
all_cleared who n k (x ∷ xs) a = all_cleared who n k xs (send_reply who n k x a) ∙ ap (send_replies who n k xs) (say_cleared who n k x a)

one_cleared : (d : Draft) (x : ℕ) (m : Ordered) (a : LineResult) → without_deferred (serve_one d x m a) ≡ serve_one d x m (without_deferred a)
one_cleared d x (Forward f r n k) a = all_cleared r n k (answer_acts d f (reply_to d x f)) a
one_cleared d x (AckCount n k) a = refl
one_cleared d x (PutAck k) a = refl

serve_step : (d : Draft) (x : ℕ) (m : Ordered) (ms : List Ordered) (a : LineResult) → serve d x (m ∷ ms) a ≡ serve d (state_after_forward d x m) ms (serve_one d x m a)
serve_step d x (Forward f r n k) ms a = refl
serve_step d x (AckCount n k) ms a = refl
serve_step d x (PutAck k) ms a = refl

one_more : (rs : List Reply) (r : Reply) → length rs ≤ length (rs ++ r ∷ [])
one_more rs r = let e : length (rs ++ r ∷ []) ≡ length rs + length (r ∷ []) = length-append rs (r ∷ []) in omega (arith, e)

pub say_grows : (who n k : ℕ) (x : Act) (a : LineResult) → length a.replies ≤ length (send_reply who n k x a).replies
say_grows who n k act.Ack a = one_more a.replies _
say_grows who n k (act.Give r) a = one_more a.replies _
say_grows who n k act.Wb a = one_more a.replies _
say_grows who n k act.Hit a = omega arith
say_grows who n k act.Skip a = omega arith
say_grows who n k (act.Send q) a = omega arith
say_grows who n k act.Fill a = omega arith
say_grows who n k act.Need a = omega arith
say_grows who n k act.Count a = omega arith
say_grows who n k act.Done a = omega arith
say_grows who n k act.Defer a = omega arith
say_grows who n k act.Serve a = omega arith
say_grows who n k act.Stall a = omega arith

all_grows : (who n k : ℕ) (xs : List Act) (a : LineResult) → length a.replies ≤ length (send_replies who n k xs a).replies
all_grows who n k [] a = omega arith
all_grows who n k (x ∷ xs) a = let p = say_grows who n k x a in let q = all_grows who n k xs (send_reply who n k x a) in omega (arith, p, q)

one_grows : (d : Draft) (x : ℕ) (m : Ordered) (a : LineResult) → length a.replies ≤ length (serve_one d x m a).replies
one_grows d x (Forward f r n k) a = all_grows r n k (answer_acts d f (reply_to d x f)) a
one_grows d x (AckCount n k) a = omega arith
one_grows d x (PutAck k) a = omega arith

pub serve_grows : (d : Draft) (x : ℕ) (ms : List Ordered) (a : LineResult) → length a.replies ≤ length (serve d x ms a).replies
serve_grows d x [] a = omega arith
serve_grows d x (m ∷ ms) a =
    let e : serve d x (m ∷ ms) a ≡ serve d (state_after_forward d x m) ms (serve_one d x m a) = serve_step d x m ms a in
    let n : length (serve d x (m ∷ ms) a).replies ≡ length (serve d (state_after_forward d x m) ms (serve_one d x m a)).replies = ap (λ (z : LineResult). length z.replies) e in
    let p = one_grows d x m a in
    let q = serve_grows d (state_after_forward d x m) ms (serve_one d x m a) in omega (arith, n, p, q)

-- a line of which only this is put off any more
abbrev pub with_later : List Ordered → Progress → Progress
with_later ms y = record y { result = record y.result { line = record y.result.line { deferred = ms } } }

pub serves_next : (d : Draft) (x : ℕ) (m : Ordered) (ms : List Ordered) (y : Progress)
    → after_deferred d (state_after_forward d x m) ms (after_one_deferred d x m (with_later ms y)) ≡ after_deferred d x (m ∷ ms) y
serves_next d x m ms y = ap (λ (z : LineResult). record y { result = z }) (
    ap (serve d (state_after_forward d x m) ms) (one_cleared d x m (with_later ms y).result) ∙ sym (serve_step d x m ms (without_deferred y.result)))

pub serves_last : (d : Draft) (x : ℕ) (y : Progress) → y.result.line.deferred ≡ [] → after_deferred d x [] y ≡ y
serves_last d x y e = ap (λ (ms : List Ordered). with_later ms y) (sym e)

pub has_room_next : (d : Draft) (x : ℕ) (m : Ordered) (ms : List Ordered) (y : Progress) → IsWithinLimit (after_deferred d x (m ∷ ms) y) → IsWithinLimit (after_one_deferred d x m (with_later ms y))
has_room_next d x m ms y room =
    let e = serves_next d x m ms y in
    let n : length (after_deferred d (state_after_forward d x m) ms (after_one_deferred d x m (with_later ms y))).result.replies ≡ length (after_deferred d x (m ∷ ms) y).result.replies = ap (λ (z : Progress). length z.result.replies) e in
    let g : length (serve_one d x m (with_later ms y).result).replies ≤ length (after_deferred d (state_after_forward d x m) ms (after_one_deferred d x m (with_later ms y))).result.replies =
    serve_grows d (state_after_forward d x m) ms (without_deferred (serve_one d x m (with_later ms y).result)) in
    omega (arith, room, n, g)
