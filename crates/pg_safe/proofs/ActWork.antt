-- What acts cost: how much work a line, its slot and what it sends hold after them.
use Rattle.std.proofs.Common.{◌≡◌, ℕ, ◌+◌, ◌*◌, ◌≤◌, arith, Bool, true, false, List, [], ◌∷◌, ◌++◌, length, Option, Some, None, refl, sym, ap, subst, inl, inr}
use Rattle.std.specs.Prelude.{if◌then◌else◌, is_some}
use Rattle.std.specs.List.{list_any}
use Rattle.std.proofs.lemmas.List.{length-append}
use Rattle.pg_perm.specs.declared.kinds.Event.{Event}
use Rattle.pg_perm.specs.declared.kinds.Event.TheVariants.{Load, Store, Evict}
use Rattle.pg_perm.specs.declared.kinds.FwdClass.TheVariants.{Inv, Share}
use Rattle.pg_perm.specs.declared.kinds.Op.{Op}
use Rattle.pg_perm.specs.declared.draft.Draft.{Draft}
use Rattle.pg_perm.specs.declared.draft.ReplyName.TheVariants as reply
use Rattle.pg_terms.specs.Terms.{has_class, is, out, cache_is, shared, request_of, core_row}
use Rattle.pg_terms.specs.Rows.{allows, reply_to, final_state, store_next}
use Rattle.pg_table.specs.declared.cache.Desc.{Desc}
use Rattle.pg_table.specs.declared.cache.Desc.TheVariants.{Stable, Ask, Leave}
use Rattle.pg_table.specs.declared.cache.Phase.{Phase}
use Rattle.pg_table.specs.declared.cache.Phase.TheVariants.{D, Ad, Ac, A}
use Rattle.pg_table.specs.declared.cache.Tag.{Tag}
use Rattle.pg_table.specs.declared.cache.Tag.TheVariants.{Plain, Kept, Gave, Gone}
use Rattle.pg_table.specs.declared.cache.Input.{Input}
use Rattle.pg_table.specs.declared.cache.Input.TheVariants as at_input
use Rattle.pg_table.specs.declared.cache.Act.{Act}
use Rattle.pg_table.specs.declared.cache.Act.TheVariants as act
use Rattle.pg_table.specs.Descriptors.{out_state, final_states, store_phase}
use Rattle.pg_table.specs.Choices.{Choice, only_choice, choices_if_some, data_acts, answer_acts, answer_choices, later_choices, evict_request_in, serve_acts, end_choices, choices_if_shared, is_earlier, earlier_choices, store_final, choices}
use Rattle.pg_table.specs.Stalls.{is_stall}
use Rattle.pg_messages.specs.declared.messages.Ordered.{Ordered}
use Rattle.pg_messages.specs.declared.messages.Ordered.TheVariants.{Forward, AckCount, PutAck}
use Rattle.pg_messages.specs.declared.messages.Reply.{Reply}
use Rattle.pg_messages.specs.declared.messages.Reply.TheVariants.{Data, InvAck, WbData}
use Rattle.pg_controllers.specs.Lines.{Received, LineResult, send_replies, serve, next_of, complete_pending, do_act, do_acts}
use Rattle.pg_orderly.proofs.Rows.{IsChosen, none_chosen, only_chosen, where_true, where_given, answers, laters, ends_so}
use Rattle.pg_safe.specs.Work.{total, slot_work, deferred_work}

pub total-append : {X : Type 0} (f : X → ℕ) (xs ys : List X) → total f (xs ++ ys) ≡ total f xs + total f ys
total-append f [] ys = omega arith
total-append f (x ∷ xs) ys = let rest = total-append f xs ys in omega (arith, rest)

-- what a line, its slot and its replies hold
abbrev pub held : Draft → ℕ → LineResult → ℕ
held d n a = slot_work n a.slot + total (deferred_work d) a.line.deferred + length a.replies

-- what an act adds, where the message that it meets is this one
abbrev pub cost : Draft → ℕ → Ordered → Act → ℕ
cost d n q (act.Send r) = 2 * n + 1
cost d n q act.Ack = 1
cost d n q (act.Give r) = 1
cost d n q act.Wb = 1
cost d n q act.Defer = deferred_work d q
cost d n q _ = 0

one_more : (xs : List Reply) (x : Reply) → length (xs ++ x ∷ []) ≡ length xs + 1
one_more xs x = length-append xs (x ∷ [])

-- what an answer sends is no more than what was put off counted
said_work : (d : Draft) (n r i k f : ℕ) (o : Option ℕ) (a : LineResult) → held d n (send_replies r i k (answer_acts d f o) a) ≤ held d n a + deferred_work d (Forward f r i k)
said_work d n r i k f o a = at (has_class Inv d f) (has_class Share d f) o
  where
    at : (b e : Bool) (o : Option ℕ) → held d n (send_replies r i k (if b then act.Ack ∷ [] else if e then data_acts o ++ act.Wb ∷ [] else data_acts o) a) ≤ held d n a + (if e then 2 else 1)
    at true true o = let more = one_more a.replies (InvAck r k) in omega (arith, more)
    at true false o = let more = one_more a.replies (InvAck r k) in omega (arith, more)
    at false true None = let more = one_more a.replies (WbData a.line.word k) in omega (arith, more)
    at false true (Some x) =
        let more = one_more a.replies (Data x r a.line.word i k) in
        let again = one_more (a.replies ++ Data x r a.line.word i k ∷ []) (WbData a.line.word k) in omega (arith, more, again)
    at false false None = omega arith
    at false false (Some x) = let more = one_more a.replies (Data x r a.line.word i k) in omega (arith, more)

serve_work : (d : Draft) (n x : ℕ) (ms : List Ordered) (a : LineResult) → held d n (serve d x ms a) ≤ held d n a + total (deferred_work d) ms
serve_work d n x [] a = omega arith
serve_work d n x (Forward f r i k ∷ ms) a =
    let one = said_work d n r i k f (reply_to d x f) a in
    let rest = serve_work d n (next_of d x f) ms (send_replies r i k (answer_acts d f (reply_to d x f)) a) in omega (arith, one, rest)
serve_work d n x (AckCount i k ∷ ms) a = let rest = serve_work d n x ms a in omega (arith, rest)
serve_work d n x (PutAck k ∷ ms) a = let rest = serve_work d n x ms a in omega (arith, rest)

act_work : (d : Draft) (n : ℕ) (m : Received) (x : Act) (a : LineResult) → held d n (do_act d m x a) ≤ held d n a + cost d n m.message x
act_work d n m act.Hit a = omega arith
act_work d n m act.Skip a = omega arith
act_work d n m (act.Send q) a = omega arith
act_work d n m act.Ack a = let more = one_more a.replies (InvAck m.who m.stamp) in omega (arith, more)
act_work d n m (act.Give r) a = let more = one_more a.replies (Data r m.who a.line.word m.count m.stamp) in omega (arith, more)
act_work d n m act.Wb a = let more = one_more a.replies (WbData a.line.word m.stamp) in omega (arith, more)
act_work d n m act.Fill a = omega arith
act_work d n m act.Need a = omega arith
act_work d n m act.Count a = omega arith
act_work d n m act.Done a = at a.line.pending
  where
    at : (o : Option Op) → held d n (complete_pending o m a) ≤ held d n a + 0
    at None = omega arith
    at (Some o) = omega arith
act_work d n m act.Defer a = let more = total-append (deferred_work d) a.line.deferred (m.message ∷ []) in omega (arith, more)
act_work d n m act.Serve a = let all = serve_work d n m.final a.line.deferred (record a { line = record a.line { deferred = [] } }) in omega (arith, all)
act_work d n m act.Stall a = omega arith

pub acts_work : (d : Draft) (n : ℕ) (m : Received) (xs : List Act) (a : LineResult) → held d n (do_acts d m xs a) ≤ held d n a + total (cost d n m.message) xs
acts_work d n m [] a = omega arith
acts_work d n m (x ∷ xs) a = let first = act_work d n m x a in let rest = acts_work d n m xs (do_act d m x a) in omega (arith, first, rest)

-- What choices cost

-- at each input
abbrev pub bound : Draft → ℕ → Ordered → Input → ℕ
bound d n q (at_input.Core e) = 2 * n + 1
bound d n q (at_input.Forward f) = if has_class Share d f then 2 else 1
bound d n q _ = 0

answer_cost : (d : Draft) (n : ℕ) (q : Ordered) (f : ℕ) (o : Option ℕ) → total (cost d n q) (answer_acts d f o) ≤ (if has_class Share d f then 2 else 1)
answer_cost d n q f o = at (has_class Inv d f) (has_class Share d f) o
  where
    at : (b e : Bool) (o : Option ℕ) → total (cost d n q) (if b then act.Ack ∷ [] else if e then data_acts o ++ act.Wb ∷ [] else data_acts o) ≤ (if e then 2 else 1)
    at true true o = omega arith
    at true false o = omega arith
    at false true None = omega arith
    at false true (Some x) = omega arith
    at false false None = omega arith
    at false false (Some x) = omega arith

answered_cost : (d : Draft) (n : ℕ) (q : Ordered) (s f : ℕ) (onward : ℕ → Desc) (ch : Choice) → IsChosen (answer_choices d s f onward) ch → total (cost d n q) ch.acts ≤ (if has_class Share d f then 2 else 1)
answered_cost d n q s f onward ch h = let a = answers d s f onward ch h in subst (λ xs. total (cost d n q) xs ≤ (if has_class Share d f then 2 else 1)) (sym a.acts) (answer_cost d n q f a.take.reply)

later_cost : (d : Draft) (n s : ℕ) (e : Event) (ph : Phase) (t : Tag) (f r i k : ℕ) (ch : Choice) → IsChosen (later_choices d s e ph t f) ch → list_any is_stall ch.acts ≡ false
    → total (cost d n (Forward f r i k)) ch.acts ≤ (if has_class Share d f then 2 else 1)
later_cost d n s e ph t f r i k ch h moves = elim (laters d s e ph t f ch h).1 [
  | inl waits ↦ absurd (let stalls : list_any is_stall ch.acts ≡ true = ap (λ (c : Choice). list_any is_stall c.acts) waits in cc (stalls, moves))
  | inr takes ↦ subst (λ (c : Choice). total (cost d n (Forward f r i k)) c.acts ≤ (if has_class Share d f then 2 else 1)) (sym takes) (at (has_class Inv d f))
]
  where
    weight : (b : Bool) → 1 ≤ (if b then 2 else 1)
    weight true = omega arith
    weight false = omega arith

    at : (a : Bool) → total (cost d n (Forward f r i k)) ((if a then act.Ack else act.Defer) ∷ []) ≤ (if has_class Share d f then 2 else 1)
    at true = let some = weight (has_class Share d f) in omega (arith, some)
    at false = omega arith

ends_cost : (d : Draft) (n : ℕ) (q : Ordered) (t : Tag) (first : List Act) (o : Option ℕ) (ch : Choice) → IsChosen (end_choices d t first o) ch → total (cost d n q) first ≡ 0 → total (cost d n q) ch.acts ≤ 0
ends_cost d n q t first o ch h free =
    let e = ends_so d t first o ch h in
    let sum = total-append (cost d n q) (first ++ act.Done ∷ []) (serve_acts t) in
    let more = total-append (cost d n q) first (act.Done ∷ []) in
    subst (λ xs. total (cost d n q) xs ≤ 0) (sym e.acts) (let rest = serving t in omega (arith, sum, more, free, rest))
  where
    serving : (t : Tag) → total (cost d n q) (serve_acts t) ≡ 0
    serving Plain = refl
    serving Kept = refl
    serving Gave = refl
    serving Gone = refl

only_cost : (d : Draft) (n b : ℕ) (q : Ordered) (acts : List Act) (next : Desc) (ch : Choice) → IsChosen (only_choice acts next) ch → total (cost d n q) acts ≤ b → total (cost d n q) ch.acts ≤ b
only_cost d n b q acts next ch h low = subst (λ (c : Choice). total (cost d n q) c.acts ≤ b) (sym (only_chosen (record { acts = acts; next = next }) ch h)) low

shares_cost : (d : Draft) (n b : ℕ) (q : Ordered) (acts : List Act) (next : Desc) (ch : Choice) → IsChosen (choices_if_shared d (only_choice acts next)) ch → total (cost d n q) acts ≤ b → total (cost d n q) ch.acts ≤ b
shares_cost d n b q acts next ch h low = only_cost d n b q acts next ch (where_true (is_some (shared d)) (only_choice acts next) ch h).1 low

given_cost : {X : Type 0} (d : Draft) (n b : ℕ) (q : Ordered) (o : Option X) (acts : X → List Act) (next : X → Desc) (ch : Choice) → IsChosen (choices_if_some o (λ x. only_choice (acts x) (next x))) ch
    → ((x : X) → total (cost d n q) (acts x) ≤ b) → total (cost d n q) ch.acts ≤ b
given_cost d n b q o acts next ch h low = let (x, is_it, h) = where_given o (λ x. only_choice (acts x) (next x)) ch h in only_cost d n b q (acts x) (next x) ch h (low x)

either_cost : (d : Draft) (n b : ℕ) (q : Ordered) (t : Bool) (xs ys : List Choice) (ch : Choice) → IsChosen (if t then xs else ys) ch → (IsChosen xs ch → total (cost d n q) ch.acts ≤ b) → (IsChosen ys ch → total (cost d n q) ch.acts ≤ b)
    → total (cost d n q) ch.acts ≤ b
either_cost d n b q true xs ys ch h one other = one h
either_cost d n b q false xs ys ch h one other = other h

stable_cost : (d : Draft) (n s : ℕ) (q : Ordered) (e : Event) (ch : Choice) → IsChosen (choices d (Stable s) (at_input.Core e)) ch → total (cost d n q) ch.acts ≤ 2 * n + 1
stable_cost d n s q Load ch h = either_cost d n (2 * n + 1) q (cache_is (allows Load) d s) (only_choice (act.Hit ∷ []) (Stable s)) (choices_if_some (request_of d Rattle.pg_perm.specs.declared.kinds.ReqClass.TheVariants.Read) (λ r. only_choice (act.Send r ∷ []) (Ask Load (out_state d) D Plain))) ch h
    (λ h. only_cost d n (2 * n + 1) q (act.Hit ∷ []) (Stable s) ch h (omega arith))
    (λ h. given_cost d n (2 * n + 1) q (request_of d Rattle.pg_perm.specs.declared.kinds.ReqClass.TheVariants.Read) (λ r. act.Send r ∷ []) (λ r. Ask Load (out_state d) D Plain) ch h (λ r. omega arith))
stable_cost d n s q Store ch h = either_cost d n (2 * n + 1) q (cache_is (allows Store) d s)
    (choices_if_some (Rattle.std.specs.Option.option_and_then (λ (l : Rattle.pg_perm.specs.declared.draft.CoreLine.CoreLine). store_next s Store l.form) (core_row d s Store)) (λ t. only_choice (act.Hit ∷ []) (Stable t)))
    (choices_if_some (request_of d Rattle.pg_perm.specs.declared.kinds.ReqClass.TheVariants.Write) (λ r. only_choice (act.Send r ∷ []) (Ask Store s (store_phase d s) Plain))) ch h
    (λ h. given_cost d n (2 * n + 1) q (Rattle.std.specs.Option.option_and_then (λ (l : Rattle.pg_perm.specs.declared.draft.CoreLine.CoreLine). store_next s Store l.form) (core_row d s Store)) (λ t. act.Hit ∷ []) (λ t. Stable t) ch h (λ t. omega arith))
    (λ h. given_cost d n (2 * n + 1) q (request_of d Rattle.pg_perm.specs.declared.kinds.ReqClass.TheVariants.Write) (λ r. act.Send r ∷ []) (λ r. Ask Store s (store_phase d s) Plain) ch h (λ r. omega arith))
stable_cost d n s q Evict ch h = either_cost d n (2 * n + 1) q (is (out d) s) (only_choice (act.Skip ∷ []) (Stable s))
    (choices_if_some (Rattle.std.specs.Option.option_and_then (λ (l : Rattle.pg_perm.specs.declared.draft.CoreLine.CoreLine). evict_request_in l.form) (core_row d s Evict)) (λ r. only_choice (act.Send r ∷ []) (Leave s))) ch h
    (λ h. only_cost d n (2 * n + 1) q (act.Skip ∷ []) (Stable s) ch h (omega arith))
    (λ h. given_cost d n (2 * n + 1) q (Rattle.std.specs.Option.option_and_then (λ (l : Rattle.pg_perm.specs.declared.draft.CoreLine.CoreLine). evict_request_in l.form) (core_row d s Evict)) (λ r. act.Send r ∷ []) (λ r. Leave s) ch h (λ r. omega arith))

-- a choice that doesn't let its message wait costs no more than its input's bound
pub choice_cost : (d : Draft) (n : ℕ) (x : Desc) (i : Input) (q : Ordered) (ch : Choice) → IsChosen (choices d x i) ch → ((f : ℕ) → i ≡ at_input.Forward f → list_any is_stall ch.acts ≡ false)
    → ((f : ℕ) → i ≡ at_input.Forward f → (r : ℕ) × (j : ℕ) × (k : ℕ) × (q ≡ Forward f r j k)) → total (cost d n q) ch.acts ≤ bound d n q i
choice_cost d n (Stable s) (at_input.Core e) q ch h moves is_it = stable_cost d n s q e ch h
choice_cost d n (Stable s) (at_input.Forward f) q ch h moves is_it = answered_cost d n q s f (λ t. Stable t) ch h
choice_cost d n (Ask Load s D t) (at_input.DataAll r) q ch h moves is_it = ends_cost d n q t (act.Fill ∷ []) (final_state d s Load (reply.Reply r)) ch h refl
choice_cost d n (Ask Load s D t) (at_input.Forward f) q ch h moves is_it =
    let (r, j, k, same) = is_it f refl in subst (λ q. total (cost d n q) ch.acts ≤ (if has_class Share d f then 2 else 1)) (sym same) (later_cost d n s Load D t f r j k ch h (moves f refl))
choice_cost d n (Ask Store s Ad t) (at_input.DataAll r) q ch h moves is_it = ends_cost d n q t (act.Fill ∷ []) (final_state d s Store (reply.Reply r)) ch h refl
choice_cost d n (Ask Store s Ad t) (at_input.DataPart r) q ch h moves is_it =
    given_cost d n 0 q (final_state d s Store (reply.Reply r)) (λ x. act.Fill ∷ act.Need ∷ []) (λ x. Ask Store s A t) ch
    (where_true (is_some (shared d)) (choices_if_some (final_state d s Store (reply.Reply r)) (λ x. only_choice (act.Fill ∷ act.Need ∷ []) (Ask Store s A t))) ch h).1 (λ x. omega arith)
choice_cost d n (Ask Store s Ad t) at_input.AckMore q ch h moves is_it = shares_cost d n 0 q (act.Count ∷ []) (Ask Store s Ad t) ch h (omega arith)
choice_cost d n (Ask Store s Ad t) (at_input.Forward f) q ch h moves is_it =
    either_cost d n (if has_class Share d f then 2 else 1) q (is_earlier d s t f) (earlier_choices d s f) (later_choices d s Store Ad t f) ch h
    (λ h. answered_cost d n q s f (λ t. Ask Store t (store_phase d t) Plain) ch h)
    (λ h. let (r, j, k, same) = is_it f refl in subst (λ q. total (cost d n q) ch.acts ≤ (if has_class Share d f then 2 else 1)) (sym same) (later_cost d n s Store Ad t f r j k ch h (moves f refl)))
choice_cost d n (Ask Store s Ac t) at_input.CountAll q ch h moves is_it = ends_cost d n q Plain [] (final_state d s Store reply.AckCount) ch h refl
choice_cost d n (Ask Store s Ac t) at_input.CountPart q ch h moves is_it = shares_cost d n 0 q (act.Need ∷ []) (Ask Store s A Plain) ch h (omega arith)
choice_cost d n (Ask Store s Ac t) at_input.AckMore q ch h moves is_it = shares_cost d n 0 q (act.Count ∷ []) (Ask Store s Ac Plain) ch h (omega arith)
choice_cost d n (Ask Store s Ac t) (at_input.Forward f) q ch h moves is_it = answered_cost d n q s f (λ t. Ask Store t (store_phase d t) Plain) ch h
choice_cost d n (Ask Store s A t) at_input.AckMore q ch h moves is_it = only_cost d n 0 q (act.Count ∷ []) (Ask Store s A t) ch h (omega arith)
choice_cost d n (Ask Store s A t) at_input.AckLast q ch h moves is_it = ends_cost d n q t (act.Count ∷ []) (store_final (final_states d s Store)) ch h refl
choice_cost d n (Ask Store s A t) (at_input.Forward f) q ch h moves is_it =
    let (r, j, k, same) = is_it f refl in subst (λ q. total (cost d n q) ch.acts ≤ (if has_class Share d f then 2 else 1)) (sym same) (later_cost d n s Store A t f r j k ch h (moves f refl))
choice_cost d n (Leave s) at_input.PutAck q ch h moves is_it = only_cost d n 0 q (act.Done ∷ []) (Stable (out_state d)) ch h (omega arith)
choice_cost d n (Leave s) (at_input.Forward f) q ch h moves is_it = answered_cost d n q s f (λ t. Leave t) ch h
choice_cost d n _ i q ch h moves is_it = absurd (none_chosen ch h)
