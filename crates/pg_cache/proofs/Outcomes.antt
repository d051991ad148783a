-- What the choices at an input complete, and which operation is outstanding afterwards.
use Rattle.std.proofs.Common.{◌≡◌, ℕ, zero, suc, Bool, true, false, List, [], ◌∷◌, ◌++◌, Option, Some, None, refl, ap, subst, ◌∙◌, ◌⊎◌, inl, inr}
use Rattle.std.specs.Prelude.{slice_get, if◌then◌else◌, is_some}
use Rattle.std.specs.Option.{option_and_then}
use Rattle.pg_perm.specs.declared.kinds.Event.{Event}
use Rattle.pg_perm.specs.declared.kinds.Event.TheVariants.{Load, Store, Evict}
use Rattle.pg_perm.specs.declared.kinds.Op.{Op}
use Rattle.pg_perm.specs.declared.kinds.FwdClass.TheVariants as class
use Rattle.pg_perm.specs.declared.kinds.ReqClass.TheVariants.{Read, Write}
use Rattle.pg_perm.specs.declared.draft.Draft.{Draft}
use Rattle.pg_perm.specs.declared.draft.TakeLine.{TakeLine}
use Rattle.pg_perm.specs.declared.draft.ReplyName.TheVariants as reply
use Rattle.pg_terms.specs.Terms.{is, has_class, take_row, cache_is, out, shared, request_of, core_row}
use Rattle.pg_terms.specs.Due.{is_due}
use Rattle.pg_terms.specs.Rows.{allows, store_next, final_state, reply_to}
use Rattle.pg_table.specs.declared.cache.Desc.{Desc}
use Rattle.pg_table.specs.declared.cache.Desc.TheVariants.{Stable, Ask, Leave}
use Rattle.pg_table.specs.declared.cache.Phase.TheVariants.{D, Ad, Ac, A}
use Rattle.pg_table.specs.declared.cache.Tag.{Tag}
use Rattle.pg_table.specs.declared.cache.Tag.TheVariants.{Plain, Kept, Gave, Gone}
use Rattle.pg_table.specs.declared.cache.Input.{Input}
use Rattle.pg_table.specs.declared.cache.Input.TheVariants as at
use Rattle.pg_table.specs.declared.cache.Act.{Act}
use Rattle.pg_table.specs.declared.cache.Act.TheVariants as act
use Rattle.pg_table.specs.Descriptors.{end_under_tag, final_states, store_phase}
use Rattle.pg_table.specs.Choices.{Choice, only_choice, choices_if_some, data_acts, answer_acts, answer_choices, is_later, is_earlier, tag_by, later_choices, evict_request_in, serve_acts, end_choices, when_stable, when_loading, when_storing, when_upgrading, when_waiting, when_leaving, store_final, choices}
use Rattle.pg_messages.specs.declared.messages.Ordered.{Ordered}
use Rattle.pg_messages.specs.declared.messages.Ordered.TheVariants.{Forward, AckCount, PutAck}
use Rattle.pg_controllers.specs.Lines.{Received, LineResult, send_reply, send_replies, serve, complete_pending, do_act, do_acts, next_of}
use Rattle.pg_cache.specs.Rows.{outstanding}
use Rattle.pg_cache.specs.Inputs.{completes}

-- Replies change the stamp and what was sent, and nothing else

abbrev pub Sends : LineResult → LineResult → Type 0
Sends a b = b ≡ record a { line = record a.line { stamp = b.line.stamp }; replies = b.replies }

sends_on : (a b c : LineResult) → Sends a b → Sends b c → Sends a c
sends_on a b c p q = q ∙ ap (λ (z : LineResult). record z { line = record z.line { stamp = c.line.stamp }; replies = c.replies }) p

pub one_sends : (who n k : ℕ) (x : Act) (a : LineResult) → Sends a (send_reply who n k x a)
one_sends who n k act.Ack a = refl
one_sends who n k (act.Give r) a = refl
one_sends who n k act.Wb a = refl
one_sends who n k act.Hit a = refl
one_sends who n k act.Skip a = refl
one_sends who n k (act.Send q) a = refl
one_sends who n k act.Fill a = refl
one_sends who n k act.Need a = refl
one_sends who n k act.Count a = refl
one_sends who n k act.Done a = refl
one_sends who n k act.Defer a = refl
one_sends who n k act.Serve a = refl
one_sends who n k act.Stall a = refl

all_send : (who n k : ℕ) (xs : List Act) (a : LineResult) → Sends a (send_replies who n k xs a)
all_send who n k [] a = refl
all_send who n k (x ∷ xs) a = sends_on a (send_reply who n k x a) (send_replies who n k xs (send_reply who n k x a)) (one_sends who n k x a) (all_send who n k xs (send_reply who n k x a))

pub serve_sends : (d : Draft) (x : ℕ) (ms : List Ordered) (a : LineResult) → Sends a (serve d x ms a)
serve_sends d x [] a = refl
serve_sends d x (Forward f r n k ∷ ms) a =
    sends_on a (send_replies r n k (answer_acts d f (reply_to d x f)) a) (serve d (next_of d x f) ms (send_replies r n k (answer_acts d f (reply_to d x f)) a))
    (all_send r n k (answer_acts d f (reply_to d x f)) a) (serve_sends d (next_of d x f) ms (send_replies r n k (answer_acts d f (reply_to d x f)) a))
serve_sends d x (AckCount n k ∷ ms) a = serve_sends d x ms a
serve_sends d x (PutAck k ∷ ms) a = serve_sends d x ms a

-- Acts that begin or end no operation

abbrev pub begins_or_ends : Act → Bool
begins_or_ends act.Hit = true
begins_or_ends act.Skip = true
begins_or_ends (act.Send q) = true
begins_or_ends act.Done = true
begins_or_ends _ = false

-- they leave what is pending and what was completed
abbrev pub Leaves : LineResult → LineResult → Type 0
Leaves a b = (b.line.pending ≡ a.line.pending) × (b.done ≡ a.done)

sends_leaves : (a b : LineResult) → Sends a b → Leaves a b
sends_leaves a b s = (ap (λ (z : LineResult). z.line.pending) s, ap (λ (z : LineResult). z.done) s)

act_leaves : (d : Draft) (m : Received) (x : Act) (a : LineResult) → begins_or_ends x ≡ false → Leaves a (do_act d m x a)
act_leaves d m act.Hit a h = cc
act_leaves d m act.Skip a h = cc
act_leaves d m (act.Send q) a h = cc
act_leaves d m act.Done a h = cc
act_leaves d m act.Ack a h = sends_leaves a (send_reply m.who m.count m.stamp act.Ack a) (one_sends m.who m.count m.stamp act.Ack a)
act_leaves d m (act.Give r) a h = sends_leaves a (send_reply m.who m.count m.stamp (act.Give r) a) (one_sends m.who m.count m.stamp (act.Give r) a)
act_leaves d m act.Wb a h = sends_leaves a (send_reply m.who m.count m.stamp act.Wb a) (one_sends m.who m.count m.stamp act.Wb a)
act_leaves d m act.Fill a h = (refl, refl)
act_leaves d m act.Need a h = (refl, refl)
act_leaves d m act.Count a h = (refl, refl)
act_leaves d m act.Defer a h = (refl, refl)
act_leaves d m act.Serve a h = sends_leaves (record a { line = record a.line { deferred = [] } }) (serve d m.final a.line.deferred (record a { line = record a.line { deferred = [] } }))
    (serve_sends d m.final a.line.deferred (record a { line = record a.line { deferred = [] } }))
act_leaves d m act.Stall a h = (refl, refl)

abbrev pub AreQuiet : List Act → Type 0
AreQuiet [] = Unit {0}
AreQuiet (x ∷ xs) = (begins_or_ends x ≡ false) × AreQuiet xs

pub quiet_leave : (d : Draft) (m : Received) (xs : List Act) (a : LineResult) → AreQuiet xs → Leaves a (do_acts d m xs a)
quiet_leave d m [] a q = (refl, refl)
quiet_leave d m (x ∷ xs) a q =
    let (p, e) = act_leaves d m x a q.0 in let (r, f) = quiet_leave d m xs (do_act d m x a) q.1 in (r ∙ p, f ∙ e)

-- Acts that end the pending operation

abbrev pub Ends : Draft → List Act → Type 0
Ends d xs = (m : Received) (a : LineResult) (o : Op) → a.line.pending ≡ Some o → ((do_acts d m xs a).line.pending ≡ None) × (is_some (do_acts d m xs a).done ≡ true)

done_ends : (d : Draft) (xs : List Act) → AreQuiet xs → Ends d (act.Done ∷ xs)
done_ends d xs quiet m a o pending =
    let (p, e) = quiet_leave d m xs (do_act d m act.Done a) quiet in
    let (q, f) = at a.line.pending pending in
    (p ∙ q, ap is_some e ∙ f)
  where
    at : (z : Option Op) → z ≡ Some o → ((complete_pending z m a).line.pending ≡ None) × (is_some (complete_pending z m a).done ≡ true)
    at None e = cc
    at (Some z) e = (refl, refl)

serve_quiet : (t : Tag) → AreQuiet (serve_acts t)
serve_quiet Plain = tt
serve_quiet Kept = (refl, tt)
serve_quiet Gave = (refl, tt)
serve_quiet Gone = (refl, tt)

end_plain : (d : Draft) (t : Tag) → Ends d ([] ++ act.Done ∷ [] ++ serve_acts t)
end_plain d t = done_ends d (serve_acts t) (serve_quiet t)

end_fill : (d : Draft) (t : Tag) → Ends d (act.Fill ∷ [] ++ act.Done ∷ [] ++ serve_acts t)
end_fill d t m a o pending = done_ends d (serve_acts t) (serve_quiet t) m (do_act d m act.Fill a) o pending

end_count : (d : Draft) (t : Tag) → Ends d (act.Count ∷ [] ++ act.Done ∷ [] ++ serve_acts t)
end_count d t m a o pending = done_ends d (serve_acts t) (serve_quiet t) m (do_act d m act.Count a) o pending

-- The choices

-- an operation of the core is done at once, or its request is sent; what completes ends the operation that is outstanding; all else leaves it
abbrev pub Starts : Event → Desc → Choice → Type 0
Starts e s c = (outstanding s ≡ None)
    × (((outstanding c.next ≡ None) × ((c.acts ≡ act.Hit ∷ []) ⊎ (c.acts ≡ act.Skip ∷ []))) ⊎ ((q : ℕ) × (outstanding c.next ≡ Some e) × (c.acts ≡ act.Send q ∷ [])))

abbrev pub Goes : Draft → Desc → Choice → Bool → Type 0
Goes d s c true = (is_some (outstanding s) ≡ true) × (outstanding c.next ≡ None) × Ends d c.acts
Goes d s c false = (outstanding c.next ≡ outstanding s) × AreQuiet c.acts

abbrev pub Outcome : Draft → Desc → Input → Choice → Type 0
Outcome d s (at.Core e) c = Starts e s c
Outcome d s i c = Goes d s c (completes i)

abbrev pub Each : (Choice → Type 0) → List Choice → Type 0
Each P [] = Unit {0}
Each P (c ∷ cs) = P c × Each P cs

pub each_get : (P : Choice → Type 0) (cs : List Choice) (k : ℕ) (c : Choice) → Each P cs → slice_get cs k ≡ Some c → P c
each_get P [] k c each get = cc
each_get P (x ∷ cs) zero c each get = let e : x ≡ c = cc get in subst P e each.0
each_get P (x ∷ cs) (suc k) c each get = each_get P cs k c each.1 get

each_if : (P : Choice → Type 0) (b : Bool) (xs ys : List Choice) → Each P xs → Each P ys → Each P (if b then xs else ys)
each_if P true xs ys p q = p
each_if P false xs ys p q = q

each_some : {A : Type 0} (P : Choice → Type 0) (o : Option A) (f : A → List Choice) → ((x : A) → Each P (f x)) → Each P (choices_if_some o f)
each_some P None f h = tt
each_some P (Some x) f h = h x

answers_quiet : (d : Draft) (f : ℕ) (r : Option ℕ) → AreQuiet (answer_acts d f r)
answers_quiet d f r = by (has_class class.Inv d f) (has_class class.Share d f) r
  where
    by : (a b : Bool) (r : Option ℕ) → AreQuiet (if a then act.Ack ∷ [] else if b then data_acts r ++ act.Wb ∷ [] else data_acts r)
    by true b r = (refl, tt)
    by false true None = (refl, tt)
    by false true (Some r) = (refl, (refl, tt))
    by false false None = tt
    by false false (Some r) = (refl, tt)

-- a forward is answered, and leads to a state in which the same is outstanding
an_answer : (d : Draft) (s f : ℕ) (x : Desc) (onward : ℕ → Desc) → ((n : ℕ) → outstanding (onward n) ≡ outstanding x) → Each (λ c. Goes d x c false) (answer_choices d s f onward)
an_answer d s f x onward same = each_if (λ c. Goes d x c false) (is_due d s f) _ [] (each_some (λ c. Goes d x c false) (take_row d s f) (λ (t : TakeLine). only_choice (answer_acts d f t.reply) (onward t.next))
    (λ t. ((same t.next, answers_quiet d f t.reply), tt))) tt

a_later : (d : Draft) (s : ℕ) (e : Event) (p : _) (t : Tag) (f : ℕ) → Each (λ c. Goes d (Ask e s p t) c false) (later_choices d s e p t f)
a_later d s e p t f = by (is_later d s e t f) (has_class class.Inv d f)
  where
    by : (a b : Bool) → Each (λ c. Goes d (Ask e s p t) c false) (if a then record { acts = act.Stall ∷ []; next = Ask e s p t } ∷ record { acts = (if b then act.Ack else act.Defer) ∷ []; next = Ask e s p (tag_by d f) } ∷ [] else [])
    by false b = tt
    by true true = ((refl, (refl, tt)), ((refl, (refl, tt)), tt))
    by true false = ((refl, (refl, tt)), ((refl, (refl, tt)), tt))

an_end : (d : Draft) (x : Desc) (t : Tag) (xs : List Act) (o : Option ℕ) → is_some (outstanding x) ≡ true → Ends d (xs ++ act.Done ∷ [] ++ serve_acts t) → Each (λ c. Goes d x c true) (end_choices d t xs o)
an_end d x t xs o some ends = each_some (λ c. Goes d x c true) (option_and_then (λ x. end_under_tag d x t) o) (λ y. only_choice (xs ++ act.Done ∷ [] ++ serve_acts t) (Stable y)) (λ y. ((some, refl, ends), tt))

sending : (e : Event) (s : ℕ) (o : Option ℕ) (next : Desc) → outstanding next ≡ Some e → Each (Starts e (Stable s)) (choices_if_some o (λ q. only_choice (act.Send q ∷ []) next))
sending e s o next out = each_some (Starts e (Stable s)) o (λ q. only_choice (act.Send q ∷ []) next) (λ q. ((refl, inr (q, out, refl)), tt))

on_core : (d : Draft) (s : ℕ) (e : Event) → Each (Starts e (Stable s)) (when_stable d s (at.Core e))
on_core d s Load = each_if (Starts Load (Stable s)) (cache_is (allows Load) d s) _ _ ((refl, inl (refl, inl refl)), tt) (sending Load s (request_of d Read) _ refl)
on_core d s Store = each_if (Starts Store (Stable s)) (cache_is (allows Store) d s) _ _
    (each_some (Starts Store (Stable s)) (option_and_then (λ l. store_next s Store l.form) (core_row d s Store)) _ (λ t. ((refl, inl (refl, inl refl)), tt)))
    (sending Store s (request_of d Write) _ refl)
on_core d s Evict = each_if (Starts Evict (Stable s)) (is (out d) s) _ _ ((refl, inl (refl, inr refl)), tt)
    (sending Evict s (option_and_then (λ l. evict_request_in l.form) (core_row d s Evict)) _ refl)

on_stable : (d : Draft) (s : ℕ) (i : Input) → Each (Outcome d (Stable s) i) (when_stable d s i)
on_stable d s (at.Core e) = on_core d s e
on_stable d s (at.Forward f) = an_answer d s f (Stable s) (λ t. Stable t) (λ n. refl)
on_stable d s at.CountAll = tt
on_stable d s at.CountPart = tt
on_stable d s at.PutAck = tt
on_stable d s (at.DataAll r) = tt
on_stable d s (at.DataPart r) = tt
on_stable d s at.AckMore = tt
on_stable d s at.AckLast = tt

on_load : (d : Draft) (s : ℕ) (t : Tag) (i : Input) → Each (Outcome d (Ask Load s D t) i) (when_loading d s t i)
on_load d s t (at.Core e) = tt
on_load d s t (at.Forward f) = a_later d s Load D t f
on_load d s t at.CountAll = tt
on_load d s t at.CountPart = tt
on_load d s t at.PutAck = tt
on_load d s t (at.DataAll r) = an_end d (Ask Load s D t) t (act.Fill ∷ []) (final_state d s Load (reply.Reply r)) refl (end_fill d t)
on_load d s t (at.DataPart r) = tt
on_load d s t at.AckMore = tt
on_load d s t at.AckLast = tt

on_store : (d : Draft) (s : ℕ) (t : Tag) (i : Input) → Each (Outcome d (Ask Store s Ad t) i) (when_storing d s t i)
on_store d s t (at.Core e) = tt
on_store d s t (at.Forward f) = each_if (λ c. Goes d (Ask Store s Ad t) c false) (is_earlier d s t f) _ _ (an_answer d s f (Ask Store s Ad t) (λ x. Ask Store x (store_phase d x) Plain) (λ n. refl)) (a_later d s Store Ad t f)
on_store d s t at.CountAll = tt
on_store d s t at.CountPart = tt
on_store d s t at.PutAck = tt
on_store d s t (at.DataAll r) = an_end d (Ask Store s Ad t) t (act.Fill ∷ []) (final_state d s Store (reply.Reply r)) refl (end_fill d t)
on_store d s t (at.DataPart r) = each_if (λ c. Goes d (Ask Store s Ad t) c false) (is_some (shared d)) _ []
    (each_some (λ c. Goes d (Ask Store s Ad t) c false) (final_state d s Store (reply.Reply r)) _ (λ x. ((refl, (refl, (refl, tt))), tt))) tt
on_store d s t at.AckMore = each_if (λ c. Goes d (Ask Store s Ad t) c false) (is_some (shared d)) _ [] ((refl, (refl, tt)), tt) tt
on_store d s t at.AckLast = tt

on_upgrade : (d : Draft) (s : ℕ) (t : Tag) (i : Input) → Each (Outcome d (Ask Store s Ac t) i) (when_upgrading d s i)
on_upgrade d s t (at.Core e) = tt
on_upgrade d s t (at.Forward f) = an_answer d s f (Ask Store s Ac t) (λ x. Ask Store x (store_phase d x) Plain) (λ n. refl)
on_upgrade d s t at.CountAll = an_end d (Ask Store s Ac t) Plain [] (final_state d s Store reply.AckCount) refl (end_plain d Plain)
on_upgrade d s t at.CountPart = each_if (λ c. Goes d (Ask Store s Ac t) c false) (is_some (shared d)) _ [] ((refl, (refl, tt)), tt) tt
on_upgrade d s t at.PutAck = tt
on_upgrade d s t (at.DataAll r) = tt
on_upgrade d s t (at.DataPart r) = tt
on_upgrade d s t at.AckMore = each_if (λ c. Goes d (Ask Store s Ac t) c false) (is_some (shared d)) _ [] ((refl, (refl, tt)), tt) tt
on_upgrade d s t at.AckLast = tt

on_wait : (d : Draft) (s : ℕ) (t : Tag) (i : Input) → Each (Outcome d (Ask Store s A t) i) (when_waiting d s t i)
on_wait d s t (at.Core e) = tt
on_wait d s t (at.Forward f) = a_later d s Store A t f
on_wait d s t at.CountAll = tt
on_wait d s t at.CountPart = tt
on_wait d s t at.PutAck = tt
on_wait d s t (at.DataAll r) = tt
on_wait d s t (at.DataPart r) = tt
on_wait d s t at.AckMore = ((refl, (refl, tt)), tt)
on_wait d s t at.AckLast = an_end d (Ask Store s A t) t (act.Count ∷ []) (store_final (final_states d s Store)) refl (end_count d t)

on_leave : (d : Draft) (s : ℕ) (i : Input) → Each (Outcome d (Leave s) i) (when_leaving d s i)
on_leave d s (at.Core e) = tt
on_leave d s (at.Forward f) = an_answer d s f (Leave s) (λ t. Leave t) (λ n. refl)
on_leave d s at.CountAll = tt
on_leave d s at.CountPart = tt
on_leave d s at.PutAck = ((refl, refl, done_ends d [] tt), tt)
on_leave d s (at.DataAll r) = tt
on_leave d s (at.DataPart r) = tt
on_leave d s at.AckMore = tt
on_leave d s at.AckLast = tt

pub outcomes : (d : Draft) (s : Desc) (i : Input) → Each (Outcome d s i) (choices d s i)
outcomes d (Stable s) i = on_stable d s i
outcomes d (Ask Load s D t) i = on_load d s t i
outcomes d (Ask Load s Ad t) i = tt
outcomes d (Ask Load s Ac t) i = tt
outcomes d (Ask Load s A t) i = tt
outcomes d (Ask Store s D t) i = tt
outcomes d (Ask Store s Ad t) i = on_store d s t i
outcomes d (Ask Store s Ac t) i = on_upgrade d s t i
outcomes d (Ask Store s A t) i = on_wait d s t i
outcomes d (Ask Evict s p t) i = tt
outcomes d (Leave s) i = on_leave d s i
