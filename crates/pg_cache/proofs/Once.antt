-- A row puts off at most the message that it is for, and counts at most once.
use Rattle.std.proofs.Common.{◌≡◌, ℕ, zero, suc, ◌≤◌, arith, Bool, true, false, List, [], ◌∷◌, ◌++◌, Option, Some, None, refl, subst, ◌⊎◌, inl, inr}
use Rattle.std.specs.Prelude.{slice_get, if◌then◌else◌, is_some}
use Rattle.std.specs.Option.{option_and_then}
use Rattle.pg_perm.specs.declared.kinds.Event.{Event}
use Rattle.pg_perm.specs.declared.kinds.Event.TheVariants.{Load, Store, Evict}
use Rattle.pg_perm.specs.declared.kinds.FwdClass.TheVariants as class
use Rattle.pg_perm.specs.declared.kinds.ReqClass.TheVariants.{Read, Write}
use Rattle.pg_perm.specs.declared.draft.Draft.{Draft}
use Rattle.pg_perm.specs.declared.draft.TakeLine.{TakeLine}
use Rattle.pg_perm.specs.declared.draft.ReplyName.TheVariants as reply
use Rattle.pg_terms.specs.Terms.{is, has_class, take_row, cache_is, out, shared, request_of, core_row}
use Rattle.pg_terms.specs.Due.{is_due}
use Rattle.pg_terms.specs.Rows.{allows, store_next, final_state}
use Rattle.pg_table.specs.declared.cache.Desc.{Desc}
use Rattle.pg_table.specs.declared.cache.Desc.TheVariants.{Stable, Ask, Leave}
use Rattle.pg_table.specs.declared.cache.Phase.TheVariants.{D, Ad, Ac, A}
use Rattle.pg_table.specs.declared.cache.Tag.{Tag}
use Rattle.pg_table.specs.declared.cache.Tag.TheVariants.{Plain, Kept, Gave, Gone}
use Rattle.pg_table.specs.declared.cache.Input.{Input}
use Rattle.pg_table.specs.declared.cache.Input.TheVariants as at
use Rattle.pg_table.specs.declared.cache.Act.{Act}
use Rattle.pg_table.specs.declared.cache.Act.TheVariants as act
use Rattle.pg_table.specs.Descriptors.{end_under_tag, final_states, store_phase}
use Rattle.pg_table.specs.Choices.{Choice, only_choice, choices_if_some, data_acts, answer_acts, answer_choices, is_later, is_earlier, tag_by, later_choices, evict_request_in, serve_acts, end_choices, when_stable, when_loading, when_storing, when_upgrading, when_waiting, when_leaving, store_final, choices}
use Rattle.pg_cache.specs.Rows.{is_defer, is_count}
use Rattle.pg_order.specs.Messages.{tally}

abbrev pub AreOnce : List Act → Type 0
AreOnce xs = ((tally is_defer xs ≡ 0) ⊎ (xs ≡ act.Defer ∷ [])) × (tally is_count xs ≤ 1)

abbrev pub Each : List Choice → Type 0
Each [] = Unit {0}
Each (c ∷ cs) = AreOnce c.acts × Each cs

pub each_get : (cs : List Choice) (k : ℕ) (c : Choice) → Each cs → slice_get cs k ≡ Some c → AreOnce c.acts
each_get [] k c each get = cc
each_get (x ∷ cs) zero c each get = let e : x ≡ c = cc get in subst (λ (z : Choice). AreOnce z.acts) e each.0
each_get (x ∷ cs) (suc k) c each get = each_get cs k c each.1 get

each_if : (b : Bool) (xs ys : List Choice) → Each xs → Each ys → Each (if b then xs else ys)
each_if true xs ys p q = p
each_if false xs ys p q = q

each_given : {A : Type 0} (o : Option A) (f : A → List Choice) → ((x : A) → Each (f x)) → Each (choices_if_some o f)
each_given None f h = tt
each_given (Some x) f h = h x

plain : (x : Act) (s : Desc) → AreOnce (x ∷ []) → Each (only_choice (x ∷ []) s)
plain x s h = (h, tt)

quiet : (d : Draft) (f : ℕ) (r : Option ℕ) → AreOnce (answer_acts d f r)
quiet d f r = at (has_class class.Inv d f) (has_class class.Share d f) r
  where
    at : (a b : Bool) (r : Option ℕ) → AreOnce (if a then act.Ack ∷ [] else if b then data_acts r ++ act.Wb ∷ [] else data_acts r)
    at true b r = (inl refl, omega arith)
    at false true None = (inl refl, omega arith)
    at false true (Some r) = (inl refl, omega arith)
    at false false None = (inl refl, omega arith)
    at false false (Some r) = (inl refl, omega arith)

an_answer : (d : Draft) (s f : ℕ) (onward : ℕ → Desc) → Each (answer_choices d s f onward)
an_answer d s f onward = each_if (is_due d s f) _ [] (each_given (take_row d s f) (λ (t : TakeLine). only_choice (answer_acts d f t.reply) (onward t.next)) (λ t. (quiet d f t.reply, tt))) tt

a_later : (d : Draft) (s : ℕ) (e : Event) (p : _) (t : Tag) (f : ℕ) → Each (later_choices d s e p t f)
a_later d s e p t f = at (is_later d s e t f) (has_class class.Inv d f)
  where
    at : (a b : Bool) → Each (if a then record { acts = act.Stall ∷ []; next = Ask e s p t } ∷ record { acts = (if b then act.Ack else act.Defer) ∷ []; next = Ask e s p (tag_by d f) } ∷ [] else [])
    at false b = tt
    at true true = ((inl refl, omega arith), ((inl refl, omega arith), tt))
    at true false = ((inl refl, omega arith), ((inr refl, omega arith), tt))

an_end : (d : Draft) (t : Tag) (xs : List Act) (o : Option ℕ) → AreOnce (xs ++ act.Done ∷ [] ++ serve_acts t) → Each (end_choices d t xs o)
an_end d t xs o h = each_given (option_and_then (λ x. end_under_tag d x t) o) (λ x. only_choice (xs ++ act.Done ∷ [] ++ serve_acts t) (Stable x)) (λ x. (h, tt))

by_fill : (t : Tag) → AreOnce (act.Fill ∷ [] ++ act.Done ∷ [] ++ serve_acts t)
by_fill Plain = (inl refl, omega arith)
by_fill Kept = (inl refl, omega arith)
by_fill Gave = (inl refl, omega arith)
by_fill Gone = (inl refl, omega arith)

by_last : (t : Tag) → AreOnce (act.Count ∷ [] ++ act.Done ∷ [] ++ serve_acts t)
by_last Plain = (inl refl, omega arith)
by_last Kept = (inl refl, omega arith)
by_last Gave = (inl refl, omega arith)
by_last Gone = (inl refl, omega arith)

asking : (o : Option ℕ) (s : Desc) → Each (choices_if_some o (λ q. only_choice (act.Send q ∷ []) s))
asking o s = each_given o (λ q. only_choice (act.Send q ∷ []) s) (λ q. ((inl refl, omega arith), tt))

on_core : (d : Draft) (s : ℕ) (e : Event) → Each (when_stable d s (at.Core e))
on_core d s Load = each_if (cache_is (allows Load) d s) _ _ ((inl refl, omega arith), tt) (asking (request_of d Read) _)
on_core d s Store = each_if (cache_is (allows Store) d s) _ _ (each_given (option_and_then (λ l. store_next s Store l.form) (core_row d s Store)) _ (λ t. ((inl refl, omega arith), tt))) (asking (request_of d Write) _)
on_core d s Evict = each_if (is (out d) s) _ _ ((inl refl, omega arith), tt) (asking (option_and_then (λ l. evict_request_in l.form) (core_row d s Evict)) _)

on_stable : (d : Draft) (s : ℕ) (i : Input) → Each (when_stable d s i)
on_stable d s (at.Core e) = on_core d s e
on_stable d s (at.Forward f) = an_answer d s f (λ t. Stable t)
on_stable d s at.CountAll = tt
on_stable d s at.CountPart = tt
on_stable d s at.PutAck = tt
on_stable d s (at.DataAll r) = tt
on_stable d s (at.DataPart r) = tt
on_stable d s at.AckMore = tt
on_stable d s at.AckLast = tt

on_load : (d : Draft) (s : ℕ) (t : Tag) (i : Input) → Each (when_loading d s t i)
on_load d s t (at.Core e) = tt
on_load d s t (at.Forward f) = a_later d s Load D t f
on_load d s t at.CountAll = tt
on_load d s t at.CountPart = tt
on_load d s t at.PutAck = tt
on_load d s t (at.DataAll r) = an_end d t (act.Fill ∷ []) (final_state d s Load (reply.Reply r)) (by_fill t)
on_load d s t (at.DataPart r) = tt
on_load d s t at.AckMore = tt
on_load d s t at.AckLast = tt

on_store : (d : Draft) (s : ℕ) (t : Tag) (i : Input) → Each (when_storing d s t i)
on_store d s t (at.Core e) = tt
on_store d s t (at.Forward f) = each_if (is_earlier d s t f) _ _ (an_answer d s f (λ x. Ask Store x (store_phase d x) Plain)) (a_later d s Store Ad t f)
on_store d s t at.CountAll = tt
on_store d s t at.CountPart = tt
on_store d s t at.PutAck = tt
on_store d s t (at.DataAll r) = an_end d t (act.Fill ∷ []) (final_state d s Store (reply.Reply r)) (by_fill t)
on_store d s t (at.DataPart r) = each_if (is_some (shared d)) _ [] (each_given (final_state d s Store (reply.Reply r)) _ (λ x. ((inl refl, omega arith), tt))) tt
on_store d s t at.AckMore = each_if (is_some (shared d)) _ [] ((inl refl, omega arith), tt) tt
on_store d s t at.AckLast = tt

on_upgrade : (d : Draft) (s : ℕ) (i : Input) → Each (when_upgrading d s i)
on_upgrade d s (at.Core e) = tt
on_upgrade d s (at.Forward f) = an_answer d s f (λ x. Ask Store x (store_phase d x) Plain)
on_upgrade d s at.CountAll = an_end d Plain [] (final_state d s Store reply.AckCount) (inl refl, omega arith)
on_upgrade d s at.CountPart = each_if (is_some (shared d)) _ [] ((inl refl, omega arith), tt) tt
on_upgrade d s at.PutAck = tt
on_upgrade d s (at.DataAll r) = tt
on_upgrade d s (at.DataPart r) = tt
on_upgrade d s at.AckMore = each_if (is_some (shared d)) _ [] ((inl refl, omega arith), tt) tt
on_upgrade d s at.AckLast = tt

on_wait : (d : Draft) (s : ℕ) (t : Tag) (i : Input) → Each (when_waiting d s t i)
on_wait d s t (at.Core e) = tt
on_wait d s t (at.Forward f) = a_later d s Store A t f
on_wait d s t at.CountAll = tt
on_wait d s t at.CountPart = tt
on_wait d s t at.PutAck = tt
on_wait d s t (at.DataAll r) = tt
on_wait d s t (at.DataPart r) = tt
on_wait d s t at.AckMore = ((inl refl, omega arith), tt)
on_wait d s t at.AckLast = an_end d t (act.Count ∷ []) (store_final (final_states d s Store)) (by_last t)

on_leave : (d : Draft) (s : ℕ) (i : Input) → Each (when_leaving d s i)
on_leave d s (at.Core e) = tt
on_leave d s (at.Forward f) = an_answer d s f (λ t. Leave t)
on_leave d s at.CountAll = tt
on_leave d s at.CountPart = tt
on_leave d s at.PutAck = ((inl refl, omega arith), tt)
on_leave d s (at.DataAll r) = tt
on_leave d s (at.DataPart r) = tt
on_leave d s at.AckMore = tt
on_leave d s at.AckLast = tt

pub once : (d : Draft) (s : Desc) (i : Input) → Each (choices d s i)
once d (Stable s) i = on_stable d s i
once d (Ask Load s D t) i = on_load d s t i
once d (Ask Load s Ad t) i = tt
once d (Ask Load s Ac t) i = tt
once d (Ask Load s A t) i = tt
once d (Ask Store s D t) i = tt
once d (Ask Store s Ad t) i = on_store d s t i
once d (Ask Store s Ac t) i = on_upgrade d s i
once d (Ask Store s A t) i = on_wait d s t i
once d (Ask Evict s p t) i = tt
once d (Leave s) i = on_leave d s i
