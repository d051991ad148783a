-- Each input that may come to a cache controller is among the inputs of the protocol.
use Rattle.std.proofs.Common.{◌≡◌, ℕ, zero, suc, ◌+◌, Bool, true, false, cond, List, [], ◌∷◌, ◌++◌, Option, Some, None, refl, sym, subst, ap, ◌∙◌, arith, inl, inr}
use Rattle.std.specs.Prelude.{slice_get, is_some}
use Rattle.std.specs.Option.{option_map, option_and_then}
use Rattle.std.specs.List.{list_any, list_all}
use Rattle.std.proofs.lemmas.Option.{same_Some}
use Rattle.std.proofs.lemmas.Bool.{and_parts}
use Rattle.pg_perm.specs.declared.kinds.Event.{Event}
use Rattle.pg_perm.specs.declared.kinds.Event.TheVariants.{Load, Store, Evict}
use Rattle.pg_perm.specs.declared.kinds.FwdClass.{FwdClass}
use Rattle.pg_perm.specs.declared.draft.Draft.{Draft}
use Rattle.pg_perm.specs.declared.draft.MsgLine.{MsgLine}
use Rattle.pg_perm.specs.declared.draft.MsgClass.{MsgClass}
use Rattle.pg_perm.specs.declared.draft.MsgClass.TheVariants as message
use Rattle.pg_perm.specs.declared.draft.CoreLine.{CoreLine}
use Rattle.pg_perm.specs.declared.draft.CoreForm.{CoreForm}
use Rattle.pg_perm.specs.declared.draft.CoreForm.TheVariants as form
use Rattle.pg_perm.specs.declared.draft.Pair.{Pair}
use Rattle.pg_perm.specs.declared.draft.ReplyName.{ReplyName}
use Rattle.pg_perm.specs.declared.draft.ReplyName.TheVariants as reply
use Rattle.pg_perm.specs.Classes.{is_forward, is_reply}
use Rattle.pg_perm.specs.Drafts.{has_cache, has_message, has_reply_name, has_pair, has_core_form, IsWellFormed}
use Rattle.pg_terms.specs.Terms.{is_forward_of, shared, has_class, core_row}
use Rattle.pg_terms.specs.Due.{is_due}
use Rattle.pg_terms.specs.Rows.{pair_under, final_under, final_state}
use Rattle.pg_shape.specs.Shaped.{IsShaped}
use Rattle.pg_shape.proofs.Searches.{map_or_get, all_at}
use Rattle.pg_terms.proofs.Same.{reply_equal}
use Rattle.pg_shape.proofs.Cores.{final_get}
use Rattle.pg_table.specs.declared.cache.Desc.{Desc}
use Rattle.pg_table.specs.declared.cache.Desc.TheVariants.{Stable, Ask, Leave}
use Rattle.pg_table.specs.declared.cache.Phase.{Phase}
use Rattle.pg_table.specs.declared.cache.Phase.TheVariants.{D, Ad, Ac, A}
use Rattle.pg_table.specs.declared.cache.Tag.{Tag}
use Rattle.pg_table.specs.declared.cache.Tag.TheVariants.{Plain}
use Rattle.pg_table.specs.declared.cache.Act.{Act}
use Rattle.pg_table.specs.declared.cache.Act.TheVariants.{Fill, Need}
use Rattle.pg_table.specs.declared.cache.Input.{Input}
use Rattle.pg_table.specs.declared.cache.Input.TheVariants as at
use Rattle.pg_table.specs.Descriptors.{store_phase}
use Rattle.pg_table.specs.Choices.{Choice, only_choice, choices_if_some, answer_choices, is_later, later_choices, end_choices, is_earlier, earlier_choices, choices}
use Rattle.pg_table.specs.GeneratedStates.{messages_from, inputs}
use Rattle.pg_table.specs.Tables.{same_input}
use Rattle.pg_table.proofs.Same.{same_input_self}
use Rattle.pg_table.proofs.Forwards.{due_class, later_class}
use Rattle.pg_table.proofs.Finals.{row_is_formed, asks_formed}
use Rattle.pg_table.proofs.Lists.{IsIn, in_any, in_left, in_right, in_map, in_flat}
use Rattle.pg_table.proofs.InputsApart.{first_inputs, data_inputs_of, data_inputs, ack_inputs}

-- What is among the inputs

-- a message of a class is among those of the class
message_in : (p : MsgClass → Bool) (n k f : ℕ) (ms : List MsgLine) (x : MsgLine) → slice_get ms k ≡ Some x → p x.class ≡ true → f ≡ n + k
    → IsIn f (messages_from p n ms)
message_in p n k f [] x g h e = absurd cc
message_in p n zero f (m ∷ ms) x g h e =
    let here : p m.class ≡ true = ap (λ (y : MsgLine). p y.class) (same_Some m x g) ∙ h in
    let first : n ≡ f = omega arith in
    subst (λ b. IsIn f (cond b (n ∷ messages_from p (n + 1) ms) (messages_from p (n + 1) ms))) (sym here) (inl first)
message_in p n (suc k) f (m ∷ ms) x g h e = at (p m.class) (message_in p (n + 1) k f ms x g h (omega arith))
  where
    at : (b : Bool) → IsIn f (messages_from p (n + 1) ms) → IsIn f (cond b (n ∷ messages_from p (n + 1) ms) (messages_from p (n + 1) ms))
    at true behind = inr behind
    at false behind = behind

-- the inputs are of three parts
in_firsts : (d : Draft) (i : Input) → IsIn i (first_inputs d) → IsIn i (inputs d)
in_firsts d i h = in_left i (first_inputs d ++ data_inputs d) ack_inputs (in_left i (first_inputs d) (data_inputs d) h)

in_answers : (d : Draft) (i : Input) → IsIn i (data_inputs d) → IsIn i (inputs d)
in_answers d i h = in_left i (first_inputs d ++ data_inputs d) ack_inputs (in_right i (first_inputs d) (data_inputs d) h)

in_acks : (d : Draft) (i : Input) → IsIn i ack_inputs → IsIn i (inputs d)
in_acks d i h = in_right i (first_inputs d ++ data_inputs d) ack_inputs h

core_in : (d : Draft) (e : Event) → IsIn (at.Core e) (inputs d)
core_in d Load = in_firsts d (at.Core Load) (inl refl)
core_in d Store = in_firsts d (at.Core Store) (inr (inl refl))
core_in d Evict = in_firsts d (at.Core Evict) (inr (inr (inl refl)))

of_class : (c : FwdClass) (m : MsgClass) → is_forward_of c m ≡ true → is_forward m ≡ true
of_class c (message.Request q) h = absurd cc
of_class c (message.Forward f) h = refl
of_class c message.Reply h = absurd cc

forward_in : (d : Draft) (c : FwdClass) (f : ℕ) → has_class c d f ≡ true → IsIn (at.Forward f) (inputs d)
forward_in d c f h =
    let (x, g, t) = map_or_get (λ m. is_forward_of c m.class) (slice_get d.messages f) h in
    let there = message_in is_forward 0 f f d.messages x g (of_class c x.class t) (omega arith) in
    in_firsts d (at.Forward f) (inr (inr (inr (in_map (λ f. at.Forward f) f (messages_from is_forward 0 d.messages) there))))

-- data of a reply, with all its acknowledgements or with some missing
data_in : (d : Draft) (r : ℕ) (i : Input) → has_message is_reply d r ≡ true → IsIn i (data_inputs_of r) → IsIn i (inputs d)
data_in d r i h of =
    let (x, g, t) = map_or_get (λ m. is_reply m.class) (slice_get d.messages r) h in
    let there = message_in is_reply 0 r r d.messages x g t (omega arith) in
    in_answers d i (inr (inr (inr (in_flat data_inputs_of r i (messages_from is_reply 0 d.messages) there of))))

-- Forwards that may come

-- where there is a choice, the test that it stands after passes
tested : (b : Bool) (xs : List Choice) (c : Choice) (cs : List Choice) → cond b xs [] ≡ c ∷ cs → (b ≡ true) × (xs ≡ c ∷ cs)
tested true xs c cs h = (refl, h)
tested false xs c cs h = absurd cc

answered_class : (d : Draft) (s f : ℕ) (onward : ℕ → Desc) (c : Choice) (cs : List Choice) → answer_choices d s f onward ≡ c ∷ cs → (k : FwdClass) × (has_class k d f ≡ true)
answered_class d s f onward c cs h = due_class d s f (tested (is_due d s f) _ c cs h).0

later_choices_class : (d : Draft) (s : ℕ) (e : Event) (p : Phase) (t : Tag) (f : ℕ) (c : Choice) (cs : List Choice) → later_choices d s e p t f ≡ c ∷ cs
    → (k : FwdClass) × (has_class k d f ≡ true)
later_choices_class d s e p t f c cs h = later_class d s e t f (tested (is_later d s e t f) _ c cs h).0

-- a forward that may come is of a class
choices_class : (d : Draft) (s : Desc) (f : ℕ) (c : Choice) (cs : List Choice) → choices d s (at.Forward f) ≡ c ∷ cs → (k : FwdClass) × (has_class k d f ≡ true)
choices_class d (Stable s) f c cs h = answered_class d s f (λ t. Stable t) c cs h
choices_class d (Ask Load s D t) f c cs h = later_choices_class d s Load D t f c cs h
choices_class d (Ask Store s Ad t) f c cs h = at (is_earlier d s t f) h
  where
    at : (b : Bool) → cond b (earlier_choices d s f) (later_choices d s Store Ad t f) ≡ c ∷ cs → (k : FwdClass) × (has_class k d f ≡ true)
    at true g = answered_class d s f (λ t. Ask Store t (store_phase d t) Plain) c cs g
    at false g = later_choices_class d s Store Ad t f c cs g
choices_class d (Ask Store s Ac t) f c cs h = answered_class d s f (λ t. Ask Store t (store_phase d t) Plain) c cs h
choices_class d (Ask Store s A t) f c cs h = later_choices_class d s Store A t f c cs h
choices_class d (Leave s) f c cs h = answered_class d s f (λ t. Leave t) c cs h
choices_class d _ f c cs h = absurd cc

-- Data that may come

pair_reply : (d : Draft) (r t : ℕ) (pairs : List Pair) → list_all (has_pair d) pairs ≡ true → option_map (λ (p : Pair). p.fin) (pair_under (reply.Reply r) pairs) ≡ Some t
    → has_message is_reply d r ≡ true
pair_reply d r t pairs all h =
    let (k, p, get, same, fin) = final_get (reply.Reply r) pairs t h in
    let named : has_reply_name d p.reply ≡ true = (and_parts (has_reply_name d p.reply) (has_cache d p.fin) (all_at (has_pair d) pairs k p all get)).0 in
    subst (λ (n : ReplyName). has_reply_name d n ≡ true) (reply_equal p.reply (reply.Reply r) same) named

form_reply : (d : Draft) (r t : ℕ) (e : Event) (f : CoreForm) → has_core_form d e f ≡ true → final_under (reply.Reply r) f ≡ Some t → has_message is_reply d r ≡ true
form_reply d r t e (form.Ask q pairs) h g = pair_reply d r t pairs (asks_formed d e q pairs h).0 g
form_reply d r t e (form.Hit next) h g = absurd cc
form_reply d r t e (form.Leave q) h g = absurd cc

-- a reply with which an operation ends is one
final_reply : (d : Draft) → IsWellFormed d → (s r t : ℕ) (e : Event) → final_state d s e (reply.Reply r) ≡ Some t → has_message is_reply d r ≡ true
final_reply d w s r t e h = at (core_row d s e) refl h
  where
    at : (o : Option CoreLine) → core_row d s e ≡ o → option_and_then (λ c. final_under (reply.Reply r) c.form) o ≡ Some t → has_message is_reply d r ≡ true
    at None g k = absurd cc
    at (Some x) g k = form_reply d r t e x.form (row_is_formed d s e x w g) k

-- what an option gives is given by what is there
given_some : (o : Option ℕ) (f : ℕ → List Choice) (c : Choice) (cs : List Choice) → choices_if_some o f ≡ c ∷ cs → (x : ℕ) × (o ≡ Some x)
given_some None f c cs h = absurd cc
given_some (Some x) f c cs h = (x, refl)

ends_some : (d : Draft) (t : Tag) (acts : List Act) (o : Option ℕ) (c : Choice) (cs : List Choice) → end_choices d t acts o ≡ c ∷ cs → (x : ℕ) × (o ≡ Some x)
ends_some d t acts None c cs h = absurd cc
ends_some d t acts (Some x) c cs h = (x, refl)

-- data comes where an operation ends with it
whole_final : (d : Draft) (s : Desc) (r : ℕ) (c : Choice) (cs : List Choice) → choices d s (at.DataAll r) ≡ c ∷ cs
    → (x t : ℕ) × (e : Event) × (final_state d x e (reply.Reply r) ≡ Some t)
whole_final d (Ask Load s D t) r c cs h = let (x, e) = ends_some d t (Fill ∷ []) (final_state d s Load (reply.Reply r)) c cs h in (s, x, Load, e)
whole_final d (Ask Store s Ad t) r c cs h = let (x, e) = ends_some d t (Fill ∷ []) (final_state d s Store (reply.Reply r)) c cs h in (s, x, Store, e)
whole_final d _ r c cs h = absurd cc

part_final : (d : Draft) (s : Desc) (r : ℕ) (c : Choice) (cs : List Choice) → choices d s (at.DataPart r) ≡ c ∷ cs
    → (x t : ℕ) × (e : Event) × (final_state d x e (reply.Reply r) ≡ Some t)
part_final d (Ask Load s D t) r c cs h = absurd cc
part_final d (Ask Store s Ad t) r c cs h =
    let (x, e) = given_some (final_state d s Store (reply.Reply r)) (λ x. only_choice (Fill ∷ Need ∷ []) (Ask Store s A t)) c cs (tested (is_some (shared d)) _ c cs h).1 in
    (s, x, Store, e)
part_final d _ r c cs h = absurd cc

whole_reply : (d : Draft) → IsWellFormed d → (s : Desc) (r : ℕ) (c : Choice) (cs : List Choice) → choices d s (at.DataAll r) ≡ c ∷ cs → has_message is_reply d r ≡ true
whole_reply d w s r c cs h = let (x, t, e, f) = whole_final d s r c cs h in final_reply d w x r t e f

part_reply : (d : Draft) → IsWellFormed d → (s : Desc) (r : ℕ) (c : Choice) (cs : List Choice) → choices d s (at.DataPart r) ≡ c ∷ cs → has_message is_reply d r ≡ true
part_reply d w s r c cs h = let (x, t, e, f) = part_final d s r c cs h in final_reply d w x r t e f

-- an input that may come is one of the inputs
pub choices_in : (d : Draft) (s : Desc) (i : Input) (c : Choice) (cs : List Choice) → IsWellFormed d → choices d s i ≡ c ∷ cs → IsIn i (inputs d)
choices_in d s (at.Core e) c cs w h = core_in d e
choices_in d s (at.Forward f) c cs w h = let (k, e) = choices_class d s f c cs h in forward_in d k f e
choices_in d s at.CountAll c cs w h = in_answers d at.CountAll (inl refl)
choices_in d s at.CountPart c cs w h = in_answers d at.CountPart (inr (inl refl))
choices_in d s at.PutAck c cs w h = in_answers d at.PutAck (inr (inr (inl refl)))
choices_in d s (at.DataAll r) c cs w h = data_in d r (at.DataAll r) (whole_reply d w s r c cs h) (inl refl)
choices_in d s (at.DataPart r) c cs w h = data_in d r (at.DataPart r) (part_reply d w s r c cs h) (inr (inl refl))
choices_in d s at.AckMore c cs w h = in_acks d at.AckMore (inl refl)
choices_in d s at.AckLast c cs w h = in_acks d at.AckLast (inr (inl refl))

pub choices_input : (d : Draft) (s : Desc) (i : Input) (c : Choice) (cs : List Choice) → IsWellFormed d → IsShaped d → choices d s i ≡ c ∷ cs
    → list_any (λ j. same_input j i) (inputs d) ≡ true
choices_input d s i c cs w sh h = in_any (λ j. same_input j i) i (inputs d) (choices_in d s i c cs w h) (same_input_self i)
