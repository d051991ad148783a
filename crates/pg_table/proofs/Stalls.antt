-- Where the generated cache controllers let forwards wait.
use Rattle.std.proofs.Common.{◌≡◌, ◌↔◌, ℕ, Bool, true, false, cond, not, ◌&&◌, List, [], ◌∷◌, ◌++◌, Option, Some, None, refl, sym, ap, ◌∙◌}
use Rattle.std.specs.Prelude.{is_some}
use Rattle.std.specs.Option.{option_and_then}
use Rattle.std.specs.List.{list_any, list_all}
use Rattle.std.proofs.lemmas.Bool.{or_from, not_from_false, and_parts, not-true}
use Rattle.std.proofs.lemmas.Option.{same_Some}
use Rattle.std.proofs.lemmas.List.Folds.{list_any-append}
use Rattle.pg_perm.specs.declared.kinds.Event.{Event}
use Rattle.pg_perm.specs.declared.kinds.Event.TheVariants.{Load, Store, Evict}
use Rattle.pg_perm.specs.declared.kinds.Mode.{Mode}
use Rattle.pg_perm.specs.declared.kinds.Mode.TheVariants as mode
use Rattle.pg_perm.specs.declared.kinds.ReqClass.TheVariants.{Read, Write}
use Rattle.pg_perm.specs.declared.kinds.FwdClass.TheVariants as class
use Rattle.pg_perm.specs.declared.draft.Draft.{Draft}
use Rattle.pg_perm.specs.declared.draft.ReplyName.TheVariants as reply
use Rattle.pg_terms.specs.Terms.{is, cache_is, out, shared, request_of, has_class, core_row, take_row}
use Rattle.pg_terms.specs.Due.{is_due}
use Rattle.pg_terms.specs.Rows.{allows, store_next, final_state}
use Rattle.pg_shape.proofs.Bools.{and_of_both}
use Rattle.pg_shape.proofs.Searches.{not_both}
use Rattle.pg_table.specs.declared.cache.Desc.{Desc}
use Rattle.pg_table.specs.declared.cache.Desc.TheVariants.{Stable, Ask, Leave}
use Rattle.pg_table.specs.declared.cache.Phase.{Phase}
use Rattle.pg_table.specs.declared.cache.Phase.TheVariants.{D, Ad, Ac, A}
use Rattle.pg_table.specs.declared.cache.Tag.{Tag}
use Rattle.pg_table.specs.declared.cache.Tag.TheVariants.{Plain, Kept, Gave, Gone}
use Rattle.pg_table.specs.declared.cache.Input.{Input}
use Rattle.pg_table.specs.declared.cache.Input.TheVariants as at
use Rattle.pg_table.specs.declared.cache.Act.{Act}
use Rattle.pg_table.specs.declared.cache.Act.TheVariants as act
use Rattle.pg_table.specs.Descriptors.{out_state, end_under_tag, final_states, store_phase}
use Rattle.pg_table.specs.Choices.{Choice, only_choice, choices_if_some, data_acts, answer_acts, answer_choices, is_later, tag_by, later_choices, evict_request_in, serve_acts, end_choices, is_earlier, earlier_choices, store_final, choices}
use Rattle.pg_table.specs.GeneratedStates.{choice_of_mode}
use Rattle.pg_table.specs.Stalls.{is_later_at, is_stall}
use Rattle.pg_table.proofs.Chosen.{chosen_passes}

-- Choices by which nothing waits

abbrev goes_on : Choice → Bool
goes_on c = not (list_any is_stall c.acts)

either_on : (b : Bool) (xs ys : List Choice) → list_all goes_on xs ≡ true → list_all goes_on ys ≡ true → list_all goes_on (cond b xs ys) ≡ true
either_on true xs ys h g = h
either_on false xs ys h g = g

given_on : {X : Type 0} (o : Option X) (f : X → List Choice) → ((x : X) → list_all goes_on (f x) ≡ true) → list_all goes_on (choices_if_some o f) ≡ true
given_on None f h = refl
given_on (Some x) f h = h x

only_on : (acts : List Act) (next : Desc) → list_any is_stall acts ≡ false → list_all goes_on (only_choice acts next) ≡ true
only_on acts next h = and_of_both (not (list_any is_stall acts)) true (not_from_false (list_any is_stall acts) h) refl

serves_on : (t : Tag) → list_any is_stall (serve_acts t) ≡ false
serves_on Plain = refl
serves_on Kept = refl
serves_on Gave = refl
serves_on Gone = refl

ends_on : (d : Draft) (t : Tag) (acts : List Act) (o : Option ℕ) → list_any is_stall acts ≡ false → list_all goes_on (end_choices d t acts o) ≡ true
ends_on d t acts o h =
    let front = list_any-append is_stall acts (act.Done ∷ []) ∙ or_from _ _ h refl in
    let all = list_any-append is_stall (acts ++ act.Done ∷ []) (serve_acts t) ∙ or_from _ _ front (serves_on t) in
    given_on (option_and_then (λ x. end_under_tag d x t) o) (λ x. only_choice (acts ++ act.Done ∷ [] ++ serve_acts t) (Stable x)) (λ x. only_on (acts ++ act.Done ∷ [] ++ serve_acts t) (Stable x) all)

answer_on : (a b : Bool) (r : Option ℕ) → list_any is_stall (cond a (act.Ack ∷ []) (cond b (data_acts r ++ act.Wb ∷ []) (data_acts r))) ≡ false
answer_on true b r = refl
answer_on false true None = refl
answer_on false true (Some m) = refl
answer_on false false None = refl
answer_on false false (Some m) = refl

answered_on : (d : Draft) (s f : ℕ) (onward : ℕ → Desc) → list_all goes_on (answer_choices d s f onward) ≡ true
answered_on d s f onward = either_on (is_due d s f) _ []
    (given_on (take_row d s f) (λ t. only_choice (answer_acts d f t.reply) (onward t.next))
    (λ t. only_on (answer_acts d f t.reply) (onward t.next) (answer_on (has_class class.Inv d f) (has_class class.Share d f) t.reply))) refl

-- the choices at a later forward: it waits, or it is taken at once
abbrev waiting : ℕ → Event → Phase → Tag → Choice
waiting s e p t = record { acts = act.Stall ∷ []; next = Ask e s p t }

abbrev taken : Draft → ℕ → Event → Phase → ℕ → Choice
taken d s e p f = record { acts = (cond (has_class class.Inv d f) act.Ack act.Defer) ∷ []; next = Ask e s p (tag_by d f) }

-- where a forward isn't later, there is neither
pub later_off : (d : Draft) (s : ℕ) (e : Event) (p : Phase) (t : Tag) (f : ℕ) → is_later d s e t f ≡ false → later_choices d s e p t f ≡ []
later_off d s e p t f h = ap (λ b. cond b (waiting s e p t ∷ taken d s e p f ∷ []) []) h

-- where no forward is later, nothing waits
pub others : (d : Draft) (s : Desc) (i : Input) → is_later_at d s i ≡ false → list_all goes_on (choices d s i) ≡ true
others d (Stable s) (at.Core Load) h =
    either_on (cache_is (allows Load) d s) _ _ refl (given_on (request_of d Read) (λ q. only_choice (act.Send q ∷ []) (Ask Load (out_state d) D Plain)) (λ q. refl))
others d (Stable s) (at.Core Store) h = either_on (cache_is (allows Store) d s) _ _
    (given_on (option_and_then (λ l. store_next s Store l.form) (core_row d s Store)) (λ t. only_choice (act.Hit ∷ []) (Stable t)) (λ t. refl))
    (given_on (request_of d Write) (λ q. only_choice (act.Send q ∷ []) (Ask Store s (store_phase d s) Plain)) (λ q. refl))
others d (Stable s) (at.Core Evict) h = either_on (is (out d) s) _ _ refl
    (given_on (option_and_then (λ l. evict_request_in l.form) (core_row d s Evict)) (λ q. only_choice (act.Send q ∷ []) (Leave s)) (λ q. refl))
others d (Stable s) (at.Forward f) h = answered_on d s f (λ t. Stable t)
others d (Ask Load s D t) (at.DataAll r) h = ends_on d t (act.Fill ∷ []) (final_state d s Load (reply.Reply r)) refl
others d (Ask Load s D t) (at.Forward f) h = ap (list_all goes_on) (later_off d s Load D t f h)
others d (Ask Store s Ad t) (at.DataAll r) h = ends_on d t (act.Fill ∷ []) (final_state d s Store (reply.Reply r)) refl
others d (Ask Store s Ad t) (at.DataPart r) h = either_on (is_some (shared d)) _ []
    (given_on (final_state d s Store (reply.Reply r)) (λ x. only_choice (act.Fill ∷ act.Need ∷ []) (Ask Store s A t)) (λ x. refl)) refl
others d (Ask Store s Ad t) at.AckMore h = either_on (is_some (shared d)) _ [] refl refl
others d (Ask Store s Ad t) (at.Forward f) h = at (is_earlier d s t f) h
  where
    at : (b : Bool) → (not b && is_later d s Store t f) ≡ false → list_all goes_on (cond b (earlier_choices d s f) (later_choices d s Store Ad t f)) ≡ true
    at true g = answered_on d s f (λ t. Ask Store t (store_phase d t) Plain)
    at false g = ap (list_all goes_on) (later_off d s Store Ad t f g)
others d (Ask Store s Ac t) at.CountAll h = ends_on d Plain [] (final_state d s Store reply.AckCount) refl
others d (Ask Store s Ac t) at.CountPart h = either_on (is_some (shared d)) _ [] refl refl
others d (Ask Store s Ac t) at.AckMore h = either_on (is_some (shared d)) _ [] refl refl
others d (Ask Store s Ac t) (at.Forward f) h = answered_on d s f (λ t. Ask Store t (store_phase d t) Plain)
others d (Ask Store s A t) at.AckMore h = refl
others d (Ask Store s A t) at.AckLast h = ends_on d t (act.Count ∷ []) (store_final (final_states d s Store)) refl
others d (Ask Store s A t) (at.Forward f) h = ap (list_all goes_on) (later_off d s Store A t f h)
others d (Leave s) at.PutAck h = refl
others d (Leave s) (at.Forward f) h = answered_on d s f (λ t. Leave t)
others d _ _ h = refl

-- Choices at later forwards

-- of two choices by the first the message waits, and by the second it doesn't
abbrev WaitsOrNot : List Choice → Type 0
WaitsOrNot cs = (c e : Choice) × (cs ≡ c ∷ e ∷ []) × (c.acts ≡ act.Stall ∷ []) × (goes_on e ≡ true)

later_is : (d : Draft) (s : ℕ) (e : Event) (p : Phase) (t : Tag) (f : ℕ) → is_later d s e t f ≡ true → later_choices d s e p t f ≡ waiting s e p t ∷ taken d s e p f ∷ []
later_is d s e p t f h = ap (λ b. cond b (waiting s e p t ∷ taken d s e p f ∷ []) []) h

-- at a later forward there are and_parts
pub both_choices : (d : Draft) (e : Event) (s : ℕ) (p : Phase) (t : Tag) (f : ℕ) → is_later_at d (Ask e s p t) (at.Forward f) ≡ true
    → choices d (Ask e s p t) (at.Forward f) ≡ waiting s e p t ∷ taken d s e p f ∷ []
both_choices d Load s D t f h = later_is d s Load D t f h
both_choices d Store s Ad t f h =
    let (no_first, comes) = and_parts (not (is_earlier d s t f)) (is_later d s Store t f) h in
    ap (λ b. cond b (earlier_choices d s f) (later_choices d s Store Ad t f)) (not-true (is_earlier d s t f) no_first) ∙ later_is d s Store Ad t f comes
both_choices d Store s A t f h = later_is d s Store A t f h
both_choices d _ _ _ _ _ h = absurd cc

-- only a forward is later, in a state of a load or a store
pub later_is_forward : (d : Draft) (s : Desc) (i : Input) → is_later_at d s i ≡ true
    → (e : Event) × (x : ℕ) × (p : Phase) × (t : Tag) × (f : ℕ) × (s ≡ Ask e x p t) × (i ≡ at.Forward f)
later_is_forward d (Ask Load s D t) (at.Forward f) h = (Load, s, D, t, f, refl, refl)
later_is_forward d (Ask Store s Ad t) (at.Forward f) h = (Store, s, Ad, t, f, refl, refl)
later_is_forward d (Ask Store s A t) (at.Forward f) h = (Store, s, A, t, f, refl, refl)
later_is_forward d _ _ h = absurd cc

waits_or_not : (d : Draft) (e : Event) (s : ℕ) (p : Phase) (t : Tag) (f : ℕ) → is_later_at d (Ask e s p t) (at.Forward f) ≡ true
    → WaitsOrNot (choices d (Ask e s p t) (at.Forward f))
waits_or_not d e s p t f h = (waiting s e p t, taken d s e p f, both_choices d e s p t f h, refl, at (has_class class.Inv d f))
  where
    at : (b : Bool) → not (list_any is_stall (cond b act.Ack act.Defer ∷ [])) ≡ true
    at true = refl
    at false = refl

later_waits_or_not : (d : Draft) (s : Desc) (i : Input) → is_later_at d s i ≡ true → WaitsOrNot (choices d s i)
later_waits_or_not d (Ask Load s D t) (at.Forward f) h = waits_or_not d Load s D t f h
later_waits_or_not d (Ask Store s Ad t) (at.Forward f) h = waits_or_not d Store s Ad t f h
later_waits_or_not d (Ask Store s A t) (at.Forward f) h = waits_or_not d Store s A t f h
later_waits_or_not d _ _ h = absurd cc

-- What is chosen

-- where no forward is later, no stall is chosen
pub others_go_on : (d : Draft) (m : Mode) (s : Desc) (i : Input) (c : Choice) → choice_of_mode m (choices d s i) ≡ Some c → is_later_at d s i ≡ false → list_any is_stall c.acts ≡ false
others_go_on d m s i c e h = not-true (list_any is_stall c.acts) (chosen_passes goes_on m c (choices d s i) (others d s i h) e)

later_waits : (d : Draft) (s : Desc) (i : Input) (c : Choice) → choice_of_mode mode.Stall (choices d s i) ≡ Some c → is_later_at d s i ≡ true → c.acts ≡ act.Stall ∷ []
later_waits d s i c e h =
    let (a, b, is, waits, on) = later_waits_or_not d s i h in
    ap (λ (c : Choice). c.acts) (sym (same_Some a c (ap (choice_of_mode mode.Stall) (sym is) ∙ e))) ∙ waits

-- where forwards wait, exactly the later ones do
pub stalls_at_later : (d : Draft) (s : Desc) (i : Input) (c : Choice) → choice_of_mode mode.Stall (choices d s i) ≡ Some c → ((c.acts ≡ act.Stall ∷ []) ↔ (is_later_at d s i ≡ true))
stalls_at_later d s i c e = (λ h. at (is_later_at d s i) refl h, later_waits d s i c e)
  where
    at : (b : Bool) → is_later_at d s i ≡ b → c.acts ≡ act.Stall ∷ [] → b ≡ true
    at true g h = refl
    at false g h = absurd (not_both (list_any is_stall c.acts) (ap (list_any is_stall) h) (others_go_on d mode.Stall s i c e g))

-- where they are put off, nothing waits
pub none_waits : (d : Draft) (s : Desc) (i : Input) (c : Choice) → choice_of_mode mode.Defer (choices d s i) ≡ Some c → list_any is_stall c.acts ≡ false
none_waits d s i c e = at (is_later_at d s i) refl
  where
    at : (b : Bool) → is_later_at d s i ≡ b → list_any is_stall c.acts ≡ false
    at true h =
        let (a, b, is, waits, on) = later_waits_or_not d s i h in
        not-true (list_any is_stall c.acts) (ap goes_on (sym (same_Some b c (ap (choice_of_mode mode.Defer) (sym is) ∙ e))) ∙ on)
    at false h = others_go_on d mode.Defer s i c e h
