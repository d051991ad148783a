-- Where no forward is later than an operation, a cache has one choice at most.
use Rattle.std.proofs.Common.{◌≡◌, ◌⊎◌, ℕ, Bool, true, false, cond, not, ◌&&◌, List, [], ◌∷◌, ◌++◌, Option, Some, None, refl, inl, inr}
use Rattle.std.specs.Prelude.{is_some}
use Rattle.std.specs.Option.{option_and_then}
use Rattle.pg_perm.specs.declared.kinds.Event.{Event}
use Rattle.pg_perm.specs.declared.kinds.Event.TheVariants.{Load, Store, Evict}
use Rattle.pg_perm.specs.declared.kinds.ReqClass.TheVariants.{Read, Write}
use Rattle.pg_perm.specs.declared.draft.Draft.{Draft}
use Rattle.pg_perm.specs.declared.draft.ReplyName.TheVariants as reply
use Rattle.pg_terms.specs.Terms.{is, cache_is, out, shared, request_of, core_row, take_row}
use Rattle.pg_terms.specs.Due.{is_due}
use Rattle.pg_terms.specs.Rows.{allows, store_next, final_state}
use Rattle.pg_table.specs.declared.cache.Desc.{Desc}
use Rattle.pg_table.specs.declared.cache.Desc.TheVariants.{Stable, Ask, Leave}
use Rattle.pg_table.specs.declared.cache.Phase.{Phase}
use Rattle.pg_table.specs.declared.cache.Phase.TheVariants.{D, Ad, Ac, A}
use Rattle.pg_table.specs.declared.cache.Tag.{Tag}
use Rattle.pg_table.specs.declared.cache.Tag.TheVariants.{Plain}
use Rattle.pg_table.specs.declared.cache.Input.{Input}
use Rattle.pg_table.specs.declared.cache.Input.TheVariants as at
use Rattle.pg_table.specs.declared.cache.Act.{Act}
use Rattle.pg_table.specs.declared.cache.Act.TheVariants as act
use Rattle.pg_table.specs.Descriptors.{out_state, end_under_tag, final_states, store_phase}
use Rattle.pg_table.specs.Choices.{Choice, only_choice, choices_if_some, answer_acts, answer_choices, is_later, later_choices, evict_request_in, serve_acts, end_choices, is_earlier, earlier_choices, store_final, choices}
use Rattle.pg_table.specs.Stalls.{is_later_at}
use Rattle.pg_table.proofs.Stalls.{later_off}

-- there is no choice, or one
abbrev IsSingle : List Choice → Type 0
IsSingle cs = (cs ≡ []) ⊎ ((c : Choice) × (cs ≡ c ∷ []))

only_one : (acts : List Act) (next : Desc) → IsSingle (only_choice acts next)
only_one acts next = inr (record { acts = acts; next = next }, refl)

none : IsSingle []
none = inl refl

either_one : (b : Bool) (xs ys : List Choice) → IsSingle xs → IsSingle ys → IsSingle (cond b xs ys)
either_one true xs ys h g = h
either_one false xs ys h g = g

given_one : {X : Type 0} (o : Option X) (f : X → List Choice) → ((x : X) → IsSingle (f x)) → IsSingle (choices_if_some o f)
given_one None f h = none
given_one (Some x) f h = h x

ends_one : (d : Draft) (t : Tag) (acts : List Act) (o : Option ℕ) → IsSingle (end_choices d t acts o)
ends_one d t acts o =
    given_one (option_and_then (λ x. end_under_tag d x t) o) (λ x. only_choice (acts ++ act.Done ∷ [] ++ serve_acts t) (Stable x)) (λ x. only_one (acts ++ act.Done ∷ [] ++ serve_acts t) (Stable x))

answered_one : (d : Draft) (s f : ℕ) (onward : ℕ → Desc) → IsSingle (answer_choices d s f onward)
answered_one d s f onward = either_one (is_due d s f) _ []
    (given_one (take_row d s f) (λ t. only_choice (answer_acts d f t.reply) (onward t.next)) (λ t. only_one (answer_acts d f t.reply) (onward t.next))) none

later_none : (d : Draft) (s : ℕ) (e : Event) (p : Phase) (t : Tag) (f : ℕ) → is_later d s e t f ≡ false → IsSingle (later_choices d s e p t f)
later_none d s e p t f h = inl (later_off d s e p t f h)

-- where no forward is later, there is one choice at most
pub single_choice : (d : Draft) (s : Desc) (i : Input) → is_later_at d s i ≡ false → (choices d s i ≡ []) ⊎ ((c : Choice) × (choices d s i ≡ c ∷ []))
single_choice d (Stable s) (at.Core Load) h = either_one (cache_is (allows Load) d s) _ _ (only_one (act.Hit ∷ []) (Stable s))
    (given_one (request_of d Read) (λ q. only_choice (act.Send q ∷ []) (Ask Load (out_state d) D Plain)) (λ q. only_one (act.Send q ∷ []) (Ask Load (out_state d) D Plain)))
single_choice d (Stable s) (at.Core Store) h = either_one (cache_is (allows Store) d s) _ _
    (given_one (option_and_then (λ l. store_next s Store l.form) (core_row d s Store)) (λ t. only_choice (act.Hit ∷ []) (Stable t)) (λ t. only_one (act.Hit ∷ []) (Stable t)))
    (given_one (request_of d Write) (λ q. only_choice (act.Send q ∷ []) (Ask Store s (store_phase d s) Plain))
    (λ q. only_one (act.Send q ∷ []) (Ask Store s (store_phase d s) Plain)))
single_choice d (Stable s) (at.Core Evict) h = either_one (is (out d) s) _ _ (only_one (act.Skip ∷ []) (Stable s))
    (given_one (option_and_then (λ l. evict_request_in l.form) (core_row d s Evict)) (λ q. only_choice (act.Send q ∷ []) (Leave s)) (λ q. only_one (act.Send q ∷ []) (Leave s)))
single_choice d (Stable s) (at.Forward f) h = answered_one d s f (λ t. Stable t)
single_choice d (Ask Load s D t) (at.DataAll r) h = ends_one d t (act.Fill ∷ []) (final_state d s Load (reply.Reply r))
single_choice d (Ask Load s D t) (at.Forward f) h = later_none d s Load D t f h
single_choice d (Ask Store s Ad t) (at.DataAll r) h = ends_one d t (act.Fill ∷ []) (final_state d s Store (reply.Reply r))
single_choice d (Ask Store s Ad t) (at.DataPart r) h = either_one (is_some (shared d)) _ []
    (given_one (final_state d s Store (reply.Reply r)) (λ x. only_choice (act.Fill ∷ act.Need ∷ []) (Ask Store s A t))
    (λ x. only_one (act.Fill ∷ act.Need ∷ []) (Ask Store s A t))) none
single_choice d (Ask Store s Ad t) at.AckMore h = either_one (is_some (shared d)) _ [] (only_one (act.Count ∷ []) (Ask Store s Ad t)) none
single_choice d (Ask Store s Ad t) (at.Forward f) h = at (is_earlier d s t f) h
  where
    at : (b : Bool) → (not b && is_later d s Store t f) ≡ false → IsSingle (cond b (earlier_choices d s f) (later_choices d s Store Ad t f))
    at true g = answered_one d s f (λ t. Ask Store t (store_phase d t) Plain)
    at false g = later_none d s Store Ad t f g
single_choice d (Ask Store s Ac t) at.CountAll h = ends_one d Plain [] (final_state d s Store reply.AckCount)
single_choice d (Ask Store s Ac t) at.CountPart h = either_one (is_some (shared d)) _ [] (only_one (act.Need ∷ []) (Ask Store s A Plain)) none
single_choice d (Ask Store s Ac t) at.AckMore h = either_one (is_some (shared d)) _ [] (only_one (act.Count ∷ []) (Ask Store s Ac Plain)) none
single_choice d (Ask Store s Ac t) (at.Forward f) h = answered_one d s f (λ t. Ask Store t (store_phase d t) Plain)
single_choice d (Ask Store s A t) at.AckMore h = only_one (act.Count ∷ []) (Ask Store s A t)
single_choice d (Ask Store s A t) at.AckLast h = ends_one d t (act.Count ∷ []) (store_final (final_states d s Store))
single_choice d (Ask Store s A t) (at.Forward f) h = later_none d s Store A t f h
single_choice d (Leave s) at.PutAck h = only_one (act.Done ∷ []) (Stable (out_state d))
single_choice d (Leave s) (at.Forward f) h = answered_one d s f (λ t. Leave t)
single_choice d _ _ h = inl refl
