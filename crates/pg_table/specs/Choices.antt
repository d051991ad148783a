-- What a cache controller may do in a state at an input. It may let a forward that is later than the outstanding operation wait or take it at once;
-- else there is one choice, or none where the input can't come.
use Rattle.std.specs.Prelude.{ℕ, Bool, false, ◌&&◌, List, [], ◌∷◌, ◌++◌, Option, Some, None, is_some, if◌then◌else◌}
use Rattle.std.specs.List.{list_any}
use Rattle.std.specs.Option.{option_map_or, option_and_then}
use Rattle.pg_perm.specs.declared.kinds.Event.{Event}
use Rattle.pg_perm.specs.declared.kinds.Event.TheVariants.{Load, Store, Evict}
use Rattle.pg_perm.specs.declared.kinds.ReqClass.TheVariants.{Read, Write}
use Rattle.pg_perm.specs.declared.kinds.FwdClass.TheVariants as class
use Rattle.pg_perm.specs.declared.draft.Draft.{Draft}
use Rattle.pg_perm.specs.declared.draft.CoreForm.{CoreForm}
use Rattle.pg_perm.specs.declared.draft.CoreForm.TheVariants as form
use Rattle.pg_perm.specs.declared.draft.ReplyName.TheVariants as reply
use Rattle.pg_terms.specs.Terms.{is, cache_is, out, shared, request_of, has_class, core_row, take_row, keep_of}
use Rattle.pg_terms.specs.Due.{is_due}
use Rattle.pg_terms.specs.Rows.{may_keep, allows, store_next, final_state}
use Rattle.pg_table.specs.declared.cache.Desc.{Desc}
use Rattle.pg_table.specs.declared.cache.Desc.TheVariants.{Stable, Ask, Leave}
use Rattle.pg_table.specs.declared.cache.Phase.{Phase}
use Rattle.pg_table.specs.declared.cache.Phase.TheVariants.{D, Ad, Ac, A}
use Rattle.pg_table.specs.declared.cache.Tag.{Tag}
use Rattle.pg_table.specs.declared.cache.Tag.TheVariants.{Plain, Kept, Gave, Gone}
use Rattle.pg_table.specs.declared.cache.Input.{Input}
use Rattle.pg_table.specs.declared.cache.Input.TheVariants as at
use Rattle.pg_table.specs.declared.cache.Act.{Act}
use Rattle.pg_table.specs.declared.cache.Act.TheVariants as act
use Rattle.pg_table.specs.Controllers.{ControllerChoice}
use Rattle.pg_table.specs.Descriptors.{out_state, end_under_tag, final_states, store_phase}

-- the acts that are done at an input, and the state that they lead to
abbrev pub Choice : Type 0
Choice = ControllerChoice Desc Act

-- one choice
abbrev pub only_choice : List Act → Desc → List Choice
only_choice acts next = record { acts = acts; next = next } ∷ []

-- the choices that an option gives
abbrev pub choices_if_some : {A : Type 0} → Option A → (A → List Choice) → List Choice
choices_if_some None f = []
choices_if_some (Some x) f = f x

-- Forwards

-- data goes out, where the take row has a reply
abbrev pub data_acts : Option ℕ → List Act
data_acts None = []
data_acts (Some r) = act.Give r ∷ []

-- how a forward is answered, by its class
abbrev pub answer_acts : Draft → ℕ → Option ℕ → List Act
answer_acts d f r = if has_class class.Inv d f then act.Ack ∷ [] else if has_class class.Share d f then data_acts r ++ act.Wb ∷ [] else data_acts r

-- a forward that is due in this state is answered, and leads on to the state of its take row
abbrev pub answer_choices : Draft → ℕ → ℕ → (ℕ → Desc) → List Choice
answer_choices d s f onward = if is_due d s f then choices_if_some (take_row d s f) (λ t. only_choice (answer_acts d f t.reply) (onward t.next)) else []

-- a later forward may come: one that is due where the operation that began in this state ends, or was kept
abbrev pub is_later : Draft → ℕ → Event → Tag → ℕ → Bool
is_later d s event Plain f = list_any (λ x. is_due d x f) (final_states d s event)
is_later d s event Kept f = list_any (λ x. may_keep d x && option_map_or (λ k. is_due d k f) (keep_of d x) false) (final_states d s event)
is_later d s event Gave f = false
is_later d s event Gone f = false

-- the tag once a later forward has come
abbrev pub tag_by : Draft → ℕ → Tag
tag_by d f = if has_class class.Share d f then Gave else if has_class class.Keep d f then Kept else Gone

-- a later forward waits; or an invalidation is acknowledged at once, and another is put off
abbrev pub later_choices : Draft → ℕ → Event → Phase → Tag → ℕ → List Choice
later_choices d s event phase tag f = if is_later d s event tag f
    then record { acts = act.Stall ∷ []; next = Ask event s phase tag }
    ∷ record { acts = (if has_class class.Inv d f then act.Ack else act.Defer) ∷ []; next = Ask event s phase (tag_by d f) } ∷ []
    else []

-- Stable states

abbrev pub evict_request_in : CoreForm → Option ℕ
evict_request_in (form.Hit next) = None
evict_request_in (form.Ask request pairs) = None
evict_request_in (form.Leave request) = Some request

abbrev pub by_load : Draft → ℕ → List Choice
by_load d s = if cache_is (allows Load) d s then only_choice (act.Hit ∷ []) (Stable s)
    else choices_if_some (request_of d Read) (λ q. only_choice (act.Send q ∷ []) (Ask Load (out_state d) D Plain))

abbrev pub by_store : Draft → ℕ → List Choice
by_store d s = if cache_is (allows Store) d s then choices_if_some (option_and_then (λ l. store_next s Store l.form) (core_row d s Store)) (λ t. only_choice (act.Hit ∷ []) (Stable t))
    else choices_if_some (request_of d Write) (λ q. only_choice (act.Send q ∷ []) (Ask Store s (store_phase d s) Plain))

abbrev pub by_evict : Draft → ℕ → List Choice
by_evict d s = if is (out d) s then only_choice (act.Skip ∷ []) (Stable s)
    else choices_if_some (option_and_then (λ l. evict_request_in l.form) (core_row d s Evict)) (λ q. only_choice (act.Send q ∷ []) (Leave s))

abbrev pub when_stable : Draft → ℕ → Input → List Choice
when_stable d s (at.Core Load) = by_load d s
when_stable d s (at.Core Store) = by_store d s
when_stable d s (at.Core Evict) = by_evict d s
when_stable d s (at.Forward f) = answer_choices d s f (λ t. Stable t)
when_stable d s _ = []

-- Outstanding operations

-- later forwards that were put off are answered once the operation is done
abbrev pub serve_acts : Tag → List Act
serve_acts Plain = []
serve_acts _ = act.Serve ∷ []

-- the operation is done, and ends where its tag tells
abbrev pub end_choices : Draft → Tag → List Act → Option ℕ → List Choice
end_choices d tag acts f = choices_if_some (option_and_then (λ x. end_under_tag d x tag) f) (λ x. only_choice (acts ++ act.Done ∷ [] ++ serve_acts tag) (Stable x))

-- where there is a shared state
abbrev pub choices_if_shared : Draft → List Choice → List Choice
choices_if_shared d choices = if is_some (shared d) then choices else []

abbrev pub when_loading : Draft → ℕ → Tag → Input → List Choice
when_loading d s tag (at.DataAll r) = end_choices d tag (act.Fill ∷ []) (final_state d s Load (reply.Reply r))
when_loading d s tag (at.Forward f) = later_choices d s Load D tag f
when_loading d s tag _ = []

-- an earlier forward is answered as where the store began, and moves that
abbrev pub earlier_choices : Draft → ℕ → ℕ → List Choice
earlier_choices d s f = answer_choices d s f (λ t. Ask Store t (store_phase d t) Plain)

-- a store of a sharer that was granted nothing meets an invalidation before its own
abbrev pub is_earlier : Draft → ℕ → Tag → ℕ → Bool
is_earlier d s Plain f = is (shared d) s && has_class class.Inv d f
is_earlier d s _ f = false

abbrev pub when_storing : Draft → ℕ → Tag → Input → List Choice
when_storing d s tag (at.DataAll r) = end_choices d tag (act.Fill ∷ []) (final_state d s Store (reply.Reply r))
when_storing d s tag (at.DataPart r) = choices_if_shared d (choices_if_some (final_state d s Store (reply.Reply r)) (λ x. only_choice (act.Fill ∷ act.Need ∷ []) (Ask Store s A tag)))
when_storing d s tag at.AckMore = choices_if_shared d (only_choice (act.Count ∷ []) (Ask Store s Ad tag))
when_storing d s tag (at.Forward f) = if is_earlier d s tag f then earlier_choices d s f else later_choices d s Store Ad tag f
when_storing d s tag _ = []

abbrev pub when_upgrading : Draft → ℕ → Input → List Choice
when_upgrading d s at.CountAll = end_choices d Plain [] (final_state d s Store reply.AckCount)
when_upgrading d s at.CountPart = choices_if_shared d (only_choice (act.Need ∷ []) (Ask Store s A Plain))
when_upgrading d s at.AckMore = choices_if_shared d (only_choice (act.Count ∷ []) (Ask Store s Ac Plain))
when_upgrading d s (at.Forward f) = earlier_choices d s f
when_upgrading d s _ = []

-- the one final state of a store
abbrev pub store_final : List ℕ → Option ℕ
store_final [] = None
store_final (x ∷ xs) = Some x

abbrev pub when_waiting : Draft → ℕ → Tag → Input → List Choice
when_waiting d s tag at.AckMore = only_choice (act.Count ∷ []) (Ask Store s A tag)
when_waiting d s tag at.AckLast = end_choices d tag (act.Count ∷ []) (store_final (final_states d s Store))
when_waiting d s tag (at.Forward f) = later_choices d s Store A tag f
when_waiting d s tag _ = []

abbrev pub when_leaving : Draft → ℕ → Input → List Choice
when_leaving d s at.PutAck = only_choice (act.Done ∷ []) (Stable (out_state d))
when_leaving d s (at.Forward f) = answer_choices d s f (λ t. Leave t)
when_leaving d s _ = []

-- All states

abbrev pub choices : Draft → Desc → Input → List Choice
choices d (Stable s) i = when_stable d s i
choices d (Ask Load s D tag) i = when_loading d s tag i
choices d (Ask Store s Ad tag) i = when_storing d s tag i
choices d (Ask Store s Ac tag) i = when_upgrading d s i
choices d (Ask Store s A tag) i = when_waiting d s tag i
choices d (Leave s) i = when_leaving d s i
choices d _ i = []
