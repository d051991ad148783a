-- Each generated row of a cache controller leads to one of its states.
use Rattle.std.proofs.Common.{◌≡◌, ℕ, ◌<◌, Bool, true, false, List, [], ◌∷◌, ◌++◌, length, Option, Some, None, refl, sym, subst}
use Rattle.std.specs.Prelude.{is_some, if◌then◌else◌}
use Rattle.std.specs.Option.{option_and_then}
use Rattle.std.proofs.lemmas.Option.{same_Some}
use Rattle.pg_perm.specs.declared.kinds.Event.{Event}
use Rattle.pg_perm.specs.declared.kinds.Event.TheVariants.{Load, Store, Evict}
use Rattle.pg_perm.specs.declared.kinds.Mode.{Mode}
use Rattle.pg_perm.specs.declared.kinds.Mode.TheVariants as mode
use Rattle.pg_perm.specs.declared.kinds.ReqClass.TheVariants.{Read, Write}
use Rattle.pg_perm.specs.declared.kinds.FwdClass.TheVariants as class
use Rattle.pg_perm.specs.declared.draft.Draft.{Draft}
use Rattle.pg_perm.specs.declared.draft.CoreLine.{CoreLine}
use Rattle.pg_perm.specs.declared.draft.TakeLine.{TakeLine}
use Rattle.pg_perm.specs.declared.draft.ReplyName.{ReplyName}
use Rattle.pg_perm.specs.declared.draft.ReplyName.TheVariants as reply
use Rattle.pg_perm.specs.Drafts.{IsWellFormed}
use Rattle.pg_terms.specs.Terms.{is, cache_is, out, shared, request_of, has_class, core_row, take_row}
use Rattle.pg_terms.specs.Due.{is_due}
use Rattle.pg_terms.specs.Rows.{allows, store_next, final_state}
use Rattle.pg_shape.specs.Shaped.{IsShaped}
use Rattle.pg_table.specs.declared.cache.Desc.{Desc}
use Rattle.pg_table.specs.declared.cache.Desc.TheVariants.{Stable, Ask, Leave}
use Rattle.pg_table.specs.declared.cache.Phase.{Phase}
use Rattle.pg_table.specs.declared.cache.Phase.TheVariants.{D, Ad, Ac, A}
use Rattle.pg_table.specs.declared.cache.Tag.{Tag}
use Rattle.pg_table.specs.declared.cache.Tag.TheVariants.{Plain}
use Rattle.pg_table.specs.declared.cache.Input.{Input}
use Rattle.pg_table.specs.declared.cache.Input.TheVariants as at
use Rattle.pg_table.specs.declared.cache.Act.{Act}
use Rattle.pg_table.specs.declared.cache.Act.TheVariants as act
use Rattle.pg_table.specs.Descriptors.{out_state, end_under_tag, final_states, store_phase, descs}
use Rattle.pg_table.specs.Choices.{Choice, only_choice, choices_if_some, answer_acts, answer_choices, is_later, tag_by, later_choices, evict_request_in, by_load, by_store, by_evict, when_stable, serve_acts, end_choices, choices_if_shared, when_loading, earlier_choices, is_earlier, when_storing, when_upgrading, store_final, when_waiting, when_leaving, choices}
use Rattle.pg_table.specs.GeneratedStates.{choice_of_mode}
use Rattle.pg_table.specs.Sound.{is_among}
use Rattle.pg_table.proofs.Members.{HasTag, IsState, is_state, is_listed, out_is_out_state, out_below}
use Rattle.pg_table.proofs.Finals.{row_is_formed, take_below, hit_below, final_below, final_in, first_in, after_below}
use Rattle.pg_table.proofs.Starts.{denied_starts, takes_to_start, store_plain, load_plain, store_begins, later_tagged}

-- Choices

-- each of these choices that is generated leads to a state
abbrev pub LeadToStates : Draft → Mode → List Choice → Type 0
LeadToStates d m cs = (c : Choice) → choice_of_mode m cs ≡ Some c → IsState d m c.next

no_choice : (d : Draft) (m : Mode) → LeadToStates d m []
no_choice d m c h = absurd cc

one_choice : (d : Draft) (m : Mode) (acts : List Act) (next : Desc) → IsState d m next → LeadToStates d m (only_choice acts next)
one_choice d m acts next state c h = subst (λ (c : Choice). IsState d m c.next) (same_Some (record { acts = acts; next = next }) c h) state

given_choices : {A : Type 0} (d : Draft) (m : Mode) (o : Option A) (f : A → List Choice) → ((x : A) → o ≡ Some x → LeadToStates d m (f x)) → LeadToStates d m (choices_if_some o f)
given_choices d m None f each = no_choice d m
given_choices d m (Some x) f each = each x refl

either_choice : (d : Draft) (m : Mode) (b : Bool) (xs ys : List Choice) → (b ≡ true → LeadToStates d m xs) → (b ≡ false → LeadToStates d m ys) → LeadToStates d m (if b then xs else ys)
either_choice d m true xs ys so otherwise = so refl
either_choice d m false xs ys so otherwise = otherwise refl

-- of two choices the first is generated where forwards wait, and the second where they are put off
two_choices : (d : Draft) (m : Mode) (a b : Choice) → IsState d m a.next → (m ≡ mode.Defer → IsState d m b.next) → LeadToStates d m (a ∷ b ∷ [])
two_choices d mode.Stall a b first second c h = subst (λ (c : Choice). IsState d mode.Stall c.next) (same_Some a c h) first
two_choices d mode.Defer a b first second c h = subst (λ (c : Choice). IsState d mode.Defer c.next) (same_Some b c h) (second refl)

-- a forward that is answered
answered_leads : (d : Draft) (m : Mode) (s f : ℕ) (onward : ℕ → Desc)
    → ((t : TakeLine) → is_due d s f ≡ true → take_row d s f ≡ Some t → IsState d m (onward t.next)) → LeadToStates d m (answer_choices d s f onward)
answered_leads d m s f onward each =
    either_choice d m (is_due d s f) (choices_if_some (take_row d s f) (λ t. only_choice (answer_acts d f t.reply) (onward t.next))) []
    (λ due. given_choices d m (take_row d s f) (λ t. only_choice (answer_acts d f t.reply) (onward t.next))
    (λ t row. one_choice d m (answer_acts d f t.reply) (onward t.next) (each t due row)))
    (λ not_due. no_choice d m)

-- a later forward
later_leads : (d : Draft) (m : Mode) (s : ℕ) (event : Event) (phase : Phase) (tag : Tag) (f : ℕ) → IsShaped d → IsState d m (Ask event s phase tag)
    → (HasTag d m s event (tag_by d f) → IsState d m (Ask event s phase (tag_by d f))) → LeadToStates d m (later_choices d s event phase tag f)
later_leads d m s event phase tag f shape first second =
    either_choice d m (is_later d s event tag f) (waits ∷ goes ∷ []) []
    (λ behind. two_choices d m waits goes first
    (λ defers. second (subst (λ m. HasTag d m s event (tag_by d f)) (sym defers) (later_tagged d s event tag f shape behind))))
    (λ not_behind. no_choice d m)
  where
    waits : Choice
    waits = record { acts = act.Stall ∷ []; next = Ask event s phase tag }

    goes : Choice
    goes = record { acts = (if has_class class.Inv d f then act.Ack else act.Defer) ∷ []; next = Ask event s phase (tag_by d f) }

-- an operation that is done
ends_lead : (d : Draft) (m : Mode) (tag : Tag) (acts : List Act) (o : Option ℕ) → IsWellFormed d → ((x : ℕ) → o ≡ Some x → x < length d.caches)
    → LeadToStates d m (end_choices d tag acts o)
ends_lead d m tag acts None well below = no_choice d m
ends_lead d m tag acts (Some f) well below =
    given_choices d m (end_under_tag d f tag) (λ x. only_choice (acts ++ act.Done ∷ [] ++ serve_acts tag) (Stable x))
    (λ x e. one_choice d m (acts ++ act.Done ∷ [] ++ serve_acts tag) (Stable x) (after_below d f x tag well (below f refl) e))

shared_leads : (d : Draft) (m : Mode) (cs : List Choice) → (is_some (shared d) ≡ true → LeadToStates d m cs) → LeadToStates d m (choices_if_shared d cs)
shared_leads d m cs each = either_choice d m (is_some (shared d)) cs [] each (λ none. no_choice d m)

-- Stable states

load_leads : (d : Draft) (m : Mode) (s : ℕ) → IsWellFormed d → IsShaped d → s < length d.caches → LeadToStates d m (by_load d s)
load_leads d m s well shape below =
    either_choice d m (cache_is (allows Load) d s) (only_choice (act.Hit ∷ []) (Stable s))
    (choices_if_some (request_of d Read) (λ q. only_choice (act.Send q ∷ []) (Ask Load (out_state d) D Plain)))
    (λ allowed. one_choice d m (act.Hit ∷ []) (Stable s) below)
    (λ denied. given_choices d m (request_of d Read) (λ q. only_choice (act.Send q ∷ []) (Ask Load (out_state d) D Plain))
    (λ q e. one_choice d m (act.Send q ∷ []) (Ask Load (out_state d) D Plain)
    (out_is_out_state d shape.perms, load_plain d m (out_state d) well shape (out_is_out_state d shape.perms))))

-- a store that is a hit
hit_leads : (d : Draft) (s t : ℕ) (o : Option CoreLine) → core_row d s Store ≡ o → IsWellFormed d → s < length d.caches
    → option_and_then (λ l. store_next s Store l.form) o ≡ Some t → t < length d.caches
hit_leads d s t None row well below e = absurd cc
hit_leads d s t (Some l) row well below e = hit_below d s t l.form (row_is_formed d s Store l well row) below e

store_leads : (d : Draft) (m : Mode) (s : ℕ) → IsWellFormed d → IsShaped d → s < length d.caches → LeadToStates d m (by_store d s)
store_leads d m s well shape below =
    either_choice d m (cache_is (allows Store) d s)
    (choices_if_some (option_and_then (λ l. store_next s Store l.form) (core_row d s Store)) (λ t. only_choice (act.Hit ∷ []) (Stable t)))
    (choices_if_some (request_of d Write) (λ q. only_choice (act.Send q ∷ []) (Ask Store s (store_phase d s) Plain)))
    (λ allowed. given_choices d m (option_and_then (λ l. store_next s Store l.form) (core_row d s Store)) (λ t. only_choice (act.Hit ∷ []) (Stable t))
    (λ t e. one_choice d m (act.Hit ∷ []) (Stable t) (hit_leads d s t (core_row d s Store) refl well below e)))
    (λ denied. given_choices d m (request_of d Write) (λ q. only_choice (act.Send q ∷ []) (Ask Store s (store_phase d s) Plain))
    (λ q e. one_choice d m (act.Send q ∷ []) (Ask Store s (store_phase d s) Plain)
    (store_begins d m s well shape (denied_starts d s shape.perms below denied))))

evict_leads : (d : Draft) (m : Mode) (s : ℕ) → s < length d.caches → LeadToStates d m (by_evict d s)
evict_leads d m s below =
    either_choice d m (is (out d) s) (only_choice (act.Skip ∷ []) (Stable s))
    (choices_if_some (option_and_then (λ l. evict_request_in l.form) (core_row d s Evict)) (λ q. only_choice (act.Send q ∷ []) (Leave s)))
    (λ at_out. one_choice d m (act.Skip ∷ []) (Stable s) below)
    (λ holds. given_choices d m (option_and_then (λ l. evict_request_in l.form) (core_row d s Evict)) (λ q. only_choice (act.Send q ∷ []) (Leave s))
    (λ q e. one_choice d m (act.Send q ∷ []) (Leave s) below))

stable_leads : (d : Draft) (m : Mode) (s : ℕ) (i : Input) → IsWellFormed d → IsShaped d → IsState d m (Stable s) → LeadToStates d m (when_stable d s i)
stable_leads d m s (at.Core Load) well shape h = load_leads d m s well shape h
stable_leads d m s (at.Core Store) well shape h = store_leads d m s well shape h
stable_leads d m s (at.Core Evict) well shape h = evict_leads d m s h
stable_leads d m s (at.Forward f) well shape h = answered_leads d m s f (λ t. Stable t) (λ t due row. take_below d s f t well row)
stable_leads d m s _ well shape h = no_choice d m

-- Outstanding operations

-- where an operation ends under a reply
ends_by : (d : Draft) (m : Mode) (s : ℕ) (event : Event) (tag : Tag) (acts : List Act) (name : ReplyName) → IsWellFormed d
    → LeadToStates d m (end_choices d tag acts (final_state d s event name))
ends_by d m s event tag acts name well =
    ends_lead d m tag acts (final_state d s event name) well (λ x e. final_below d s event x well (final_in d s event name x e))

loading_leads : (d : Draft) (m : Mode) (s : ℕ) (tag : Tag) (i : Input) → IsWellFormed d → IsShaped d → IsState d m (Ask Load s D tag)
    → LeadToStates d m (when_loading d s tag i)
loading_leads d m s tag (at.DataAll r) well shape h = ends_by d m s Load tag (act.Fill ∷ []) (reply.Reply r) well
loading_leads d m s tag (at.Forward f) well shape h = later_leads d m s Load D tag f shape h (λ has. (h.0, has))
loading_leads d m s tag _ well shape h = no_choice d m

-- a forward that comes before this cache's own store
earlier_leads : (d : Draft) (m : Mode) (s f : ℕ) → IsWellFormed d → IsShaped d → LeadToStates d m (earlier_choices d s f)
earlier_leads d m s f well shape =
    answered_leads d m s f (λ t. Ask Store t (store_phase d t) Plain)
    (λ t due row. store_begins d m t.next well shape (takes_to_start d s f t shape due row))

storing_leads : (d : Draft) (m : Mode) (s : ℕ) (tag : Tag) (i : Input) → IsWellFormed d → IsShaped d → IsState d m (Ask Store s Ad tag)
    → LeadToStates d m (when_storing d s tag i)
storing_leads d m s tag (at.DataAll r) well shape h = ends_by d m s Store tag (act.Fill ∷ []) (reply.Reply r) well
storing_leads d m s tag (at.DataPart r) well shape h =
    shared_leads d m (choices_if_some (final_state d s Store (reply.Reply r)) (λ x. only_choice (act.Fill ∷ act.Need ∷ []) (Ask Store s A tag)))
    (λ some. given_choices d m (final_state d s Store (reply.Reply r)) (λ x. only_choice (act.Fill ∷ act.Need ∷ []) (Ask Store s A tag))
    (λ x e. one_choice d m (act.Fill ∷ act.Need ∷ []) (Ask Store s A tag) (h.0, some, h.2)))
storing_leads d m s tag at.AckMore well shape h =
    shared_leads d m (only_choice (act.Count ∷ []) (Ask Store s Ad tag)) (λ some. one_choice d m (act.Count ∷ []) (Ask Store s Ad tag) h)
storing_leads d m s tag (at.Forward f) well shape h =
    either_choice d m (is_earlier d s tag f) (earlier_choices d s f) (later_choices d s Store Ad tag f)
    (λ before. earlier_leads d m s f well shape)
    (λ behind. later_leads d m s Store Ad tag f shape h (λ has. (h.0, h.1, has)))
storing_leads d m s tag _ well shape h = no_choice d m

upgrading_leads : (d : Draft) (m : Mode) (s : ℕ) (tag : Tag) (i : Input) → IsWellFormed d → IsShaped d → IsState d m (Ask Store s Ac tag)
    → LeadToStates d m (when_upgrading d s i)
upgrading_leads d m s tag at.CountAll well shape h = ends_by d m s Store Plain [] reply.AckCount well
upgrading_leads d m s tag at.CountPart well shape h =
    shared_leads d m (only_choice (act.Need ∷ []) (Ask Store s A Plain))
    (λ some. one_choice d m (act.Need ∷ []) (Ask Store s A Plain) (h.0, some, store_plain d m s well shape h.0))
upgrading_leads d m s tag at.AckMore well shape h =
    shared_leads d m (only_choice (act.Count ∷ []) (Ask Store s Ac Plain)) (λ some. one_choice d m (act.Count ∷ []) (Ask Store s Ac Plain) (h.0, h.1, refl))
upgrading_leads d m s tag (at.Forward f) well shape h = earlier_leads d m s f well shape
upgrading_leads d m s tag _ well shape h = no_choice d m

waiting_leads : (d : Draft) (m : Mode) (s : ℕ) (tag : Tag) (i : Input) → IsWellFormed d → IsShaped d → IsState d m (Ask Store s A tag)
    → LeadToStates d m (when_waiting d s tag i)
waiting_leads d m s tag at.AckMore well shape h = one_choice d m (act.Count ∷ []) (Ask Store s A tag) h
waiting_leads d m s tag at.AckLast well shape h =
    ends_lead d m tag (act.Count ∷ []) (store_final (final_states d s Store)) well (λ x e. final_below d s Store x well (first_in (final_states d s Store) x e))
waiting_leads d m s tag (at.Forward f) well shape h = later_leads d m s Store A tag f shape h (λ has. (h.0, h.1, has))
waiting_leads d m s tag _ well shape h = no_choice d m

leaving_leads : (d : Draft) (m : Mode) (s : ℕ) (i : Input) → IsWellFormed d → IsShaped d → IsState d m (Leave s) → LeadToStates d m (when_leaving d s i)
leaving_leads d m s at.PutAck well shape h = one_choice d m (act.Done ∷ []) (Stable (out_state d)) (out_below d (out_state d) (out_is_out_state d shape.perms))
leaving_leads d m s (at.Forward f) well shape h = answered_leads d m s f (λ t. Leave t) (λ t due row. take_below d s f t well row)
leaving_leads d m s _ well shape h = no_choice d m

-- All states

leads : (d : Draft) (m : Mode) (s : Desc) (i : Input) → IsWellFormed d → IsShaped d → IsState d m s → LeadToStates d m (choices d s i)
leads d m (Stable s) i well shape h = stable_leads d m s i well shape h
leads d m (Ask Load s D tag) i well shape h = loading_leads d m s tag i well shape h
leads d m (Ask Store s Ad tag) i well shape h = storing_leads d m s tag i well shape h
leads d m (Ask Store s Ac tag) i well shape h = upgrading_leads d m s tag i well shape h
leads d m (Ask Store s A tag) i well shape h = waiting_leads d m s tag i well shape h
leads d m (Leave s) i well shape h = leaving_leads d m s i well shape h
leads d m _ i well shape h = absurd h

-- each row that is generated for a state leads to a state
pub chosen_leads_to_state : (d : Draft) (m : Mode) (s : Desc) (i : Input) (c : Choice) → IsWellFormed d → IsShaped d → is_among (descs d m) s ≡ true
    → choice_of_mode m (choices d s i) ≡ Some c → is_among (descs d m) c.next ≡ true
chosen_leads_to_state d m s i c well shape among h = is_listed d m c.next shape.perms (leads d m s i well shape (is_state d m s shape.perms among) c h)
