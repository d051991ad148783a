-- Which inputs may come: those where there is a choice.
use Rattle.std.proofs.Common.{◌≡◌, ℕ, ◌<◌, Bool, true, false, ◌&&◌, ◌||◌, List, [], ◌∷◌, ◌++◌, length, Option, Some, None, refl, sym, ap, ◌∙◌, inl, inr}
use Rattle.std.specs.Prelude.{is_some, slice_get, if◌then◌else◌}
use Rattle.std.specs.Option.{option_and_then}
use Rattle.std.proofs.lemmas.Bool.{eq-eqb, and_parts, or_left}
use Rattle.pg_perm.specs.declared.kinds.Role.{Role}
use Rattle.pg_perm.specs.declared.kinds.Role.TheVariants as role
use Rattle.pg_perm.specs.declared.kinds.Event.{Event}
use Rattle.pg_perm.specs.declared.kinds.Event.TheVariants.{Load, Store, Evict}
use Rattle.pg_perm.specs.declared.kinds.FwdClass.TheVariants.{Inv}
use Rattle.pg_perm.specs.declared.kinds.Mode.TheVariants as mode
use Rattle.pg_perm.specs.declared.kinds.ReqClass.TheVariants.{Read, Write}
use Rattle.pg_perm.specs.declared.draft.Draft.{Draft}
use Rattle.pg_perm.specs.declared.draft.CoreLine.{CoreLine}
use Rattle.pg_perm.specs.declared.draft.CoreForm.{CoreForm}
use Rattle.pg_perm.specs.declared.draft.CoreForm.TheVariants as form
use Rattle.pg_perm.specs.declared.draft.ReplyName.TheVariants as reply
use Rattle.pg_perm.specs.Drafts.{IsWellFormed}
use Rattle.pg_terms.specs.Terms.{is, is_out, is_shared, is_owner, is_read_owner, cache_is, out, shared, request_of, forward_of, has_class, core_row, take_row}
use Rattle.pg_terms.specs.Due.{is_due}
use Rattle.pg_terms.specs.Rows.{allows, store_next, final_under, final_state}
use Rattle.pg_shape.specs.CoreRules.{is_hit}
use Rattle.pg_shape.specs.Shaped.{IsShaped}
use Rattle.pg_shape.proofs.Bools.{and_of_both}
use Rattle.pg_shape.proofs.Searches.{not_both, not_true, position_get, get_below, map_or_get}
use Rattle.pg_shape.proofs.Cores.{at_cache}
use Rattle.pg_directory.proofs.Facts.{is_first_of_class}
use Rattle.pg_table.specs.declared.cache.Desc.{Desc}
use Rattle.pg_table.specs.declared.cache.Desc.TheVariants.{Stable, Ask, Leave}
use Rattle.pg_table.specs.declared.cache.Phase.{Phase}
use Rattle.pg_table.specs.declared.cache.Phase.TheVariants.{D, Ad, Ac, A}
use Rattle.pg_table.specs.declared.cache.Tag.{Tag}
use Rattle.pg_table.specs.declared.cache.Tag.TheVariants.{Plain, Kept, Gave, Gone}
use Rattle.pg_table.specs.declared.cache.Input.{Input}
use Rattle.pg_table.specs.declared.cache.Input.TheVariants as at
use Rattle.pg_table.specs.declared.cache.Act.{Act}
use Rattle.pg_table.specs.declared.cache.Act.TheVariants as act
use Rattle.pg_table.specs.Descriptors.{out_state, end_under_tag, final_states, descs, store_phase}
use Rattle.pg_table.specs.Choices.{Choice, only_choice, choices_if_some, answer_acts, answer_choices, is_later, later_choices, evict_request_in, by_load, by_store, by_evict, serve_acts, end_choices, is_earlier, earlier_choices, store_final, choices}
use Rattle.pg_table.specs.DueInputs.{may_end, is_due_input}
use Rattle.pg_table.specs.Sound.{is_among}
use Rattle.pg_table.proofs.Members.{IsStart, IsState, is_state}

-- Whether there is a choice

abbrev some_choice : List Choice → Bool
some_choice [] = false
some_choice (c ∷ cs) = true

-- there are choices where the test passes
if_some : (b : Bool) (xs : List Choice) → (b ≡ true → some_choice xs ≡ true) → some_choice (if b then xs else []) ≡ b
if_some true xs h = h refl
if_some false xs h = refl

-- there are choices either way
either_some : (b : Bool) (xs ys : List Choice) → (b ≡ true → some_choice xs ≡ true) → (b ≡ false → some_choice ys ≡ true) → some_choice (if b then xs else ys) ≡ true
either_some true xs ys so otherwise = so refl
either_some false xs ys so otherwise = otherwise refl

both_some : (b c : Bool) (xs : List Choice) → some_choice xs ≡ c → some_choice (if b then xs else []) ≡ (b && c)
both_some true c xs h = h
both_some false c xs h = refl

given_some : {X : Type 0} (o : Option X) (f : X → List Choice) (x : X) → o ≡ Some x → some_choice (f x) ≡ true → some_choice (choices_if_some o f) ≡ true
given_some o f x e h = ap (λ o. some_choice (choices_if_some o f)) e ∙ h

each_some : {X : Type 0} (o : Option X) (f : X → Choice) → some_choice (choices_if_some o (λ x. f x ∷ [])) ≡ is_some o
each_some None f = refl
each_some (Some x) f = refl

-- an operation ends where its final state is one that the tag tells of
ends_some : (d : Draft) (tag : Tag) (acts : List Act) (o : Option ℕ) → some_choice (end_choices d tag acts o) ≡ may_end d tag o
ends_some d tag acts None = refl
ends_some d tag acts (Some x) = each_some (end_under_tag d x tag) (λ x. record { acts = acts ++ act.Done ∷ [] ++ serve_acts tag; next = Stable x })

-- a forward that is due is answered
answered_some : (d : Draft) (s f : ℕ) (onward : ℕ → Desc) → IsShaped d → some_choice (answer_choices d s f onward) ≡ is_due d s f
answered_some d s f onward shape =
    if_some (is_due d s f) (choices_if_some (take_row d s f) (λ t. only_choice (answer_acts d f t.reply) (onward t.next)))
    (λ due. let (t, row) = shape.takes.due s f due in given_some (take_row d s f) (λ t. only_choice (answer_acts d f t.reply) (onward t.next)) t row refl)

later_some : (d : Draft) (s : ℕ) (event : Event) (phase : Phase) (tag : Tag) (f : ℕ) → some_choice (later_choices d s event phase tag f) ≡ is_later d s event tag f
later_some d s event phase tag f = if_some (is_later d s event tag f) _ (λ behind. refl)

-- Stable states

load_some : (d : Draft) (s : ℕ) → IsShaped d → s < length d.caches → some_choice (by_load d s) ≡ true
load_some d s shape below =
    either_some (cache_is (allows Load) d s) (only_choice (act.Hit ∷ []) (Stable s))
    (choices_if_some (request_of d Read) (λ q. only_choice (act.Send q ∷ []) (Ask Load (out_state d) D Plain))) (λ allowed. refl)
    (λ denied.
    let (c, get) = get_below d.caches s below in
    let (x, row) = shape.cores.row s Load c get (λ e. absurd cc) in
    let (request, pairs, asks, of) = shape.cores.load s x c get row (sym (at_cache (allows Load) d s c get) ∙ denied) in
    given_some (request_of d Read) (λ q. only_choice (act.Send q ∷ []) (Ask Load (out_state d) D Plain)) request of refl)

-- a store that is a hit leads on
pub hit_next : (s : ℕ) (f : CoreForm) → is_hit f ≡ true → (t : ℕ) × (store_next s Store f ≡ Some t)
hit_next s (form.Hit None) h = (s, refl)
hit_next s (form.Hit (Some t)) h = (t, refl)
hit_next s (form.Ask request pairs) h = absurd cc
hit_next s (form.Leave request) h = absurd cc

store_some : (d : Draft) (s : ℕ) → IsShaped d → s < length d.caches → some_choice (by_store d s) ≡ true
store_some d s shape below = let (c, get) = get_below d.caches s below in let (x, row) = shape.cores.row s Store c get (λ e. absurd cc) in
    either_some (cache_is (allows Store) d s)
    (choices_if_some (option_and_then (λ l. store_next s Store l.form) (core_row d s Store)) (λ t. only_choice (act.Hit ∷ []) (Stable t)))
    (choices_if_some (request_of d Write) (λ q. only_choice (act.Send q ∷ []) (Ask Store s (store_phase d s) Plain)))
    (λ allowed.
    let (t, e) = hit_next s x.form (shape.cores.hits s Store c x get row (sym (at_cache (allows Store) d s c get) ∙ allowed)) in
    given_some (option_and_then (λ l. store_next s Store l.form) (core_row d s Store)) (λ t. only_choice (act.Hit ∷ []) (Stable t)) t
    (ap (λ (o : Option CoreLine). option_and_then (λ l. store_next s Store l.form) o) row ∙ e) refl)
    (λ denied.
    let (request, pairs, asks, of) = shape.cores.store s x c get row (sym (at_cache (allows Store) d s c get) ∙ denied) in
    given_some (request_of d Write) (λ q. only_choice (act.Send q ∷ []) (Ask Store s (store_phase d s) Plain)) request of refl)

evict_some : (d : Draft) (s : ℕ) → IsShaped d → s < length d.caches → some_choice (by_evict d s) ≡ true
evict_some d s shape below =
    either_some (is (out d) s) (only_choice (act.Skip ∷ []) (Stable s))
    (choices_if_some (option_and_then (λ l. evict_request_in l.form) (core_row d s Evict)) (λ q. only_choice (act.Send q ∷ []) (Leave s))) (λ at_out. refl)
    (λ holds.
    let (c, get) = get_below d.caches s below in
    let in_out : is_out c.role ≡ true → is (out d) s ≡ true = λ o. ap (λ o. is o s) (shape.perms.out_none s c get o).0 ∙ eq-eqb s s refl in
    let (x, row) = shape.cores.row s Evict c get (λ e. not_true (is_out c.role) (λ o. not_both (is (out d) s) (in_out o) holds)) in
    let (m, leaves) = shape.cores.evict s x row in
    given_some (option_and_then (λ l. evict_request_in l.form) (core_row d s Evict)) (λ q. only_choice (act.Send q ∷ []) (Leave s)) m
    (ap (λ (o : Option CoreLine). option_and_then (λ l. evict_request_in l.form) o) row ∙ ap evict_request_in leaves) refl)

stable_some : (d : Draft) (s : ℕ) (i : Input) → IsShaped d → s < length d.caches → some_choice (choices d (Stable s) i) ≡ is_due_input d (Stable s) i
stable_some d s (at.Core Load) shape below = load_some d s shape below
stable_some d s (at.Core Store) shape below = store_some d s shape below
stable_some d s (at.Core Evict) shape below = evict_some d s shape below
stable_some d s (at.Forward f) shape below = answered_some d s f (λ t. Stable t) shape
stable_some d s _ shape below = refl

-- Outstanding operations

loading_some : (d : Draft) (s : ℕ) (tag : Tag) (i : Input) → some_choice (choices d (Ask Load s D tag) i) ≡ is_due_input d (Ask Load s D tag) i
loading_some d s tag (at.DataAll r) = ends_some d tag (act.Fill ∷ []) (final_state d s Load (reply.Reply r))
loading_some d s tag (at.Forward f) = later_some d s Load D tag f
loading_some d s tag _ = refl

-- an invalidation that comes before this cache's own store is due
earlier_due : (d : Draft) (s : ℕ) (tag : Tag) (f : ℕ) → IsShaped d → is_earlier d s tag f ≡ true → is_due d s f ≡ true
earlier_due d s Plain f shape h =
    let (in_shared, inv) = and_parts (is (shared d) s) (has_class Inv d f) h in
    let first : is (forward_of d Inv) f ≡ true = ap (λ o. is o f) (is_first_of_class d shape.forwards Inv f inv) ∙ eq-eqb f f refl in
    or_left (is (shared d) s && is (forward_of d Inv) f) _ (and_of_both (is (shared d) s) (is (forward_of d Inv) f) in_shared first)
earlier_due d s Kept f shape h = absurd cc
earlier_due d s Gave f shape h = absurd cc
earlier_due d s Gone f shape h = absurd cc

-- a forward that comes before or after
either_forward : (a b c : Bool) (xs ys : List Choice) → some_choice xs ≡ c → some_choice ys ≡ b → (a ≡ true → c ≡ true)
    → some_choice (if a then xs else ys) ≡ (b || a && c)
either_forward true true c xs ys before behind due = before ∙ due refl
either_forward true false c xs ys before behind due = before
either_forward false true c xs ys before behind due = behind
either_forward false false c xs ys before behind due = behind

storing_some : (d : Draft) (s : ℕ) (tag : Tag) (i : Input) → IsShaped d → some_choice (choices d (Ask Store s Ad tag) i) ≡ is_due_input d (Ask Store s Ad tag) i
storing_some d s tag (at.DataAll r) shape = ends_some d tag (act.Fill ∷ []) (final_state d s Store (reply.Reply r))
storing_some d s tag (at.DataPart r) shape =
    both_some (is_some (shared d)) (is_some (final_state d s Store (reply.Reply r))) _
    (each_some (final_state d s Store (reply.Reply r)) (λ x. record { acts = act.Fill ∷ act.Need ∷ []; next = Ask Store s A tag }))
storing_some d s tag at.AckMore shape = if_some (is_some (shared d)) (only_choice (act.Count ∷ []) (Ask Store s Ad tag)) (λ there. refl)
storing_some d s tag (at.Forward f) shape =
    either_forward (is_earlier d s tag f) (is_later d s Store tag f) (is_due d s f) (earlier_choices d s f) (later_choices d s Store Ad tag f)
    (answered_some d s f (λ t. Ask Store t (store_phase d t) Plain) shape) (later_some d s Store Ad tag f) (earlier_due d s tag f shape)
storing_some d s tag _ shape = refl

owner_alone : (r : Role) → is_owner r ≡ true → (is_out r ≡ false) × (is_shared r ≡ false)
owner_alone role.Out h = absurd cc
owner_alone role.Shared h = absurd cc
owner_alone role.Owner h = (refl, refl)

-- an owner in which a store asks may only read
asking_reads : (d : Draft) (s : ℕ) → IsStart d s → cache_is (λ c. is_owner c.role) d s ≡ true → cache_is is_read_owner d s ≡ true
asking_reads d s (inl e) owner =
    let (c, get, out) = (position_get (λ c. is_out c.role) d.caches s e).1 in
    absurd (not_both (is_out c.role) out (owner_alone c.role (sym (at_cache (λ c. is_owner c.role) d s c get) ∙ owner)).0)
asking_reads d s (inr (inl e)) owner =
    let (c, get, shared) = (position_get (λ c. is_shared c.role) d.caches s e).1 in
    absurd (not_both (is_shared c.role) shared (owner_alone c.role (sym (at_cache (λ c. is_owner c.role) d s c get) ∙ owner)).1)
asking_reads d s (inr (inr h)) owner = h

upgrading_some : (d : Draft) (s : ℕ) (tag : Tag) (i : Input) → IsShaped d → IsStart d s → cache_is (λ c. is_owner c.role) d s ≡ true
    → some_choice (choices d (Ask Store s Ac tag) i) ≡ is_due_input d (Ask Store s Ac tag) i
upgrading_some d s tag at.CountAll shape start owner =
    let (c, get, role) = map_or_get (λ c. is_owner c.role) (slice_get d.caches s) owner in
    let (x, row) = shape.cores.row s Store c get (λ e. absurd cc) in
    let (t, e) = shape.cores.store_count s x (asking_reads d s start owner) row in
    ends_some d Plain [] (final_state d s Store reply.AckCount)
    ∙ ap (may_end d Plain)
    (ap (λ (o : Option CoreLine). option_and_then (λ c. final_under reply.AckCount c.form) o) row ∙ e)
upgrading_some d s tag at.CountPart shape start owner = if_some (is_some (shared d)) (only_choice (act.Need ∷ []) (Ask Store s A Plain)) (λ there. refl)
upgrading_some d s tag at.AckMore shape start owner = if_some (is_some (shared d)) (only_choice (act.Count ∷ []) (Ask Store s Ac Plain)) (λ there. refl)
upgrading_some d s tag (at.Forward f) shape start owner = answered_some d s f (λ t. Ask Store t (store_phase d t) Plain) shape
upgrading_some d s tag _ shape start owner = refl

waiting_some : (d : Draft) (s : ℕ) (tag : Tag) (i : Input) → some_choice (choices d (Ask Store s A tag) i) ≡ is_due_input d (Ask Store s A tag) i
waiting_some d s tag at.AckMore = refl
waiting_some d s tag at.AckLast = ends_some d tag (act.Count ∷ []) (store_final (final_states d s Store))
waiting_some d s tag (at.Forward f) = later_some d s Store A tag f
waiting_some d s tag _ = refl

leaving_some : (d : Draft) (s : ℕ) (i : Input) → IsShaped d → some_choice (choices d (Leave s) i) ≡ is_due_input d (Leave s) i
leaving_some d s at.PutAck shape = refl
leaving_some d s (at.Forward f) shape = answered_some d s f (λ t. Leave t) shape
leaving_some d s _ shape = refl

-- All states

choices_some : (d : Draft) (s : Desc) (i : Input) → IsShaped d → IsState d mode.Defer s → some_choice (choices d s i) ≡ is_due_input d s i
choices_some d (Stable s) i shape h = stable_some d s i shape h
choices_some d (Ask Load s D tag) i shape h = loading_some d s tag i
choices_some d (Ask Store s Ad tag) i shape h = storing_some d s tag i shape
choices_some d (Ask Store s Ac tag) i shape h = upgrading_some d s tag i shape h.0 h.1
choices_some d (Ask Store s A tag) i shape h = waiting_some d s tag i
choices_some d (Leave s) i shape h = leaving_some d s i shape
choices_some d _ i shape h = absurd h

first_choice : (cs : List Choice) → some_choice cs ≡ true → (c : Choice) × (rest : List Choice) × (cs ≡ c ∷ rest)
first_choice [] h = absurd cc
first_choice (c ∷ cs) h = (c, cs, refl)

no_choice : (cs : List Choice) → some_choice cs ≡ false → cs ≡ []
no_choice [] h = refl
no_choice (c ∷ cs) h = absurd cc

-- where an input may come there is a choice
pub due_chooses : (d : Draft) (s : Desc) (i : Input) → IsWellFormed d → IsShaped d → is_among (descs d mode.Defer) s ≡ true → is_due_input d s i ≡ true
    → (c : Choice) × (cs : List Choice) × (choices d s i ≡ c ∷ cs)
due_chooses d s i well shape among due = first_choice (choices d s i) (choices_some d s i shape (is_state d mode.Defer s shape.perms among) ∙ due)

-- and where none may come there is none
pub not_due_chooses_none : (d : Draft) (s : Desc) (i : Input) → IsWellFormed d → IsShaped d → is_among (descs d mode.Defer) s ≡ true → is_due_input d s i ≡ false
    → choices d s i ≡ []
not_due_chooses_none d s i well shape among due = no_choice (choices d s i) (choices_some d s i shape (is_state d mode.Defer s shape.perms among) ∙ due)
