-- What a core does at the events in each cache state.
use Rattle.std.proofs.Common.{◌≡◌, ℕ, zero, suc, ◌<◌, ◌≤◌, ◌⊎◌, Bool, true, false, cond, not, ◌&&◌, ◌||◌, List, [], ◌∷◌, length, Option, Some, None, refl, sym, subst, ap, ◌∙◌, arith, inl, inr}
use Rattle.std.specs.Prelude.{slice_get, find, is_none, is_some, ◌==◌}
use Rattle.std.specs.Option.{option_map, option_map_or}
use Rattle.std.specs.List.{list_any, list_all}
use Rattle.std.proofs.lemmas.Bool.{or_parts, eqb-true, cases_lt, and_parts, not-false, or_cases, false_from_ne_true}
use Rattle.std.proofs.lemmas.Option.{same_Some, slice_get_within}
use Rattle.pg_perm.specs.declared.kinds.Role.{Role}
use Rattle.pg_perm.specs.declared.kinds.Role.TheVariants as role
use Rattle.pg_perm.specs.declared.kinds.Perm.{Perm}
use Rattle.pg_perm.specs.declared.kinds.Perm.TheVariants as perm
use Rattle.pg_perm.specs.declared.kinds.Event.{Event}
use Rattle.pg_perm.specs.declared.kinds.Event.TheVariants.{Load, Store, Evict}
use Rattle.pg_perm.specs.declared.kinds.Who.{Who}
use Rattle.pg_perm.specs.declared.kinds.Who.TheVariants.{Other, Sharer}
use Rattle.pg_perm.specs.declared.kinds.ReqClass.TheVariants.{Read, Write, Clean, Dirty}
use Rattle.pg_perm.specs.declared.draft.Draft.{Draft}
use Rattle.pg_perm.specs.declared.draft.CacheLine.{CacheLine}
use Rattle.pg_perm.specs.declared.draft.DirLine.{DirLine}
use Rattle.pg_perm.specs.declared.draft.CoreLine.{CoreLine}
use Rattle.pg_perm.specs.declared.draft.CoreForm.{CoreForm}
use Rattle.pg_perm.specs.declared.draft.CoreForm.TheVariants.{Hit, Ask, Leave}
use Rattle.pg_perm.specs.declared.draft.Pair.{Pair}
use Rattle.pg_perm.specs.declared.draft.ReplyName.{ReplyName}
use Rattle.pg_perm.specs.declared.draft.ReplyName.TheVariants as reply
use Rattle.pg_perm.specs.declared.draft.TakeLine.{TakeLine}
use Rattle.pg_perm.specs.declared.draft.RowLine.{RowLine}
use Rattle.pg_perm.specs.declared.draft.RowForm.{RowForm}
use Rattle.pg_perm.specs.declared.draft.RowForm.TheVariants as form
use Rattle.pg_perm.specs.declared.draft.Action.TheVariants as action
use Rattle.pg_perm.specs.declared.fault.Rule.TheVariants.{S1, S5, S7, S10, S11, S19}
use Rattle.pg_perm.specs.Classes.{is_request, is_forward, is_reply}
use Rattle.pg_perm.specs.Drafts.{has_cache, has_dir, has_message, has_core_form, has_core, has_take, has_row_form, has_row, IsWellFormed}
use Rattle.pg_terms.specs.Terms.{is_out, is_shared, is_owner, is_none_perm, is_read_perm, is_write_perm, same_event, is, is_other, is_write_owner, is_read_owner, cache_is, out, shared, request_of, lists_state, lists, core_row}
use Rattle.pg_terms.specs.Due.{same_reply, is_row_for, is_row_from, is_answer, row_brings_reply, is_load_reply, is_store_reply}
use Rattle.pg_terms.proofs.Same.{event_equal, reply_equal}
use Rattle.pg_shape.specs.TextRules.{lacks_requests}
use Rattle.pg_shape.specs.CacheRules.{has_wrong_perm}
use Rattle.pg_shape.specs.CoreRules.{is_hit, leaves_out, asks_needlessly, hits_without_perm, moves_at_load, class_of, asks_otherwise, is_asked, names_reply, names_twice, names_another, misses_reply_name, misses_below, misses_reply, names_wrongly, has_wrong_replies, is_no_load_final, is_dirty_writer, stays_at_store, moves_at_store, is_no_store_final, ends_differ, ends_wrongly, breaks_s7, tells_apart, asks_class, leaves_by_another, leaves_wrongly, is_from_cache, is_unclean, ends_unclean}
use Rattle.pg_terms.specs.Rows.{allows, store_next, pair_under, final_under}
use Rattle.pg_shape.specs.ShapeFaults.{HasShape}
use Rattle.pg_shape.specs.Shaped.{HasCores}
use Rattle.pg_shape.proofs.Bools.{three_not, three_and, and_not}
use Rattle.pg_shape.proofs.Searches.{all_at, not_both, any_get, any_not, find_get, position_get, map_or_get, some_of}
use Rattle.pg_shape.proofs.Shaped.{text_keeps, cache_keeps, core_keeps, has_core_row, is_then_some}

-- Tests, lists and options

-- all of four are so
pub four_and : (a b c d : Bool) → (a && b && c && d) ≡ true → (a ≡ true) × (b ≡ true) × (c ≡ true) × (d ≡ true)
four_and true true true d h = (refl, refl, refl, h)
four_and true true false d h = absurd cc
four_and true false c d h = absurd cc
four_and false b c d h = absurd cc

-- none of seven is so
seven_not : (a b c d e f g : Bool) → (a || b || c || d || e || f || g) ≡ false
    → (a ≡ false) × (b ≡ false) × (c ≡ false) × (d ≡ false) × (e ≡ false) × (f ≡ false) × (g ≡ false)
seven_not false false false false false false g h = (refl, refl, refl, refl, refl, refl, h)
seven_not false false false false false true g h = absurd cc
seven_not false false false false true f g h = absurd cc
seven_not false false false true e f g h = absurd cc
seven_not false false true d e f g h = absurd cc
seven_not false true c d e f g h = absurd cc
seven_not true b c d e f g h = absurd cc

-- where one passes, one is found
any_find : {X : Type 0} (p : X → Bool) (xs : List X) → list_any p xs ≡ true → (x : X) × (find p xs ≡ Some x)
any_find p [] h = absurd cc
any_find p (y ∷ xs) h = at (p y) h (any_find p xs)
  where
    at : (b : Bool) → (b || list_any p xs) ≡ true → (list_any p xs ≡ true → (x : _) × (find p xs ≡ Some x))
        → (x : _) × (cond b (Some y) (find p xs) ≡ Some x)
    at true h behind = (y, refl)
    at false h behind = behind h

-- what is asked of a cache state is asked of its line
pub at_cache : (test : CacheLine → Bool) (d : Draft) (s : ℕ) (c : CacheLine) → slice_get d.caches s ≡ Some c → cache_is test d s ≡ test c
at_cache test d s c e = ap (λ (o : Option CacheLine). option_map_or test o false) e

-- Well-formed drafts

-- what core, take and row lines name is declared
pub all_formed : (d : Draft) → IsWellFormed d
    → (list_all (has_core d) d.cores ≡ true) × (list_all (has_take d) d.takes ≡ true) × (list_all (has_row d) d.rows ≡ true)
all_formed d w =
    let (dirs, cores, takes, rows) =
    four_and _ (list_all (has_core d) d.cores) (list_all (has_take d) d.takes) (list_all (has_row d) d.rows) w.numbers in
    (cores, takes, rows)

-- a core line is in the form of its event
pub core_formed : (d : Draft) → IsWellFormed d → (k : ℕ) (x : CoreLine) → slice_get d.cores k ≡ Some x → has_core_form d x.event x.form ≡ true
core_formed d w k x e =
    let formed : has_core d x ≡ true = all_at (has_core d) d.cores k x (all_formed d w).0 e in
    (and_parts (has_cache d x.state) (has_core_form d x.event x.form) formed).1

-- the reply of a take line is one
take_formed : (d : Draft) → IsWellFormed d → (k : ℕ) (t : TakeLine) → slice_get d.takes k ≡ Some t
    → option_map_or (has_message is_reply d) t.reply true ≡ true
take_formed d w k t e =
    let formed : has_take d t ≡ true = all_at (has_take d) d.takes k t (all_formed d w).1 e in
    (four_and (has_cache d t.state) (has_message is_forward d t.forward) (option_map_or (has_message is_reply d) t.reply true)
    (has_cache d t.next) formed).2

-- what a row line does with a request is declared
row_formed : (d : Draft) → IsWellFormed d → (k : ℕ) (r : RowLine) → slice_get d.rows k ≡ Some r → has_row_form d r.form ≡ true
row_formed d w k r e =
    let formed : has_row d r ≡ true = all_at (has_row d) d.rows k r (all_formed d w).2 e in
    (three_and (has_dir d r.dir) (has_row_form d r.form) (has_dir d r.next) formed).1

-- a reply is a message
reply_below : (d : Draft) (m : ℕ) → has_message is_reply d m ≡ true → m < length d.messages
reply_below d m h = let (x, e, p) = map_or_get (λ x. is_reply x.class) (slice_get d.messages m) h in slice_get_within d.messages m x e

-- what a row line brings is a message
brought_below : (d : Draft) → IsWellFormed d → (n m : ℕ) (f : RowForm) → has_row_form d f ≡ true → row_brings_reply d n f m ≡ true → m < length d.messages
brought_below d w n m (form.Ask request who (action.Reply k)) h b =
    let parts = and_parts (has_message is_request d request) (has_message is_reply d k) h in
    reply_below d m (subst (λ i. has_message is_reply d i ≡ true) (eqb-true k m b) parts.1)
brought_below d w n m (form.Ask request who (action.Forward f)) h b =
    let (k, t, e, answers) = any_get (is_answer d n f m) d.takes b in
    let answer = three_and (t.forward == f) (is t.reply m) (lists d n t.state) answers in
    let sends : option_map_or (has_message is_reply d) t.reply true ≡ true = take_formed d w k t e in
    reply_below d m (subst (λ o. option_map_or (has_message is_reply d) o true ≡ true) (is_then_some t.reply m answer.1) sends)
brought_below d w n m (form.Ask request who action.Count) h b = absurd cc
brought_below d w n m (form.Evict who left) h b = absurd cc

-- a reply that a load may get is a message
load_reply_below : (d : Draft) → IsWellFormed d → (m : ℕ) → is_load_reply d m ≡ true → m < length d.messages
load_reply_below d w m h =
    let (k, r, e, for) = any_get (λ r. is_row_for d Read r.form && row_brings_reply d r.dir r.form m) d.rows h in
    brought_below d w r.dir m r.form (row_formed d w k r e) (and_parts (is_row_for d Read r.form) _ for).1

-- a reply that a store may get is a message
store_reply_below : (d : Draft) → IsWellFormed d → (m : ℕ) (who : Who) → is_store_reply d who m ≡ true → m < length d.messages
store_reply_below d w m who h =
    let (k, r, e, from) = any_get (λ r. is_row_from d Write who r.form && row_brings_reply d r.dir r.form m) d.rows h in
    brought_below d w r.dir m r.form (row_formed d w k r e) (and_parts (is_row_from d Write who r.form) _ from).1

-- a reply that a core may get is a message
asked_below : (d : Draft) → IsWellFormed d → (r : Role) (event : Event) (m : ℕ) → is_asked d r event (reply.Reply m) ≡ true → m < length d.messages
asked_below d w r Load m h = load_reply_below d w m h
asked_below d w role.Out Store m h = store_reply_below d w m Other h
asked_below d w role.Shared Store m h = store_reply_below d w m Sharer h
asked_below d w role.Owner Store m h = absurd cc
asked_below d w r Evict m h = absurd cc

-- What a core row keeps

-- an owner that may write goes to a state that is none or is clean, or that the directory tells apart
abbrev pub hits_to : Draft → ℕ → ℕ → Bool
hits_to d s t = cache_is is_write_owner d s && (not (cache_is is_dirty_writer d t) || list_any (tells_apart s t) d.dirs)

-- no rule is broken by a core line of this state, event and form
pub record Keeps (d : Draft) (s : ℕ) (event : Event) (form : CoreForm) : Type 0 where
  pub formed : has_core_form d event form ≡ true
  pub done : (cache_is (allows event) d s && not (is_hit form)) ≡ false
  pub asks : (cache_is (λ x. not (allows event x)) d s && is_hit form) ≡ false
  pub rests : moves_at_load event form ≡ false
  pub asked : asks_otherwise d event form ≡ false
  pub replies : has_wrong_replies d s event form ≡ false
  pub ends : ends_wrongly d event form ≡ false
  pub hits : option_map_or (hits_to d s) (store_next s event form) false ≡ false
  pub leaves : leaves_wrongly d s form ≡ false
  pub cleans : ends_unclean d event form ≡ false

-- a core row is a line of its state and event
pub core_row_get : (d : Draft) (s : ℕ) (event : Event) (x : CoreLine) → core_row d s event ≡ Some x
    → (k : ℕ) × (slice_get d.cores k ≡ Some x) × (x.state ≡ s) × (x.event ≡ event)
core_row_get d s event x e =
    let (k, g, passes) = find_get (λ c. (c.state == s) && same_event c.event event) d.cores x e in
    let same = and_parts (x.state == s) (same_event x.event event) passes in
    (k, g, eqb-true x.state s same.0, event_equal x.event event same.1)

-- a core line breaks no rule
core_line_keeps : (d : Draft) → IsWellFormed d → HasShape d → (k : ℕ) (x : CoreLine) → slice_get d.cores k ≡ Some x → Keeps d x.state x.event x.form
core_line_keeps d w h k x e =
    let kept : breaks_s7 d x ≡ false = core_keeps d h k x e S7 in
    let (leaves, done, asks, rests, asked, replies, ends) = seven_not (leaves_out d x) (asks_needlessly d x) (hits_without_perm d x)
    (moves_at_load x.event x.form) (asks_otherwise d x.event x.form) (has_wrong_replies d x.state x.event x.form)
    (ends_wrongly d x.event x.form) kept in
    record {
      formed = core_formed d w k x e;
      done = done;
      asks = asks;
      rests = rests;
      asked = asked;
      replies = replies;
      ends = ends;
      hits = core_keeps d h k x e S10;
      leaves = core_keeps d h k x e S11;
      cleans = core_keeps d h k x e S19;
    }

-- nor does a core row, at its state and event
pub core_row_keeps : (d : Draft) → IsWellFormed d → HasShape d → (s : ℕ) (event : Event) (x : CoreLine) → core_row d s event ≡ Some x
    → Keeps d s event x.form
core_row_keeps d w h s event x e =
    let (k, g, state, at) = core_row_get d s event x e in
    subst (λ (a : Event). Keeps d s a x.form) at (subst (λ (n : ℕ). Keeps d n x.event x.form) state (core_line_keeps d w h k x g))

-- What a core asks

-- a load or a store without the permission asks by READ or WRITE
asks_by : (d : Draft) (s m : ℕ) (event : Event) (c : CacheLine) (form : CoreForm) → Keeps d s event form → same_event event Evict ≡ false
    → slice_get d.caches s ≡ Some c → allows event c ≡ false → request_of d (class_of event) ≡ Some m
    → (request : ℕ) × (pairs : List Pair) × (form ≡ Ask request pairs) × (request_of d (class_of event) ≡ Some request)
asks_by d s m event c (Hit next) keeps stays_in e lacks r =
    let lacking : cache_is (λ x. not (allows event x)) d s ≡ true = at_cache (λ x. not (allows event x)) d s c e ∙ ap not lacks in
    absurd (not_both true refl (and_not (cache_is (λ x. not (allows event x)) d s) true keeps.asks lacking))
asks_by d s m event c (Ask request pairs) keeps stays_in e lacks r =
    let same : is_other (Some m) request ≡ false = subst (λ o. is_other o request ≡ false) r keeps.asked in
    (request, pairs, refl, r ∙ ap Some (eqb-true m request (not-false (m == request) same)))
asks_by d s m Load c (Leave request) keeps stays_in e lacks r = absurd (not_both false keeps.formed refl)
asks_by d s m Store c (Leave request) keeps stays_in e lacks r = absurd (not_both false keeps.formed refl)
asks_by d s m Evict c (Leave request) keeps stays_in e lacks r = absurd cc

-- READ and WRITE are there
pub has_request : (d : Draft) → HasShape d → (event : Event) → same_event event Evict ≡ false → (m : ℕ) × (request_of d (class_of event) ≡ Some m)
has_request d h event stays_in = at event stays_in
  where
    kept : lacks_requests d ≡ false
    kept = text_keeps d h S5

    at : (event : Event) → same_event event Evict ≡ false → (m : ℕ) × (request_of d (class_of event) ≡ Some m)
    at Load g = some_of (request_of d Read) (or_parts (is_none (request_of d Read)) (is_none (request_of d Write)) kept).0
    at Store g = some_of (request_of d Write) (or_parts (is_none (request_of d Read)) (is_none (request_of d Write)) kept).1
    at Evict g = absurd cc

-- without the permission a load asks by READ, and a store by WRITE
asks : (d : Draft) → HasShape d → (s : ℕ) (event : Event) (c : CacheLine) (form : CoreForm) → Keeps d s event form → same_event event Evict ≡ false
    → slice_get d.caches s ≡ Some c → allows event c ≡ false
    → (request : ℕ) × (pairs : List Pair) × (form ≡ Ask request pairs) × (request_of d (class_of event) ≡ Some request)
asks d h s event c form keeps stays_in e lacks = let (m, r) = has_request d h event stays_in in asks_by d s m event c form keeps stays_in e lacks r

-- where no reply below a number is missed, each that a core may get is named
named_below : (d : Draft) (r : Role) (event : Event) (pairs : List Pair) (n m : ℕ) → misses_below d r event pairs n ≡ false → m < n
    → is_asked d r event (reply.Reply m) ≡ true → names_reply pairs (reply.Reply m) ≡ true
named_below d r event pairs zero m h lt asked = absurd (omega (arith, lt))
named_below d r event pairs (suc n) m h lt asked =
    let none = or_parts (misses_reply_name d r event pairs (reply.Reply n)) (misses_below d r event pairs n) h in
    at (cases_lt m n) none.0 (named_below d r event pairs n m none.1)
  where
    at : (m < n) ⊎ (n ≤ m) → misses_reply_name d r event pairs (reply.Reply n) ≡ false
        → (m < n → is_asked d r event (reply.Reply m) ≡ true → names_reply pairs (reply.Reply m) ≡ true)
        → names_reply pairs (reply.Reply m) ≡ true
    at (inl below) last behind = behind below asked
    at (inr above) last behind =
        let same : n ≡ m = omega (arith, lt, above) in
        let here : misses_reply_name d r event pairs (reply.Reply m) ≡ false = subst (λ i. misses_reply_name d r event pairs (reply.Reply i) ≡ false) same last in
        not-false (names_reply pairs (reply.Reply m)) (and_not (is_asked d r event (reply.Reply m)) (not (names_reply pairs (reply.Reply m))) here asked)

-- each reply that a core may get is named
named : (d : Draft) → IsWellFormed d → (r : Role) (event : Event) (pairs : List Pair) (name : ReplyName) → misses_reply d r event pairs ≡ false
    → is_asked d r event name ≡ true → names_reply pairs name ≡ true
named d w r event pairs reply.AckCount h asked =
    let none = or_parts (misses_reply_name d r event pairs reply.AckCount) (misses_below d r event pairs (length d.messages)) h in
    not-false (names_reply pairs reply.AckCount) (and_not (is_asked d r event reply.AckCount) (not (names_reply pairs reply.AckCount)) none.0 asked)
named d w r event pairs (reply.Reply m) h asked =
    let none = or_parts (misses_reply_name d r event pairs reply.AckCount) (misses_below d r event pairs (length d.messages)) h in
    named_below d r event pairs (length d.messages) m none.1 (asked_below d w r event m asked) asked

-- a reply that is named has a final state
named_final : (name : ReplyName) (pairs : List Pair) → names_reply pairs name ≡ true
    → (t : ℕ) × (option_map (λ (p : Pair). p.fin) (pair_under name pairs) ≡ Some t)
named_final name pairs h = let (p, e) = any_find (λ p. same_reply p.reply name) pairs h in (p.fin, ap (option_map (λ (p : Pair). p.fin)) e)

-- a core without the permission has a final state under each reply that it may get
asked_final : (d : Draft) → IsWellFormed d → HasShape d → (s : ℕ) (event : Event) (c : CacheLine) (form : CoreForm) (name : ReplyName)
    → Keeps d s event form → same_event event Evict ≡ false → slice_get d.caches s ≡ Some c → allows event c ≡ false
    → is_asked d c.role event name ≡ true → (t : ℕ) × (final_under name form ≡ Some t)
asked_final d w h s event c form name keeps stays_in e lacks asked =
    let (request, pairs, is_ask, r) = asks d h s event c form keeps stays_in e lacks in
    let replies : has_wrong_replies d s event (Ask request pairs) ≡ false =
    subst (λ (f : CoreForm). has_wrong_replies d s event f ≡ false) is_ask keeps.replies in
    let wrong : cache_is (λ c. names_wrongly d c.role event pairs) d s ≡ false =
    and_not (is_some (request_of d (class_of event))) (cache_is (λ c. names_wrongly d c.role event pairs) d s) replies (ap is_some r) in
    let none = three_not (names_twice pairs) (names_another d c.role event pairs) (misses_reply d c.role event pairs)
    (sym (at_cache (λ c. names_wrongly d c.role event pairs) d s c e) ∙ wrong) in
    let (t, f) = named_final name pairs (named d w c.role event pairs name none.2 asked) in
    (t, ap (final_under name) is_ask ∙ f)

-- Where a core ends

-- a final state is that of a pair with the reply
pub final_get : (name : ReplyName) (pairs : List Pair) (t : ℕ) → option_map (λ (p : Pair). p.fin) (pair_under name pairs) ≡ Some t
    → (k : ℕ) × (p : Pair) × (slice_get pairs k ≡ Some p) × (same_reply p.reply name ≡ true) × (p.fin ≡ t)
final_get name pairs t h = at (pair_under name pairs) refl h
  where
    at : (o : Option Pair) → pair_under name pairs ≡ o → option_map (λ (p : Pair). p.fin) o ≡ Some t
        → (k : ℕ) × (p : Pair) × (slice_get pairs k ≡ Some p) × (same_reply p.reply name ≡ true) × (p.fin ≡ t)
    at None e g = absurd cc
    at (Some p) e g = let (k, f, same) = find_get (λ p. same_reply p.reply name) pairs p e in (k, p, f, same, same_Some p.fin t g)

-- a load ends in the shared state or in an owner
load_ends : (d : Draft) (s t : ℕ) (name : ReplyName) (form : CoreForm) → Keeps d s Load form → final_under name form ≡ Some t
    → (shared d ≡ Some t) ⊎ (cache_is (λ c. is_owner c.role) d t ≡ true)
load_ends d s t name (Hit next) keeps e = absurd cc
load_ends d s t name (Leave request) keeps e = absurd cc
load_ends d s t name (Ask request pairs) keeps e =
    let (k, p, g, same, fin) = final_get name pairs t e in
    let right : is_no_load_final d p.fin ≡ false = any_not (λ p. is_no_load_final d p.fin) pairs k p keeps.ends g in
    let here : is_no_load_final d t ≡ false = subst (λ n. is_no_load_final d n ≡ false) fin right in
    at (or_cases (is (shared d) t) (cache_is (λ c. is_owner c.role) d t) (not-false (is (shared d) t || cache_is (λ c. is_owner c.role) d t) here))
  where
    at : (is (shared d) t ≡ true) ⊎ (cache_is (λ c. is_owner c.role) d t ≡ true) → (shared d ≡ Some t) ⊎ (cache_is (λ c. is_owner c.role) d t ≡ true)
    at (inl h) = inl (is_then_some (shared d) t h)
    at (inr h) = inr h

-- a store ends in an owner that may write and isn't clean, where a store is a hit that stays
store_ends : (d : Draft) (s t : ℕ) (name : ReplyName) (form : CoreForm) → Keeps d s Store form → final_under name form ≡ Some t
    → (cache_is is_dirty_writer d t ≡ true) × ((y : CoreLine) → core_row d t Store ≡ Some y → stays_at_store t y.form ≡ true)
store_ends d s t name (Hit next) keeps e = absurd cc
store_ends d s t name (Leave request) keeps e = absurd cc
store_ends d s t name (Ask request pairs) keeps e =
    let (k, p, g, same, fin) = final_get name pairs t e in
    let none = or_parts (list_any (λ p. is_no_store_final d p.fin) pairs) (ends_differ pairs) keeps.ends in
    let right : is_no_store_final d p.fin ≡ false = any_not (λ p. is_no_store_final d p.fin) pairs k p none.0 g in
    let here : is_no_store_final d t ≡ false = subst (λ n. is_no_store_final d n ≡ false) fin right in
    let (writes, moves) = or_parts (not (cache_is is_dirty_writer d t)) (moves_at_store d t) here in (
      not-false (cache_is is_dirty_writer d t) writes,
      λ y f. not-false (stays_at_store t y.form) (sym (ap (λ (o : Option CoreLine). option_map_or (λ c. not (stays_at_store t c.form)) o false) f) ∙ moves),
    )

-- where no two final states differ, each is the first
ends_first : (q : Pair) (pairs : List Pair) (k : ℕ) (p : Pair) → ends_differ (q ∷ pairs) ≡ false → slice_get (q ∷ pairs) k ≡ Some p → p.fin ≡ q.fin
ends_first q pairs zero p h e = ap (λ (p : Pair). p.fin) (sym (same_Some q p e))
ends_first q pairs (suc k) p h e = eqb-true p.fin q.fin (not-false (p.fin == q.fin) (any_not (λ p. not (p.fin == q.fin)) pairs k p h e))

-- two final states are one
one_end : (pairs : List Pair) (j k : ℕ) (p q : Pair) → ends_differ pairs ≡ false
    → slice_get pairs j ≡ Some p → slice_get pairs k ≡ Some q → p.fin ≡ q.fin
one_end [] j k p q h e g = absurd cc
one_end (r ∷ pairs) j k p q h e g = ends_first r pairs j p h e ∙ sym (ends_first r pairs k q h g)

-- all pairs of a store have one final state
store_ends_once : (d : Draft) (s j k request : ℕ) (pairs : List Pair) (p q : Pair) (form : CoreForm) → Keeps d s Store form → form ≡ Ask request pairs
    → slice_get pairs j ≡ Some p → slice_get pairs k ≡ Some q → p.fin ≡ q.fin
store_ends_once d s j k request pairs p q form keeps asks e f =
    let right : ends_wrongly d Store (Ask request pairs) ≡ false = subst (λ (f : CoreForm). ends_wrongly d Store f ≡ false) asks keeps.ends in
    let none = or_parts (list_any (λ p. is_no_store_final d p.fin) pairs) (ends_differ pairs) right in
    one_end pairs j k p q none.1 e f

-- no cache sends a reply under which a load ends clean
load_ends_clean : (d : Draft) (s t : ℕ) (name : ReplyName) (form : CoreForm) → Keeps d s Load form → final_under name form ≡ Some t
    → cache_is (λ c. c.clean) d t ≡ true → is_from_cache d name ≡ false
load_ends_clean d s t name (Hit next) keeps e clean = absurd cc
load_ends_clean d s t name (Leave request) keeps e clean = absurd cc
load_ends_clean d s t name (Ask request pairs) keeps e clean =
    let (k, p, g, same, fin) = final_get name pairs t e in
    let right : is_unclean d p ≡ false = any_not (is_unclean d) pairs k p keeps.cleans g in
    let there : cache_is (λ c. c.clean) d p.fin ≡ true = subst (λ n. cache_is (λ c. c.clean) d n ≡ true) (sym fin) clean in
    subst (λ (n : ReplyName). is_from_cache d n ≡ false) (reply_equal p.reply name same)
    (and_not (cache_is (λ c. c.clean) d p.fin) (is_from_cache d p.reply) right there)

-- What a core does in its own state

-- with the permission it is done
is_done : (d : Draft) (s : ℕ) (event : Event) (c : CacheLine) (form : CoreForm) → Keeps d s event form → slice_get d.caches s ≡ Some c
    → allows event c ≡ true → is_hit form ≡ true
is_done d s event c form keeps e may =
    not-false (is_hit form) (and_not (cache_is (allows event) d s) (not (is_hit form)) keeps.done (at_cache (allows event) d s c e ∙ may))

-- a load hit stays
load_hit_stays : (d : Draft) (s : ℕ) (form : CoreForm) → Keeps d s Load form → is_hit form ≡ true → form ≡ Hit None
load_hit_stays d s (Hit None) keeps h = refl
load_hit_stays d s (Hit (Some next)) keeps h = absurd (not_both true refl keeps.rests)
load_hit_stays d s (Ask request pairs) keeps h = absurd cc
load_hit_stays d s (Leave request) keeps h = absurd cc

-- of two that a directory state doesn't tell apart, it lists and_parts or none
not_parted : (a b : Bool) → ((a && not b) || (not a && b)) ≡ false → b ≡ a
not_parted true true h = refl
not_parted true false h = absurd cc
not_parted false true h = absurd cc
not_parted false false h = refl

-- such states are listed together
same_lists : (d : Draft) (s t : ℕ) → list_any (tells_apart s t) d.dirs ≡ false → (n : ℕ) → lists d n t ≡ lists d n s
same_lists d s t none n = at (slice_get d.dirs n) refl
  where
    at : (o : Option DirLine) → slice_get d.dirs n ≡ o
        → lists_state (option_map_or (λ l. l.beside) o []) t ≡ lists_state (option_map_or (λ l. l.beside) o []) s
    at None e = refl
    at (Some l) e = not_parted (lists_state l.beside s) (lists_state l.beside t) (any_not (tells_apart s t) d.dirs n l none e)

-- a store hit of an owner that may write leads to one that isn't clean, and that the directory doesn't tell apart
store_hit_ends : (d : Draft) (s t : ℕ) (form : CoreForm) → Keeps d s Store form → cache_is is_write_owner d s ≡ true
    → store_next s Store form ≡ Some t → (cache_is is_dirty_writer d t ≡ true) × ((n : ℕ) → lists d n t ≡ lists d n s)
store_hit_ends d s t form keeps writer e =
    let here : hits_to d s t ≡ false = subst (λ o. option_map_or (hits_to d s) o false ≡ false) e keeps.hits in
    let none = or_parts (not (cache_is is_dirty_writer d t)) (list_any (tells_apart s t) d.dirs) (and_not (cache_is is_write_owner d s) _ here writer) in
    (not-false (cache_is is_dirty_writer d t) none.0, same_lists d s t none.1)

-- an evict gives the copy up
evict_leaves : (d : Draft) (s : ℕ) (form : CoreForm) → Keeps d s Evict form → (m : ℕ) × (form ≡ Leave m)
evict_leaves d s (Hit next) keeps = absurd (not_both false keeps.formed refl)
evict_leaves d s (Ask request pairs) keeps = absurd (not_both false keeps.formed refl)
evict_leaves d s (Leave m) keeps = (m, refl)

-- and by a request that its state may
leaves_right : (d : Draft) (s m : ℕ) (event : Event) (c : CacheLine) (form : CoreForm) → Keeps d s event form → slice_get d.caches s ≡ Some c
    → form ≡ Leave m → leaves_by_another d c.role c.clean m ≡ false
leaves_right d s m event c form keeps e leaves =
    let here : leaves_wrongly d s (Leave m) ≡ false = subst (λ (f : CoreForm). leaves_wrongly d s f ≡ false) leaves keeps.leaves in
    sym (at_cache (λ c. leaves_by_another d c.role c.clean m) d s c e) ∙ here

-- Roles and permissions

-- the role of a state by its test
pub role_out : (r : Role) → is_out r ≡ true → r ≡ role.Out
role_out role.Out h = refl
role_out role.Shared h = absurd cc
role_out role.Owner h = absurd cc

-- likewise of shared
pub role_shared : (r : Role) → is_shared r ≡ true → r ≡ role.Shared
role_shared role.Out h = absurd cc
role_shared role.Shared h = refl
role_shared role.Owner h = absurd cc

-- and of an owner
pub role_owner : (r : Role) → is_owner r ≡ true → r ≡ role.Owner
role_owner role.Out h = absurd cc
role_owner role.Shared h = absurd cc
role_owner role.Owner h = refl

-- no permission doesn't allow a store
pub none_writes_not : (p : Perm) → is_none_perm p ≡ true → is_write_perm p ≡ false
none_writes_not perm.None h = refl
none_writes_not perm.Read h = absurd cc
none_writes_not perm.Write h = absurd cc

-- nor does a permission to read
pub read_writes_not : (p : Perm) → is_read_perm p ≡ true → is_write_perm p ≡ false
read_writes_not perm.None h = absurd cc
read_writes_not perm.Read h = refl
read_writes_not perm.Write h = absurd cc

-- the out state is out, and has no permission
pub out_line : (d : Draft) → HasShape d → (s : ℕ) → out d ≡ Some s
    → (c : CacheLine) × (slice_get d.caches s ≡ Some c) × (c.role ≡ role.Out) × (is_none_perm c.perm ≡ true)
out_line d h s e =
    let (c, g, is_so) = (position_get (λ c. is_out c.role) d.caches s e).1 in
    let kept : has_wrong_perm c ≡ false = cache_keeps d h s c g S1 in
    let none = three_not (is_out c.role && not (is_none_perm c.perm)) (is_shared c.role && not (is_read_perm c.perm))
    (is_owner c.role && is_none_perm c.perm) kept in
    (c, g, role_out c.role is_so, not-false (is_none_perm c.perm) (and_not (is_out c.role) (not (is_none_perm c.perm)) none.0 is_so))

-- the shared state is shared, and may read
pub shared_line : (d : Draft) → HasShape d → (s : ℕ) → shared d ≡ Some s
    → (c : CacheLine) × (slice_get d.caches s ≡ Some c) × (c.role ≡ role.Shared) × (is_read_perm c.perm ≡ true)
shared_line d h s e =
    let (c, g, is_so) = (position_get (λ c. is_shared c.role) d.caches s e).1 in
    let kept : has_wrong_perm c ≡ false = cache_keeps d h s c g S1 in
    let none = three_not (is_out c.role && not (is_none_perm c.perm)) (is_shared c.role && not (is_read_perm c.perm))
    (is_owner c.role && is_none_perm c.perm) kept in
    (c, g, role_shared c.role is_so, not-false (is_read_perm c.perm) (and_not (is_shared c.role) (not (is_read_perm c.perm)) none.1 is_so))

-- The facts

-- a state has its row at each event, but for out at evict
row : (d : Draft) → HasShape d → (s : ℕ) (event : Event) (c : CacheLine) → slice_get d.caches s ≡ Some c → (event ≡ Evict → is_out c.role ≡ false)
    → (x : CoreLine) × (core_row d s event ≡ Some x)
row d h s event c e leaves =
    has_core_row d h s event (slice_get_within d.caches s c e) (λ at. false_from_ne_true (is (out d) s) (λ out. no_out (leaves at) out))
  where
    no_out : is_out c.role ≡ false → is (out d) s ≡ true → ⊥
    no_out other at_out =
        let (x, g, is_so) = (position_get (λ c. is_out c.role) d.caches s (is_then_some (out d) s at_out)).1 in
        let same : x ≡ c = same_Some x c (sym g ∙ e) in
        not_both (is_out c.role) (subst (λ (l : CacheLine). is_out l.role ≡ true) same is_so) other

-- a load from the out state has a final state under each reply that it may get
load_reply : (d : Draft) → IsWellFormed d → HasShape d → (s m : ℕ) (x : CoreLine) → out d ≡ Some s → core_row d s Load ≡ Some x
    → is_load_reply d m ≡ true → (t : ℕ) × (final_under (reply.Reply m) x.form ≡ Some t)
load_reply d w h s m x at_out e asked =
    let (c, g, is_so, none) = out_line d h s at_out in
    asked_final d w h s Load c x.form (reply.Reply m) (core_row_keeps d w h s Load x e) refl g (ap not none) asked

-- so has a store from the out state
store_reply_out : (d : Draft) → IsWellFormed d → HasShape d → (s m : ℕ) (x : CoreLine) → out d ≡ Some s → core_row d s Store ≡ Some x
    → is_store_reply d Other m ≡ true → (t : ℕ) × (final_under (reply.Reply m) x.form ≡ Some t)
store_reply_out d w h s m x at_out e asked =
    let (c, g, is_so, none) = out_line d h s at_out in
    let asks_it : is_asked d c.role Store (reply.Reply m) ≡ true =
    subst (λ (r : Role). is_asked d r Store (reply.Reply m) ≡ true) (sym is_so) asked in
    asked_final d w h s Store c x.form (reply.Reply m) (core_row_keeps d w h s Store x e) refl g (none_writes_not c.perm none) asks_it

-- and one from the shared state
store_reply_shared : (d : Draft) → IsWellFormed d → HasShape d → (s m : ℕ) (x : CoreLine) → shared d ≡ Some s → core_row d s Store ≡ Some x
    → is_store_reply d Sharer m ≡ true → (t : ℕ) × (final_under (reply.Reply m) x.form ≡ Some t)
store_reply_shared d w h s m x at_shared e asked =
    let (c, g, is_so, reads) = shared_line d h s at_shared in
    let asks_it : is_asked d c.role Store (reply.Reply m) ≡ true =
    subst (λ (r : Role). is_asked d r Store (reply.Reply m) ≡ true) (sym is_so) asked in
    asked_final d w h s Store c x.form (reply.Reply m) (core_row_keeps d w h s Store x e) refl g (read_writes_not c.perm reads) asks_it

-- a store of an owner that may only read has one under the count
store_count : (d : Draft) → IsWellFormed d → HasShape d → (s : ℕ) (x : CoreLine) → cache_is is_read_owner d s ≡ true → core_row d s Store ≡ Some x
    → (t : ℕ) × (final_under reply.AckCount x.form ≡ Some t)
store_count d w h s x reader e =
    let (c, g, owns) = map_or_get is_read_owner (slice_get d.caches s) reader in
    let (is_so, reads) = and_parts (is_owner c.role) (is_read_perm c.perm) owns in
    let asks_it : is_asked d c.role Store reply.AckCount ≡ true =
    subst (λ (r : Role). is_asked d r Store reply.AckCount ≡ true) (sym (role_owner c.role is_so)) refl in
    asked_final d w h s Store c x.form reply.AckCount (core_row_keeps d w h s Store x e) refl g (read_writes_not c.perm reads) asks_it

-- the shared state is left by a request of class clean
evict_shared : (d : Draft) → IsWellFormed d → HasShape d → (s m : ℕ) (x : CoreLine) → shared d ≡ Some s → core_row d s Evict ≡ Some x
    → x.form ≡ Leave m → asks_class Clean d m ≡ true
evict_shared d w h s m x at_shared e leaves =
    let (c, g, is_so, reads) = shared_line d h s at_shared in
    let right = leaves_right d s m Evict c x.form (core_row_keeps d w h s Evict x e) g leaves in
    not-false (asks_class Clean d m) (subst (λ (r : Role). leaves_by_another d r c.clean m ≡ false) is_so right)

-- an owner that isn't clean is left by one of class dirty
evict_dirty : (d : Draft) → IsWellFormed d → HasShape d → (s m : ℕ) (x : CoreLine) (c : CacheLine) → slice_get d.caches s ≡ Some c
    → is_owner c.role ≡ true → c.clean ≡ false → core_row d s Evict ≡ Some x → x.form ≡ Leave m → asks_class Dirty d m ≡ true
evict_dirty d w h s m x c g owns unclean e leaves =
    let right = leaves_right d s m Evict c x.form (core_row_keeps d w h s Evict x e) g leaves in
    let owner : leaves_by_another d role.Owner c.clean m ≡ false =
    subst (λ (r : Role). leaves_by_another d r c.clean m ≡ false) (role_owner c.role owns) right in
    let here : leaves_by_another d role.Owner false m ≡ false = subst (λ (b : Bool). leaves_by_another d role.Owner b m ≡ false) unclean owner in
    or_nothing (asks_class Dirty d m) (not-false (asks_class Dirty d m || false) here)
  where
    or_nothing : (b : Bool) → (b || false) ≡ true → b ≡ true
    or_nothing true h = refl
    or_nothing false h = h

-- an owner that is clean is left by one of class clean or dirty
pub evict_clean : (d : Draft) → IsWellFormed d → HasShape d → (s m : ℕ) (x : CoreLine) (c : CacheLine) → slice_get d.caches s ≡ Some c
    → is_owner c.role ≡ true → c.clean ≡ true → core_row d s Evict ≡ Some x → x.form ≡ Leave m
    → (asks_class Clean d m ≡ true) ⊎ (asks_class Dirty d m ≡ true)
evict_clean d w h s m x c g owns clean e leaves =
    let right = leaves_right d s m Evict c x.form (core_row_keeps d w h s Evict x e) g leaves in
    let owner : leaves_by_another d role.Owner c.clean m ≡ false =
    subst (λ (r : Role). leaves_by_another d r c.clean m ≡ false) (role_owner c.role owns) right in
    let here : leaves_by_another d role.Owner true m ≡ false = subst (λ (b : Bool). leaves_by_another d role.Owner b m ≡ false) clean owner in
    at (or_cases (asks_class Dirty d m) (asks_class Clean d m) (not-false (asks_class Dirty d m || asks_class Clean d m) here))
  where
    at : (asks_class Dirty d m ≡ true) ⊎ (asks_class Clean d m ≡ true) → (asks_class Clean d m ≡ true) ⊎ (asks_class Dirty d m ≡ true)
    at (inl dirty) = inr dirty
    at (inr unwritten) = inl unwritten

-- the out state has no row for evict
pub out_stays : (d : Draft) → HasShape d → (s : ℕ) → out d ≡ Some s → core_row d s Evict ≡ None
out_stays d h s at_out = at (core_row d s Evict) refl
  where
    at : (o : Option CoreLine) → core_row d s Evict ≡ o → o ≡ None
    at None e = refl
    at (Some x) e =
        let (k, g, state, event) = core_row_get d s Evict x e in
        let (c, f, is_so, none) = out_line d h s at_out in
        let kept : breaks_s7 d x ≡ false = core_keeps d h k x g S7 in
        let leaves : leaves_out d x ≡ false = (seven_not (leaves_out d x) (asks_needlessly d x) (hits_without_perm d x)
        (moves_at_load x.event x.form) (asks_otherwise d x.event x.form) (has_wrong_replies d x.state x.event x.form)
        (ends_wrongly d x.event x.form) kept).0 in
        let evicts : same_event x.event Evict ≡ true = subst (λ (a : Event). same_event a Evict ≡ true) (sym event) refl in
        let there : cache_is (λ c. is_out c.role) d x.state ≡ false = and_not (same_event x.event Evict) (cache_is (λ c. is_out c.role) d x.state) leaves evicts in
        let here : cache_is (λ c. is_out c.role) d s ≡ false = subst (λ (n : ℕ). cache_is (λ c. is_out c.role) d n ≡ false) state there in
        absurd (not_both (is_out c.role) (ap is_out is_so) (sym (at_cache (λ c. is_out c.role) d s c f) ∙ here))

-- what a core does
pub shape_gives_cores : (d : Draft) → IsWellFormed d → HasShape d → HasCores d
shape_gives_cores d w h =
    let keeps = core_row_keeps d w h in
    record {
      row = row d h;
      hits = λ s event c x at e may. is_done d s event c x.form (keeps s event x e) at may;
      load_hit = λ s x e hit. load_hit_stays d s x.form (keeps s Load x e) hit;
      store_hit = λ s t x e writer next. store_hit_ends d s t x.form (keeps s Store x e) writer next;
      load = λ s x c at e lacks. asks d h s Load c x.form (keeps s Load x e) refl at lacks;
      load_reply = load_reply d w h;
      load_final = λ s t name x e final. load_ends d s t name x.form (keeps s Load x e) final;
      store = λ s x c at e lacks. asks d h s Store c x.form (keeps s Store x e) refl at lacks;
      store_reply_out = store_reply_out d w h;
      store_reply_shared = store_reply_shared d w h;
      store_count = store_count d w h;
      store_final = λ s t name x e final. store_ends d s t name x.form (keeps s Store x e) final;
      one_end = λ s j k request pairs p q x e asks one other. store_ends_once d s j k request pairs p q x.form (keeps s Store x e) asks one other;
      evict = λ s x e. evict_leaves d s x.form (keeps s Evict x e);
      evict_shared = evict_shared d w h;
      evict_dirty = evict_dirty d w h;
      clean_final = λ s t name x e final clean. load_ends_clean d s t name x.form (keeps s Load x e) final clean;
    }
