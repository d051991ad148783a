-- The numbers of what a draft names, where they are looked up by their names.
use Rattle.std.proofs.Common.{◌≡◌, ℕ, zero, suc, ◌<◌, Bool, true, false, List, [], ◌∷◌, length, map, Option, Some, None, refl, ap, sym, ◌∙◌, arith, slice_get, bytes_eq, codes, if◌then◌else◌}
use Rattle.std.specs.Prelude.{◌&&◌, not, nat_lt}
use Rattle.std.specs.List.{list_all, list_any}
use Rattle.std.specs.Option.{option_map, option_map_or}
use Rattle.std.proofs.lemmas.Bool.{and_parts, or_parts, not-true, ltb-true}
use Rattle.std.proofs.lemmas.Cmp.{nat_list_eq_equiv}
use Rattle.std.proofs.lemmas.List.{length-map}
use Rattle.std.proofs.lemmas.Option.{slice_get-map, slice_get_within, same_Some}
use Rattle.std.proofs.lemmas.Slice.Eq.{bytes_eq-Decides}
use Rattle.pg_names.specs.Number.{number_of}
use Rattle.pg_perm.specs.declared.kinds.Event.{Event}
use Rattle.pg_perm.specs.declared.kinds.Event.TheVariants.{Load, Store, Evict}
use Rattle.pg_perm.specs.declared.draft.Draft.{Draft}
use Rattle.pg_perm.specs.declared.draft.MsgLine.{MsgLine}
use Rattle.pg_perm.specs.declared.draft.MsgClass.{MsgClass}
use Rattle.pg_perm.specs.declared.draft.MsgClass.TheVariants as class
use Rattle.pg_perm.specs.declared.draft.CoreLine.{CoreLine}
use Rattle.pg_perm.specs.declared.draft.CoreForm.{CoreForm}
use Rattle.pg_perm.specs.declared.draft.CoreForm.TheVariants as form
use Rattle.pg_perm.specs.declared.draft.Pair.{Pair}
use Rattle.pg_perm.specs.declared.draft.ReplyName.{ReplyName}
use Rattle.pg_perm.specs.declared.draft.ReplyName.TheVariants as reply
use Rattle.pg_perm.specs.declared.draft.TakeLine.{TakeLine}
use Rattle.pg_perm.specs.declared.draft.RowLine.{RowLine}
use Rattle.pg_perm.specs.declared.draft.RowForm.{RowForm}
use Rattle.pg_perm.specs.declared.draft.RowForm.TheVariants as rows
use Rattle.pg_perm.specs.declared.draft.Action.{Action}
use Rattle.pg_perm.specs.declared.draft.Action.TheVariants as action
use Rattle.pg_perm.specs.Classes.{is_request, is_forward, is_reply}
use Rattle.pg_perm.specs.Drafts.{cache_names, dir_names, message_names, taken_names, are_distinct, has_cache, has_dir, has_message, has_reply_name, has_pair, has_core_form, has_core, has_take, has_action, has_row_form, has_row}
use Rattle.pg_perm.specs.Words.{name_of, cache_name, dir_name, message_name}
use Rattle.pg_drafting.specs.Numbering.{cache_number, dir_number, message_number, reply_name, pair_of, pairs_of, core_form, core_of, states_of, take_reply, take_of, action_by_class, action_of, row_form, row_of}
use Rattle.pg_text.specs.Printing.{reply_word, pair_words, core_shape, action_word, row_shape_of}
use Rattle.pg_text.proofs.Parts.{are_free}

-- a test that all names pass is passed by the name with a number
pub name_passes : (p : List ℕ → Bool) (names : List (List ℕ)) (i : ℕ) → list_all p names ≡ true → i < length names → p (name_of names i) ≡ true
name_passes p [] i all within = absurd (omega arith)
name_passes p (n ∷ ns) zero all within = (and_parts (p n) (list_all p ns) all).0
name_passes p (n ∷ ns) (suc i) all within = name_passes p ns i (and_parts (p n) (list_all p ns) all).1 (omega arith)

-- a word that is none of the names is not the name with a number
pub name_other : (w : List ℕ) (names : List (List ℕ)) (i : ℕ) → list_any (bytes_eq w) names ≡ false → i < length names → bytes_eq w (name_of names i) ≡ false
name_other w [] i none within = absurd (omega arith)
name_other w (n ∷ ns) zero none within = (or_parts (bytes_eq w n) (list_any (bytes_eq w) ns) none).0
name_other w (n ∷ ns) (suc i) none within = name_other w ns i (or_parts (bytes_eq w n) (list_any (bytes_eq w) ns) none).1 (omega arith)

-- the name with a number has that number, where no name stands twice
number_again : (names : List (List ℕ)) (i : ℕ) → are_distinct names ≡ true → i < length names → number_of names (name_of names i) ≡ Some i
number_again [] i distinct within = absurd (omega arith)
number_again (n ∷ ns) zero distinct within =
    ap (λ b. if b then Some 0 else option_map suc (number_of ns n)) ((bytes_eq-Decides n n).1 refl)
number_again (n ∷ ns) (suc i) distinct within =
    let parts = and_parts (not (list_any (bytes_eq n) ns)) (are_distinct ns) distinct in
    let near : i < length ns = omega arith in
    let apart : bytes_eq (name_of ns i) n ≡ false =
    nat_list_eq_equiv.symm (name_of ns i) n ∙ name_other n ns i (not-true (list_any (bytes_eq n) ns) parts.0) near in
    ap (λ b. if b then Some 0 else option_map suc (number_of ns (name_of ns i))) apart ∙ ap (option_map suc) (number_again ns i parts.1 near)

-- the cache states of one draft have the names that they have in another, and no name stands twice
pub record KnowsCaches (e d : Draft) : Type 0 where
  pub same : cache_names e ≡ cache_names d
  pub distinct : are_distinct (cache_names d) ≡ true

-- likewise the directory states
pub record KnowsDirs (e d : Draft) : Type 0 where
  pub same : dir_names e ≡ dir_names d
  pub distinct : are_distinct (dir_names d) ≡ true

-- the classes of messages
abbrev pub classes_in : List MsgLine → List MsgClass
classes_in ms = map (λ m. m.class) ms

-- likewise the messages, which also have their classes, and none of the names that are taken
pub record KnowsMessages (e d : Draft) : Type 0 where
  pub same : message_names e ≡ message_names d
  pub classes : classes_in e.messages ≡ classes_in d.messages
  pub distinct : are_distinct (message_names d) ≡ true
  pub free : are_free (message_names d) ≡ true

-- a cache state that is there has a name
pub cache_within : (d : Draft) (i : ℕ) → has_cache d i ≡ true → i < length (cache_names d)
cache_within d i has = omega (arith, ltb-true i (length d.caches) has, length-map d.caches (λ c. c.name))

-- likewise a directory state
pub dir_within : (d : Draft) (i : ℕ) → has_dir d i ≡ true → i < length (dir_names d)
dir_within d i has = omega (arith, ltb-true i (length d.dirs) has, length-map d.dirs (λ s. s.name))

-- a message that is there, with its class
pub message_there : (is_class : MsgClass → Bool) (d : Draft) (i : ℕ) → has_message is_class d i ≡ true
    → (m : MsgLine) × (slice_get d.messages i ≡ Some m) × (is_class m.class ≡ true)
message_there is_class d i has = at (slice_get d.messages i) has
  where
    at : (o : Option MsgLine) → option_map_or (λ x. is_class x.class) o false ≡ true → (m : MsgLine) × (o ≡ Some m) × (is_class m.class ≡ true)
    at None has = absurd cc
    at (Some m) has = (m, refl, has)

-- and it has a name
pub message_within : (is_class : MsgClass → Bool) (d : Draft) (i : ℕ) → has_message is_class d i ≡ true → i < length (message_names d)
message_within is_class d i has =
    let there = message_there is_class d i has in
    omega (arith, slice_get_within d.messages i there.0 there.1, length-map d.messages (λ m. m.name))

-- the name of a cache state is looked up as that state
cache_again : (e d : Draft) (i : ℕ) → KnowsCaches e d → has_cache d i ≡ true → cache_number e (cache_name d i) ≡ Some i
cache_again e d i k has =
    ap (λ names. number_of names (cache_name d i)) k.same ∙ number_again (cache_names d) i k.distinct (cache_within d i has)

-- likewise that of a directory state
dir_again : (e d : Draft) (i : ℕ) → KnowsDirs e d → has_dir d i ≡ true → dir_number e (dir_name d i) ≡ Some i
dir_again e d i k has = ap (λ names. number_of names (dir_name d i)) k.same ∙ number_again (dir_names d) i k.distinct (dir_within d i has)

-- the number of a message's name is its number
message_number_again : (is_class : MsgClass → Bool) (e d : Draft) (i : ℕ) → KnowsMessages e d → has_message is_class d i ≡ true
    → number_of (message_names e) (message_name d i) ≡ Some i
message_number_again is_class e d i k has =
    ap (λ names. number_of names (message_name d i)) k.same ∙ number_again (message_names d) i k.distinct (message_within is_class d i has)

-- a message that has a class among classes
class_there : (ms : List MsgLine) (i : ℕ) (c : MsgClass) → slice_get (classes_in ms) i ≡ Some c
    → (m : MsgLine) × (slice_get ms i ≡ Some m) × (m.class ≡ c)
class_there ms i c h = at (slice_get ms i) refl
  where
    at : (o : Option MsgLine) → slice_get ms i ≡ o → (m : MsgLine) × (o ≡ Some m) × (m.class ≡ c)
    at None e = absurd (cc (h, slice_get-map (λ (m : MsgLine). m.class) ms i, ap (option_map (λ (m : MsgLine). m.class)) e))
    at (Some m) e = (m, refl, same_Some m.class c (sym (slice_get-map (λ (m : MsgLine). m.class) ms i ∙ ap (option_map (λ (m : MsgLine). m.class)) e) ∙ h))

-- the message with a number is of the class of which it is in the other draft
message_same : (is_class : MsgClass → Bool) (e d : Draft) (i : ℕ) → KnowsMessages e d → has_message is_class d i ≡ true
    → (m : MsgLine) × (slice_get e.messages i ≡ Some m) × (is_class m.class ≡ true)
message_same is_class e d i k has =
    let there = message_there is_class d i has in
    let same = class_there e.messages i there.0.class
    (ap (λ cs. slice_get cs i) k.classes ∙ slice_get-map (λ (m : MsgLine). m.class) d.messages i ∙ ap (option_map (λ (m : MsgLine). m.class)) there.1) in
    (same.0, same.1, ap is_class same.2 ∙ there.2)

-- a word is looked up as a message where it has a number and that message is of the class
message_found : (is_class : MsgClass → Bool) (e : Draft) (w : List ℕ) (i : ℕ) (m : MsgLine) → number_of (message_names e) w ≡ Some i
    → slice_get e.messages i ≡ Some m → is_class m.class ≡ true → message_number is_class e w ≡ Some i
unfolding message_number
message_found is_class e w i m number there has = rw (number, there, has) refl

-- the name of a message is looked up as that message
message_again : (is_class : MsgClass → Bool) (e d : Draft) (i : ℕ) → KnowsMessages e d → has_message is_class d i ≡ true
    → message_number is_class e (message_name d i) ≡ Some i
message_again is_class e d i k has =
    let same = message_same is_class e d i k has in
    message_found is_class e (message_name d i) i same.0 (message_number_again is_class e d i k has) same.1 same.2

-- the name of a message is none of those that no message may have
pub message_free : (is_class : MsgClass → Bool) (d : Draft) (i j : ℕ) → are_free (message_names d) ≡ true → has_message is_class d i ≡ true
    → j < length taken_names → bytes_eq (message_name d i) (name_of taken_names j) ≡ false
message_free is_class d i j free has within =
    name_other (message_name d i) taken_names j
    (not-true _ (name_passes (λ m. not (list_any (bytes_eq m) taken_names)) (message_names d) i free (message_within is_class d i has))) within

-- the name of a reply is looked up as that reply
reply_again : (e d : Draft) (r : ReplyName) → KnowsMessages e d → has_reply_name d r ≡ true → reply_name e (reply_word d r) ≡ Some r
reply_again e d reply.AckCount k has = refl
reply_again e d (reply.Reply m) k has =
    let other : bytes_eq (message_name d m) (codes "AckCount") ≡ false = message_free is_reply d m 2 k.free has (omega arith) in
    rw (other, message_again is_reply e d m k has) refl

-- the names of a reply and a final state are looked up as that pair
pair_again : (e d : Draft) (p : Pair) → KnowsCaches e d → KnowsMessages e d → has_pair d p ≡ true
    → pair_of e (reply_word d p.reply) (cache_name d p.fin) ≡ Some p
unfolding pair_of
pair_again e d p c k has =
    let parts = and_parts (has_reply_name d p.reply) (has_cache d p.fin) has in
    rw (reply_again e d p.reply k parts.0, cache_again e d p.fin c parts.1) refl

-- likewise those of all pairs
pairs_again : (e d : Draft) (ps : List Pair) → KnowsCaches e d → KnowsMessages e d → list_all (has_pair d) ps ≡ true
    → pairs_of e (map (pair_words d) ps) ≡ Some ps
pairs_again e d [] c k has = refl
pairs_again e d (p ∷ ps) c k has =
    let parts = and_parts (has_pair d p) (list_all (has_pair d) ps) has in
    rw (pair_again e d p c k parts.0, pairs_again e d ps c k parts.1) refl

-- what a form uses is declared
abbrev pub UsesDeclared : Draft → CoreForm → Type 0
UsesDeclared d (form.Hit next) = option_map_or (has_cache d) next true ≡ true
UsesDeclared d (form.Ask request pairs) = (has_message is_request d request ≡ true) × (list_all (has_pair d) pairs ≡ true) × (nat_lt 0 (length pairs) ≡ true)
UsesDeclared d (form.Leave request) = has_message is_request d request ≡ true

-- what a form that asks uses is declared
asks_declared : (d : Draft) (request : ℕ) (pairs : List Pair)
    → (has_message is_request d request && list_all (has_pair d) pairs && nat_lt 0 (length pairs)) ≡ true → UsesDeclared d (form.Ask request pairs)
asks_declared d request pairs has =
    let parts = and_parts (has_message is_request d request && list_all (has_pair d) pairs) (nat_lt 0 (length pairs)) has in
    let first = and_parts (has_message is_request d request) (list_all (has_pair d) pairs) parts.0 in
    (first.0, first.1, parts.1)

-- at each event the form of a core line uses what is declared
pub uses_declared : (d : Draft) (event : Event) (f : CoreForm) → has_core_form d event f ≡ true → UsesDeclared d f
uses_declared d Evict (form.Hit next) has = absurd cc
uses_declared d Evict (form.Ask request pairs) has = absurd cc
uses_declared d Evict (form.Leave request) has = has
uses_declared d Load (form.Hit next) has = has
uses_declared d Load (form.Ask request pairs) has = asks_declared d request pairs has
uses_declared d Load (form.Leave request) has = absurd cc
uses_declared d Store (form.Hit next) has = has
uses_declared d Store (form.Ask request pairs) has = asks_declared d request pairs has
uses_declared d Store (form.Leave request) has = absurd cc

-- what stands after the event of a core line
form_again : (e d : Draft) (f : CoreForm) → KnowsCaches e d → KnowsMessages e d → UsesDeclared d f → core_form e (core_shape d f) ≡ Some f
unfolding core_form
form_again e d (form.Hit None) c k has = refl
form_again e d (form.Hit (Some next)) c k has = rw (cache_again e d next c has) refl
form_again e d (form.Ask request pairs) c k has = rw (message_again is_request e d request k has.0, pairs_again e d pairs c k has.1) refl
form_again e d (form.Leave request) c k has = rw (message_again is_request e d request k has) refl

-- a core line in words is that line in numbers
pub core_again : (e d : Draft) (n : ℕ) (x : CoreLine) → KnowsCaches e d → KnowsMessages e d → has_core d x ≡ true
    → core_of e n (cache_name d x.state) x.event (core_shape d x.form) ≡ Some (record x { line = n })
unfolding core_of
core_again e d n x c k has =
    let parts = and_parts (has_cache d x.state) (has_core_form d x.event x.form) has in
    rw (cache_again e d x.state c parts.0, form_again e d x.form c k (uses_declared d x.event x.form parts.1)) refl

-- the states beside a directory state
pub states_again : (e d : Draft) (states : List ℕ) → KnowsCaches e d → list_all (has_cache d) states ≡ true
    → states_of e (map (cache_name d) states) ≡ Some states
states_again e d [] c has = refl
states_again e d (s ∷ states) c has =
    let parts = and_parts (has_cache d s) (list_all (has_cache d) states) has in
    rw (cache_again e d s c parts.0, states_again e d states c parts.1) refl

-- the reply of a take line
take_reply_again : (e d : Draft) (r : Option ℕ) → KnowsMessages e d → option_map_or (has_message is_reply d) r true ≡ true
    → take_reply e (option_map (message_name d) r) ≡ Some r
unfolding take_reply
take_reply_again e d None k has = refl
take_reply_again e d (Some m) k has = rw (message_again is_reply e d m k has) refl

-- what a take line uses is declared
pub record TakeUses (d : Draft) (t : TakeLine) : Type 0 where
  pub state : has_cache d t.state ≡ true
  pub forward : has_message is_forward d t.forward ≡ true
  pub reply : option_map_or (has_message is_reply d) t.reply true ≡ true
  pub next : has_cache d t.next ≡ true

-- a take line that may stand in the draft uses what is declared
pub take_uses : (d : Draft) (t : TakeLine) → has_take d t ≡ true → TakeUses d t
take_uses d t has =
    let c : Bool = option_map_or (has_message is_reply d) t.reply true in
    let last = and_parts (has_cache d t.state && has_message is_forward d t.forward && c) (has_cache d t.next) has in
    let third = and_parts (has_cache d t.state && has_message is_forward d t.forward) c last.0 in
    let first = and_parts (has_cache d t.state) (has_message is_forward d t.forward) third.0 in
    record { state = first.0; forward = first.1; reply = third.1; next = last.1 }

-- a take line in words is that line in numbers
pub take_again : (e d : Draft) (n : ℕ) (t : TakeLine) → KnowsCaches e d → KnowsMessages e d → has_take d t ≡ true
    → take_of e n (cache_name d t.state) (message_name d t.forward) (option_map (message_name d) t.reply) (cache_name d t.next) ≡ Some (record t { line = n })
unfolding take_of
take_again e d n t c k has =
    let u = take_uses d t has in
    rw (
      cache_again e d t.state c u.state,
      message_again is_forward e d t.forward k u.forward,
      take_reply_again e d t.reply k u.reply,
      cache_again e d t.next c u.next,
    ) refl

-- a forward as an action
by_forward : (i : ℕ) (c : MsgClass) → is_forward c ≡ true → action_by_class i c ≡ Some (action.Forward i)
by_forward i (class.Request asked) h = absurd cc
by_forward i (class.Forward asked) h = refl
by_forward i class.Reply h = absurd cc

-- a reply as an action
by_reply : (i : ℕ) (c : MsgClass) → is_reply c ≡ true → action_by_class i c ≡ Some (action.Reply i)
by_reply i (class.Request asked) h = absurd cc
by_reply i (class.Forward asked) h = absurd cc
by_reply i class.Reply h = refl

-- a word that is not `count` is looked up as the action of a message
action_found : (e : Draft) (w : List ℕ) (i : ℕ) (m : MsgLine) → bytes_eq w (codes "count") ≡ false → number_of (message_names e) w ≡ Some i
    → slice_get e.messages i ≡ Some m → action_of e w ≡ action_by_class i m.class
unfolding action_of
action_found e w i m other number there = rw (other, number, there) refl

-- `count` is looked up as that action
counting : (e : Draft) → action_of e (codes "count") ≡ Some action.Count
unfolding action_of
counting e = refl

-- the action of a row line
action_again : (e d : Draft) (a : Action) → KnowsMessages e d → has_action d a ≡ true → action_of e (action_word d a) ≡ Some a
action_again e d (action.Reply m) k has =
    let same = message_same is_reply e d m k has in
    action_found e (message_name d m) m same.0 (message_free is_reply d m 5 k.free has (omega arith)) (message_number_again is_reply e d m k has) same.1
    ∙ by_reply m same.0.class same.2
action_again e d (action.Forward m) k has =
    let same = message_same is_forward e d m k has in
    action_found e (message_name d m) m same.0 (message_free is_forward d m 5 k.free has (omega arith)) (message_number_again is_forward e d m k has) same.1
    ∙ by_forward m same.0.class same.2
action_again e d action.Count k has = counting e

-- what stands after the state of a row line
row_form_again : (e d : Draft) (f : RowForm) → KnowsMessages e d → has_row_form d f ≡ true → row_form e (row_shape_of d f) ≡ Some f
unfolding row_form
row_form_again e d (rows.Ask request who act) k has =
    let parts = and_parts (has_message is_request d request) (has_action d act) has in
    rw (message_again is_request e d request k parts.0, action_again e d act k parts.1) refl
row_form_again e d (rows.Evict who left) k has = refl

-- what a row line uses is declared
pub record RowUses (d : Draft) (r : RowLine) : Type 0 where
  pub dir : has_dir d r.dir ≡ true
  pub form : has_row_form d r.form ≡ true
  pub next : has_dir d r.next ≡ true

-- a row line that may stand in the draft uses what is declared
pub row_uses : (d : Draft) (r : RowLine) → has_row d r ≡ true → RowUses d r
row_uses d r has =
    let last = and_parts (has_dir d r.dir && has_row_form d r.form) (has_dir d r.next) has in
    let first = and_parts (has_dir d r.dir) (has_row_form d r.form) last.0 in
    record { dir = first.0; form = first.1; next = last.1 }

-- a row line in words is that line in numbers
pub row_again : (e d : Draft) (n : ℕ) (r : RowLine) → KnowsDirs e d → KnowsMessages e d → has_row d r ≡ true
    → row_of e n (dir_name d r.dir) (row_shape_of d r.form) (dir_name d r.next) ≡ Some (record r { line = n })
unfolding row_of
row_again e d n r s k has =
    let u = row_uses d r has in
    rw (dir_again e d r.dir s u.dir, row_form_again e d r.form k u.form, dir_again e d r.next s u.next) refl
