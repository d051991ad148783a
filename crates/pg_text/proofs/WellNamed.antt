-- The lines of a well-formed draft are well named.
use Rattle.std.proofs.Common.{◌≡◌, ℕ, Bool, true, false, List, [], ◌∷◌, length, map, Option, Some, None, refl, arith, bytes_eq, codes}
use Rattle.std.specs.Prelude.{◌≢◌, nat_lt, IsTrue, IfSome}
use Rattle.std.specs.List.{list_all}
use Rattle.std.specs.Option.{option_map, option_map_or}
use Rattle.std.proofs.lemmas.Bool.{and_parts, and_from}
use Rattle.std.proofs.lemmas.Slice.Eq.{bytes_eq-Decides}
use Rattle.pg_perm.specs.Names.{is_name, is_state_name}
use Rattle.pg_perm.specs.declared.kinds.Event.{Event}
use Rattle.pg_perm.specs.declared.kinds.Event.TheVariants.{Load, Store, Evict}
use Rattle.pg_perm.specs.declared.kinds.Who.TheVariants as who
use Rattle.pg_perm.specs.declared.draft.Draft.{Draft}
use Rattle.pg_perm.specs.declared.draft.MsgLine.{MsgLine}
use Rattle.pg_perm.specs.declared.draft.MsgClass.{MsgClass}
use Rattle.pg_perm.specs.declared.draft.MsgClass.TheVariants as class
use Rattle.pg_perm.specs.declared.draft.DirLine.{DirLine}
use Rattle.pg_perm.specs.declared.draft.CoreLine.{CoreLine}
use Rattle.pg_perm.specs.declared.draft.CoreForm.{CoreForm}
use Rattle.pg_perm.specs.declared.draft.CoreForm.TheVariants as form
use Rattle.pg_perm.specs.declared.draft.Pair.{Pair}
use Rattle.pg_perm.specs.declared.draft.ReplyName.{ReplyName}
use Rattle.pg_perm.specs.declared.draft.ReplyName.TheVariants as reply
use Rattle.pg_perm.specs.declared.draft.TakeLine.{TakeLine}
use Rattle.pg_perm.specs.declared.draft.RowLine.{RowLine}
use Rattle.pg_perm.specs.declared.draft.RowForm.{RowForm}
use Rattle.pg_perm.specs.declared.draft.RowForm.TheVariants as rows
use Rattle.pg_perm.specs.declared.draft.Action.{Action}
use Rattle.pg_perm.specs.declared.draft.Action.TheVariants as action
use Rattle.pg_perm.specs.Classes.{is_request, is_forward, is_reply}
use Rattle.pg_perm.specs.Drafts.{cache_names, dir_names, message_names, has_cache, has_dir, has_message, has_reply_name, has_pair, has_core_form, has_core, has_take, has_action, has_row_form, has_row}
use Rattle.pg_perm.specs.Words.{cache_name, dir_name, message_name}
use Rattle.pg_forms.specs.Forms.{IsShapeOf, IsRowShape, IsWellNamed}
use Rattle.pg_forms.specs.Pairs.{is_named_pair}
use Rattle.pg_text.specs.Printing.{reply_word, pair_words, core_shape, action_word, row_shape_of, dir_line_of, message_line_of, core_line_of, take_line_of, row_line_of}
use Rattle.pg_text.proofs.Parts.{NamesAre, are_free}
use Rattle.pg_text.proofs.NumbersAgain.{name_passes, cache_within, dir_within, message_within, message_free, UsesDeclared, uses_declared, take_uses, row_uses}

-- the name of a cache state that is there is that of a state
cache_named : (d : Draft) (i : ℕ) → NamesAre d → has_cache d i ≡ true → is_state_name (cache_name d i) ≡ true
cache_named d i names has = name_passes is_state_name (cache_names d) i names.caches (cache_within d i has)

-- likewise of a directory state
dir_named : (d : Draft) (i : ℕ) → NamesAre d → has_dir d i ≡ true → is_state_name (dir_name d i) ≡ true
dir_named d i names has = name_passes is_state_name (dir_names d) i names.dirs (dir_within d i has)

-- the name of a message that is there is a name
message_named : (is_class : MsgClass → Bool) (d : Draft) (i : ℕ) → NamesAre d → has_message is_class d i ≡ true → is_name (message_name d i) ≡ true
message_named is_class d i names has = name_passes is_name (message_names d) i names.messages (message_within is_class d i has)

-- likewise of all of some cache states
states_named : (d : Draft) (states : List ℕ) → NamesAre d → list_all (has_cache d) states ≡ true → list_all is_state_name (map (cache_name d) states) ≡ true
states_named d [] names has = refl
states_named d (s ∷ states) names has =
    let parts = and_parts (has_cache d s) (list_all (has_cache d) states) has in
    and_from (is_state_name (cache_name d s)) _ (cache_named d s names parts.0) (states_named d states names parts.1)

-- the word of a reply is a name
reply_named : (d : Draft) (r : ReplyName) → NamesAre d → has_reply_name d r ≡ true → is_name (reply_word d r) ≡ true
reply_named d reply.AckCount names has = refl
reply_named d (reply.Reply m) names has = message_named is_reply d m names has

-- the words of pairs are names
pairs_named : (d : Draft) (ps : List Pair) → NamesAre d → list_all (has_pair d) ps ≡ true → list_all is_named_pair (map (pair_words d) ps) ≡ true
pairs_named d [] names has = refl
pairs_named d (p ∷ ps) names has =
    let parts = and_parts (has_pair d p) (list_all (has_pair d) ps) has in
    let pair = and_parts (has_reply_name d p.reply) (has_cache d p.fin) parts.0 in
    and_from (is_named_pair (pair_words d p)) (list_all is_named_pair (map (pair_words d) ps))
    (and_from (is_name (reply_word d p.reply)) (is_state_name (cache_name d p.fin)) (reply_named d p.reply names pair.0) (cache_named d p.fin names pair.1))
    (pairs_named d ps names parts.1)

-- some pairs have some words
some_pair : (d : Draft) (ps : List Pair) → nat_lt 0 (length ps) ≡ true → map (pair_words d) ps ≢ []
some_pair d [] h = absurd cc
some_pair d (p ∷ ps) h = λ e. absurd cc

-- the shape of a form that hits, asks or leaves as it may
hit_named : (d : Draft) (next : Option ℕ) → NamesAre d → option_map_or (has_cache d) next true ≡ true
    → IfSome (option_map (cache_name d) next) (λ w. IsTrue (is_state_name w))
hit_named d None names has = tt
hit_named d (Some next) names has = cache_named d next names has

-- the shape of a form that asks
ask_named : (d : Draft) (request : ℕ) (pairs : List Pair) → NamesAre d → UsesDeclared d (form.Ask request pairs)
    → IsTrue (is_name (message_name d request)) × IsTrue (list_all is_named_pair (map (pair_words d) pairs)) × (map (pair_words d) pairs ≢ [])
ask_named d request pairs names has = (message_named is_request d request names has.0, pairs_named d pairs names has.1, some_pair d pairs has.2)

-- the shape of a form
shape_named : (d : Draft) (event : Event) (f : CoreForm) → NamesAre d → has_core_form d event f ≡ true → IsShapeOf event (core_shape d f)
shape_named d Evict (form.Hit next) names has = absurd cc
shape_named d Evict (form.Ask request pairs) names has = absurd cc
shape_named d Evict (form.Leave request) names has = message_named is_request d request names has
shape_named d Load (form.Hit next) names has = hit_named d next names has
shape_named d Load (form.Ask request pairs) names has = ask_named d request pairs names (uses_declared d Load (form.Ask request pairs) has)
shape_named d Load (form.Leave request) names has = absurd cc
shape_named d Store (form.Hit next) names has = hit_named d next names has
shape_named d Store (form.Ask request pairs) names has = ask_named d request pairs names (uses_declared d Store (form.Ask request pairs) has)
shape_named d Store (form.Leave request) names has = absurd cc

-- a dir line
pub dir_line_named : (d : Draft) (s : DirLine) → NamesAre d → is_state_name s.name ≡ true → list_all (has_cache d) s.beside ≡ true
    → IsWellNamed (dir_line_of d s)
dir_line_named d s names named has = (named, states_named d s.beside names has)

-- a request, forward or reply line
pub message_line_named : (m : MsgLine) → is_name m.name ≡ true → IsWellNamed (message_line_of m)
message_line_named m named = at m.class
  where
    at : (c : MsgClass) → IsWellNamed (message_line_of (record m { class = c }))
    at (class.Request asked) = named
    at (class.Forward asked) = named
    at class.Reply = named

-- a core line
pub core_line_named : (d : Draft) (c : CoreLine) → NamesAre d → has_core d c ≡ true → IsWellNamed (core_line_of d c)
core_line_named d c names has =
    let parts = and_parts (has_cache d c.state) (has_core_form d c.event c.form) has in
    (cache_named d c.state names parts.0, shape_named d c.event c.form names parts.1)

-- the reply of a take line, where it has one
reply_of_take_named : (d : Draft) (r : Option ℕ) → NamesAre d → option_map_or (has_message is_reply d) r true ≡ true
    → IfSome (option_map (message_name d) r) (λ w. IsTrue (is_name w))
reply_of_take_named d None names has = tt
reply_of_take_named d (Some m) names has = message_named is_reply d m names has

-- a take line
pub take_line_named : (d : Draft) (t : TakeLine) → NamesAre d → has_take d t ≡ true → IsWellNamed (take_line_of d t)
take_line_named d t names has =
    let u = take_uses d t has in (
      cache_named d t.state names u.state,
      message_named is_forward d t.forward names u.forward,
      reply_of_take_named d t.reply names u.reply,
      cache_named d t.next names u.next,
    )

-- the word of an action is a name
action_named : (d : Draft) (a : Action) → NamesAre d → has_action d a ≡ true → is_name (action_word d a) ≡ true
action_named d (action.Reply m) names has = message_named is_reply d m names has
action_named d (action.Forward m) names has = message_named is_forward d m names has
action_named d action.Count names has = refl

-- a word that fails the test for another is not that word
not_word : (w s : List ℕ) → bytes_eq w s ≡ false → w ≢ s
not_word w s other same = absurd (cc (other, (bytes_eq-Decides w s).1 same))

-- the shape of a row
holder_named : (d : Draft) (f : RowForm) → NamesAre d → are_free (message_names d) ≡ true → has_row_form d f ≡ true → IsRowShape (row_shape_of d f)
holder_named d (rows.Ask request sender act) names free has =
    let parts = and_parts (has_message is_request d request) (has_action d act) has in (
      message_named is_request d request names parts.0,
      not_word (message_name d request) (codes "evict") (message_free is_request d request 6 free parts.0 (omega arith)),
      action_named d act names parts.1,
    )
holder_named d (rows.Evict who.Other others) names free has = absurd cc
holder_named d (rows.Evict who.Sharer others) names free has = tt
holder_named d (rows.Evict who.Owner others) names free has = tt

-- a row line
pub row_line_named : (d : Draft) (r : RowLine) → NamesAre d → are_free (message_names d) ≡ true → has_row d r ≡ true → IsWellNamed (row_line_of d r)
row_line_named d r names free has =
    let u = row_uses d r has in
    (dir_named d r.dir names u.dir, holder_named d r.form names free u.form, dir_named d r.next names u.next)
