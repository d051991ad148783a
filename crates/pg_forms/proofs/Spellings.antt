-- A line that is read is spelled so, and what is spelled so is read again.
use Rattle.std.proofs.Common.{◌≡◌, ℕ, Bool, true, false, List, [], ◌∷◌, Option, Some, None, refl, sym, ap, subst, ◌∙◌, cond}
use Rattle.std.specs.Prelude.{◌≢◌, ◌&&◌, codes, IsTrue, IfSome}
use Rattle.std.proofs.lemmas.Option.{same_Some, cond_some}
use Rattle.std.proofs.lemmas.Bool.{and_from, and_parts}
use Rattle.std.specs.Str.{bytes_eq}
use Rattle.pg_perm.specs.Names.{is_name, is_state_name}
use Rattle.pg_perm.specs.Vocabularies.{find_word}
use Rattle.pg_perm.specs.Words.{role_word, roles, roles_listed, perm_word, perms, perms_listed, dir_word, dir_kinds, dir_kinds_listed, request_word, requests, requests_listed, forward_word, forwards, forwards_listed, event_word, events, events_listed, who_word, senders, senders_listed, holders, left_word, lefts, lefts_listed}
use Rattle.pg_perm.proofs.ReadBack.{word_again, word_found}
use Rattle.pg_perm.specs.declared.kinds.Role.{Role}
use Rattle.pg_perm.specs.declared.kinds.Perm.{Perm}
use Rattle.pg_perm.specs.declared.kinds.ReqClass.{ReqClass}
use Rattle.pg_perm.specs.declared.kinds.DirKind.{DirKind}
use Rattle.pg_perm.specs.declared.kinds.FwdClass.{FwdClass}
use Rattle.pg_perm.specs.declared.kinds.Who.{Who}
use Rattle.pg_perm.specs.declared.kinds.Who.TheVariants as who
use Rattle.pg_perm.specs.declared.kinds.Left.{Left}
use Rattle.pg_perm.specs.declared.kinds.Event.{Event}
use Rattle.pg_perm.specs.declared.kinds.Event.TheVariants.{Load, Store, Evict}
use Rattle.pg_perm.specs.declared.draft.MsgClass.TheVariants.{Request, Forward, Reply}
use Rattle.pg_forms.specs.declared.line.Line.{Line}
use Rattle.pg_forms.specs.declared.line.Line.TheVariants.{Protocol, Cache, Dir, Message, Core, Take, Row, End}
use Rattle.pg_forms.specs.declared.line.RowShape.{RowShape}
use Rattle.pg_forms.specs.declared.line.RowShape.TheVariants as row
use Rattle.pg_forms.specs.declared.line.CoreShape.{CoreShape}
use Rattle.pg_forms.specs.declared.line.CoreShape.TheVariants.{Hit, Ask, Leave}
use Rattle.pg_lines.specs.Lines.{first_rest}
use Rattle.pg_forms.specs.Forms.{shape_words, spelling, IsShapeOf, IsRowShape, IsWellNamed}
use Rattle.std.specs.List.{list_all}
use Rattle.pg_forms.specs.Pairs.{are_pairs, pairs_in, words_in, is_named_pair}
use Rattle.pg_forms.specs.Reading.{name_at, state_at, no_words_left, protocol_line, clean_of}
use Rattle.pg_forms.specs.Reading.{cache_line, dir_line, request_line, forward_line, reply_line, asking_shape, leaving_shape, shape_of, core_line}
use Rattle.pg_forms.specs.Reading.{take_line_end, take_line, asking_row, evicting_row, row_shape, row_line, end_line, line_by_first_word, line_of}
use Rattle.pg_forms.proofs.Options.{then_some, word_test_some, told_apart, same_word, other_word, nothing_found}
use Rattle.pg_lines.proofs.Firsts.{first_rest_is}

-- a sender that may evict
abbrev IsHolder : Who → Type 0
IsHolder s = (others : Left) → IsRowShape (row.Evict s others)

-- a word that is read as the sender of an evict is the word of one that may evict
holder_found : (w : List ℕ) (s : Who) → find_word who_word holders w ≡ Some s → (w ≡ who_word s) × IsHolder s
holder_found w s e = (word_found who_word holders w s e, at (bytes_eq w (codes "sharer")) (bytes_eq w (codes "owner")) s e)
  where
    at : (a b : Bool) (s : Who) → cond a (Some who.Sharer) (cond b (Some who.Owner) None) ≡ Some s → IsHolder s
    at true b who.Other e = absurd cc
    at false true who.Other e = absurd cc
    at false false who.Other e = absurd cc
    at a b who.Sharer e = λ others. tt
    at a b who.Owner e = λ others. tt

-- the word of a sender that may evict is read as that sender
holder_again : (s : Who) (others : Left) → IsRowShape (row.Evict s others) → find_word who_word holders (who_word s) ≡ Some s
holder_again who.Other others h = absurd h
holder_again who.Sharer others h = refl
holder_again who.Owner others h = refl

-- where a name is read, the words are that name and the rest
name_found : (ws : List (List ℕ)) (x : List ℕ × List (List ℕ)) → name_at ws ≡ Some x → (ws ≡ x.0 ∷ x.1) × IsTrue (is_name x.0)
unfolding name_at
name_found ws x e =
    then_some (first_rest ws) _ x e (λ w first e.
    let t = cond_some (is_name w.0) w x e in
    subst (λ (y : List ℕ × List (List ℕ)). (ws ≡ y.0 ∷ y.1) × IsTrue (is_name y.0)) t.1 (first_rest_is ws w.0 w.1 (sym first), t.0))

-- a name before other words is read
name_again : (w : List ℕ) (ws : List (List ℕ)) → IsTrue (is_name w) → name_at (w ∷ ws) ≡ Some (w, ws)
unfolding name_at
name_again w ws h = rw h refl

-- where the name of a state is read, the words are that name and the rest
state_found : (ws : List (List ℕ)) (x : List ℕ × List (List ℕ)) → state_at ws ≡ Some x → (ws ≡ x.0 ∷ x.1) × IsTrue (is_state_name x.0)
unfolding state_at
state_found ws x e =
    then_some (first_rest ws) _ x e (λ w first e.
    let t = cond_some (is_state_name w.0) w x e in
    subst (λ (y : List ℕ × List (List ℕ)). (ws ≡ y.0 ∷ y.1) × IsTrue (is_state_name y.0)) t.1 (first_rest_is ws w.0 w.1 (sym first), t.0))

-- the name of a state before other words is read
state_again : (w : List ℕ) (ws : List (List ℕ)) → IsTrue (is_state_name w) → state_at (w ∷ ws) ≡ Some (w, ws)
unfolding state_at
state_again w ws h = rw h refl

-- words that have ended are none
ended_found : (ws : List (List ℕ)) (x : Unit {0}) → no_words_left ws ≡ Some x → ws ≡ []
ended_found [] x e = refl
ended_found (w ∷ ws) x e = absurd cc

-- the words are those of the line, and it is well named
abbrev Spells : List (List ℕ) → Line → Type 0
Spells ws l = (ws ≡ spelling l) × IsWellNamed l

-- a protocol line that is read is spelled by its words
protocol_found : (ws : List (List ℕ)) (l : Line) → protocol_line ws ≡ Some l → Spells (codes "protocol" ∷ ws) l
unfolding protocol_line
protocol_found ws l e =
    then_some (name_at ws) _ l e (λ name named e.
    then_some (no_words_left name.1) _ l e (λ end ends e.
    let n = name_found ws name named in
    subst (Spells (codes "protocol" ∷ ws)) (same_Some (Protocol name.0) l e) (cc (n.0, ended_found name.1 end ends), n.1)))

-- the spelling of a protocol line is read as that line
protocol_again : (name : List ℕ) → IsTrue (is_name name) → protocol_line (name ∷ []) ≡ Some (Protocol name)
unfolding protocol_line
protocol_again name h = rw (name_again name [] h) refl

-- the words after the permission of a cache line
abbrev clean_words : Bool → List (List ℕ)
clean_words true = codes "clean" ∷ []
clean_words false = []

-- what is read after the permission is spelled by its words
clean_found : (ws : List (List ℕ)) (clean : Bool) → clean_of ws ≡ Some clean → ws ≡ clean_words clean
clean_found [] clean e = ap clean_words (same_Some false clean e)
clean_found (w ∷ []) clean e =
    word_test_some (λ c. w ∷ [] ≡ clean_words c) w (codes "clean") _ _ clean
    (λ h g. ap (λ (v : List ℕ). v ∷ []) h ∙ ap clean_words (same_Some _ _ g)) (nothing_found clean) e
clean_found (w ∷ v ∷ ws) clean e = absurd cc

-- the spelling of a cache line in one equation
cache_spelling : (name : List ℕ) (role : Role) (perm : Perm) (clean : Bool)
    → spelling (Cache name role perm clean) ≡ codes "cache" ∷ name ∷ role_word role ∷ perm_word perm ∷ clean_words clean
cache_spelling name role perm true = refl
cache_spelling name role perm false = refl

-- a cache line that is read is spelled by its words
cache_found : (ws : List (List ℕ)) (l : Line) → cache_line ws ≡ Some l → Spells (codes "cache" ∷ ws) l
unfolding cache_line
cache_found ws l e =
    then_some (state_at ws) _ l e (λ name named e.
    then_some (first_rest name.1) _ l e (λ a first e.
    then_some (find_word role_word roles a.0) _ l e (λ role is_role e.
    then_some (first_rest a.1) _ l e (λ b second e.
    then_some (find_word perm_word perms b.0) _ l e (λ perm is_perm e.
    then_some (clean_of b.1) _ l e (λ clean is_clean e.
    let n = state_found ws name named in
    subst (Spells (codes "cache" ∷ ws)) (same_Some (Cache name.0 role perm clean) l e) (
      cc (
        cache_spelling name.0 role perm clean,
        n.0,
        first_rest_is name.1 a.0 a.1 (sym first),
        word_found role_word roles a.0 role is_role,
        first_rest_is a.1 b.0 b.1 (sym second),
        word_found perm_word perms b.0 perm is_perm,
        clean_found b.1 clean is_clean,
      ),
      n.1,
    )))))))

-- what stands after the permission is read again
clean_again : (clean : Bool) → clean_of (clean_words clean) ≡ Some clean
clean_again true = refl
clean_again false = refl

-- the spelling of a cache line is read as that line
cache_again : (name : List ℕ) (role : Role) (perm : Perm) (clean : Bool) → IsTrue (is_state_name name)
    → cache_line (name ∷ role_word role ∷ perm_word perm ∷ clean_words clean) ≡ Some (Cache name role perm clean)
unfolding cache_line
cache_again name role perm clean h =
    rw (state_again name (role_word role ∷ perm_word perm ∷ clean_words clean) h, word_again role_word roles refl role (roles_listed role), word_again perm_word perms refl perm (perms_listed perm), clean_again clean) refl

-- a dir line that is read is spelled by its words
dir_found : (ws : List (List ℕ)) (l : Line) → dir_line ws ≡ Some l → Spells (codes "dir" ∷ ws) l
unfolding dir_line
dir_found ws l e =
    then_some (state_at ws) _ l e (λ name named e.
    then_some (first_rest name.1) _ l e (λ word first e.
    then_some (find_word dir_word dir_kinds word.0) _ l e (λ kind is_kind e.
    let n = state_found ws name named in
    let t = cond_some (list_all is_state_name word.1) (Dir name.0 kind word.1) l e in
    subst (Spells (codes "dir" ∷ ws)) t.1
    (cc (n.0, first_rest_is name.1 word.0 word.1 (sym first), word_found dir_word dir_kinds word.0 kind is_kind), (n.1, t.0)))))

-- the spelling of a dir line is read as that line
dir_again : (name : List ℕ) (kind : DirKind) (beside : List (List ℕ)) → IsTrue (is_state_name name) → IsTrue (list_all is_state_name beside)
    → dir_line (name ∷ dir_word kind ∷ beside) ≡ Some (Dir name kind beside)
unfolding dir_line
dir_again name kind beside h g = rw (state_again name (dir_word kind ∷ beside) h, word_again dir_word dir_kinds refl kind (dir_kinds_listed kind), g) refl

-- a request line that is read is spelled by its words
request_line_found : (ws : List (List ℕ)) (l : Line) → request_line ws ≡ Some l → Spells (codes "request" ∷ ws) l
unfolding request_line
request_line_found ws l e =
    then_some (name_at ws) _ l e (λ name named e.
    then_some (first_rest name.1) _ l e (λ word first e.
    then_some (find_word request_word requests word.0) _ l e (λ class is_class e.
    then_some (no_words_left word.1) _ l e (λ end ends e.
    let n = name_found ws name named in
    subst (Spells (codes "request" ∷ ws)) (same_Some (Message name.0 (Request class)) l e)
    (cc (n.0, first_rest_is name.1 word.0 word.1 (sym first), word_found request_word requests word.0 class is_class, ended_found word.1 end ends), n.1)))))

-- the spelling of a request line is read as that line
request_line_again : (name : List ℕ) (class : ReqClass) → IsTrue (is_name name)
    → request_line (name ∷ request_word class ∷ []) ≡ Some (Message name (Request class))
unfolding request_line
request_line_again name class h = rw (name_again name (request_word class ∷ []) h, word_again request_word requests refl class (requests_listed class)) refl

-- a forward line that is read is spelled by its words
forward_line_found : (ws : List (List ℕ)) (l : Line) → forward_line ws ≡ Some l → Spells (codes "forward" ∷ ws) l
unfolding forward_line
forward_line_found ws l e =
    then_some (name_at ws) _ l e (λ name named e.
    then_some (first_rest name.1) _ l e (λ word first e.
    then_some (find_word forward_word forwards word.0) _ l e (λ class is_class e.
    then_some (no_words_left word.1) _ l e (λ end ends e.
    let n = name_found ws name named in
    subst (Spells (codes "forward" ∷ ws)) (same_Some (Message name.0 (Forward class)) l e)
    (cc (n.0, first_rest_is name.1 word.0 word.1 (sym first), word_found forward_word forwards word.0 class is_class, ended_found word.1 end ends), n.1)))))

-- the spelling of a forward line is read as that line
forward_line_again : (name : List ℕ) (class : FwdClass) → IsTrue (is_name name)
    → forward_line (name ∷ forward_word class ∷ []) ≡ Some (Message name (Forward class))
unfolding forward_line
forward_line_again name class h = rw (name_again name (forward_word class ∷ []) h, word_again forward_word forwards refl class (forwards_listed class)) refl

-- a reply line that is read is spelled by its words
reply_line_found : (ws : List (List ℕ)) (l : Line) → reply_line ws ≡ Some l → Spells (codes "reply" ∷ ws) l
unfolding reply_line
reply_line_found ws l e =
    then_some (name_at ws) _ l e (λ name named e.
    then_some (first_rest name.1) _ l e (λ word first e.
    then_some (no_words_left word.1) _ l e (λ end ends e.
    let n = name_found ws name named in
    let t = cond_some (bytes_eq word.0 (codes "data")) (Message name.0 Reply) l e in
    subst (Spells (codes "reply" ∷ ws)) t.1
    (cc (n.0, first_rest_is name.1 word.0 word.1 (sym first), same_word word.0 (codes "data") t.0, ended_found word.1 end ends), n.1))))

-- the spelling of a reply line is read as that line
reply_line_again : (name : List ℕ) → IsTrue (is_name name) → reply_line (name ∷ codes "data" ∷ []) ≡ Some (Message name Reply)
unfolding reply_line
reply_line_again name h = rw (name_again name _ h) refl

-- the words are those of the shape, and it is one of this event
abbrev IsShape : Event → List (List ℕ) → CoreShape → Type 0
IsShape event ws s = (ws ≡ shape_words s) × IsShapeOf event s

-- words that are pairs are those of the pairs in them, which are named
pairs_found : (ws : List (List ℕ)) → are_pairs ws ≡ true → (ws ≡ words_in (pairs_in ws)) × IsTrue (list_all is_named_pair (pairs_in ws))
pairs_found [] h = (refl, refl)
pairs_found (w ∷ []) h = absurd cc
pairs_found (reply ∷ fin ∷ more) h =
    let b = and_parts (is_name reply && is_state_name fin) (are_pairs more) h in
    let p = pairs_found more b.1 in
    (ap (λ (ws : List (List ℕ)). reply ∷ fin ∷ ws) p.0, and_from (is_name reply && is_state_name fin) _ b.0 p.1)

-- the words of pairs are pairs where these are named, and these are the pairs in them
pairs_again : (ps : List (List ℕ × List ℕ)) → (are_pairs (words_in ps) ≡ list_all is_named_pair ps) × (pairs_in (words_in ps) ≡ ps)
pairs_again [] = (refl, refl)
pairs_again (p ∷ ps) =
    let q = pairs_again ps in
    (ap (λ (b : Bool). (is_name p.0 && is_state_name p.1) && b) q.0, ap (λ (qs : List (List ℕ × List ℕ)). p ∷ qs) q.1)

-- a shape that is read after a load is spelled by its words, and is one of a load
asking_found : (ws : List (List ℕ)) (s : CoreShape) → asking_shape ws ≡ Some s → IsShape Load ws s
asking_found [] s e = absurd cc
asking_found (w ∷ []) s e =
    word_test_some (IsShape Load (w ∷ [])) w (codes "hit") _ _ s
    (λ h g. subst (IsShape Load (w ∷ [])) (same_Some (Hit None) s g) (ap (λ (v : List ℕ). v ∷ []) h, tt)) (nothing_found s) e
asking_found (w ∷ next ∷ []) s e =
    word_test_some (IsShape Load (w ∷ next ∷ [])) w (codes "hit") _ _ s
    (λ h g. let t = cond_some (is_state_name next) (Hit (Some next)) s g in
    subst (IsShape Load (w ∷ next ∷ [])) t.1 (ap (λ (v : List ℕ). v ∷ next ∷ []) h, t.0)) (nothing_found s) e
asking_found (w ∷ reply ∷ fin ∷ more) s e =
    let t = cond_some (is_name w && are_pairs (reply ∷ fin ∷ more)) (Ask w ((reply, fin) ∷ pairs_in more)) s e in
    let b = and_parts (is_name w) (are_pairs (reply ∷ fin ∷ more)) t.0 in
    let p = pairs_found (reply ∷ fin ∷ more) b.1 in
    subst (IsShape Load (w ∷ reply ∷ fin ∷ more)) t.1 (ap (λ (ws : List (List ℕ)). w ∷ ws) p.0, (b.0, p.1, λ h. cc))

-- a store takes the shapes that a load takes
store_as_load : (s : CoreShape) → IsShapeOf Load s → IsShapeOf Store s
store_as_load (Hit next) h = h
store_as_load (Ask request pairs) h = h
store_as_load (Leave request) h = h

-- a shape that is read after an evict is spelled by its words, and is one of an evict
leaving_found : (ws : List (List ℕ)) (s : CoreShape) → leaving_shape ws ≡ Some s → IsShape Evict ws s
unfolding leaving_shape
leaving_found ws s e =
    then_some (name_at ws) _ s e (λ name named e.
    then_some (no_words_left name.1) _ s e (λ end ends e.
    let n = name_found ws name named in
    subst (IsShape Evict ws) (same_Some (Leave name.0) s e) (cc (n.0, ended_found name.1 end ends), n.1)))

-- a shape that is read after an event is spelled by its words, and is one of that event
shape_found : (event : Event) (ws : List (List ℕ)) (s : CoreShape) → shape_of event ws ≡ Some s → IsShape event ws s
shape_found Load ws s e = asking_found ws s e
shape_found Store ws s e = let a = asking_found ws s e in (a.0, store_as_load s a.1)
shape_found Evict ws s e = leaving_found ws s e

-- the words of a load's shape are read as that shape
asking_again : (s : CoreShape) → IsShapeOf Load s → asking_shape (shape_words s) ≡ Some s
asking_again (Hit None) h = refl
asking_again (Hit (Some next)) h = rw h refl
asking_again (Ask request []) h = absurd (h.2 refl)
asking_again (Ask request (p ∷ ps)) h =
    let again = pairs_again (p ∷ ps) in
    rw (and_from (is_name request) (are_pairs (words_in (p ∷ ps))) h.0 (again.0 ∙ h.1)) (ap (λ (qs : List (List ℕ × List ℕ)). Some (Ask request qs)) again.1)
asking_again (Leave request) h = absurd h

-- the words of an evict's shape are read as that shape
leaving_again : (s : CoreShape) → IsShapeOf Evict s → leaving_shape (shape_words s) ≡ Some s
unfolding leaving_shape
leaving_again (Hit next) h = absurd h
leaving_again (Ask request pairs) h = absurd h
leaving_again (Leave request) h = rw (name_again request [] h) refl

-- the words of an event's shape are read as that shape
shape_again : (event : Event) (s : CoreShape) → IsShapeOf event s → shape_of event (shape_words s) ≡ Some s
shape_again Load s h = asking_again s h
shape_again Store (Hit next) h = asking_again (Hit next) h
shape_again Store (Ask request pairs) h = asking_again (Ask request pairs) h
shape_again Store (Leave request) h = absurd h
shape_again Evict s h = leaving_again s h

-- a core line that is read is spelled by its words
core_found : (ws : List (List ℕ)) (l : Line) → core_line ws ≡ Some l → Spells (codes "core" ∷ ws) l
unfolding core_line
core_found ws l e =
    then_some (state_at ws) _ l e (λ state named e.
    then_some (first_rest state.1) _ l e (λ word first e.
    then_some (find_word event_word events word.0) _ l e (λ event is_event e.
    then_some (shape_of event word.1) _ l e (λ shape shaped e.
    let n = state_found ws state named in
    let p = shape_found event word.1 shape shaped in
    subst (Spells (codes "core" ∷ ws)) (same_Some (Core state.0 event shape) l e)
    (cc (n.0, first_rest_is state.1 word.0 word.1 (sym first), word_found event_word events word.0 event is_event, p.0), (n.1, p.1))))))

-- the spelling of a core line is read as that line
core_again : (state : List ℕ) (event : Event) (shape : CoreShape) → IsTrue (is_state_name state) → IsShapeOf event shape
    → core_line (state ∷ event_word event ∷ shape_words shape) ≡ Some (Core state event shape)
unfolding core_line
core_again state event shape h g =
    rw (state_again state (event_word event ∷ shape_words shape) h, word_again event_word events refl event (events_listed event), shape_again event shape g) refl

-- what is read after the forward of a take line is spelled by its words
take_end_found : (state forward : List ℕ) (ws : List (List ℕ)) (l : Line) → IsTrue (is_state_name state) → IsTrue (is_name forward)
    → take_line_end state forward ws ≡ Some l → Spells (codes "take" ∷ state ∷ forward ∷ ws) l
take_end_found state forward [] l h g e = absurd cc
take_end_found state forward (next ∷ []) l h g e =
    let t = cond_some (is_state_name next) (Take state forward None next) l e in
    subst (Spells (codes "take" ∷ state ∷ forward ∷ next ∷ [])) t.1 (refl, (h, g, tt, t.0))
take_end_found state forward (reply ∷ next ∷ []) l h g e =
    let t = cond_some (is_name reply && is_state_name next) (Take state forward (Some reply) next) l e in
    let b = and_parts (is_name reply) (is_state_name next) t.0 in
    subst (Spells (codes "take" ∷ state ∷ forward ∷ reply ∷ next ∷ [])) t.1 (refl, (h, g, b.0, b.1))
take_end_found state forward (reply ∷ next ∷ more ∷ ws) l h g e = absurd cc

-- a take line that is read is spelled by its words
take_found : (ws : List (List ℕ)) (l : Line) → take_line ws ≡ Some l → Spells (codes "take" ∷ ws) l
unfolding take_line
take_found ws l e =
    then_some (state_at ws) _ l e (λ state named e.
    then_some (name_at state.1) _ l e (λ forward called e.
    let n = state_found ws state named in
    let f = name_found state.1 forward called in
    let p = take_end_found state.0 forward.0 forward.1 l n.1 f.1 e in
    (cc (n.0, f.0, p.0), p.1)))

-- the words of a take line after its forward
abbrev take_words : Option (List ℕ) → List ℕ → List (List ℕ)
take_words None next = next ∷ []
take_words (Some reply) next = reply ∷ next ∷ []

-- the spelling of a take line in one equation
take_spelling : (state forward : List ℕ) (reply : Option (List ℕ)) (next : List ℕ)
    → spelling (Take state forward reply next) ≡ codes "take" ∷ state ∷ forward ∷ take_words reply next
take_spelling state forward None next = refl
take_spelling state forward (Some reply) next = refl

-- what stands after the forward of a take line is read again
take_end_again : (state forward : List ℕ) (reply : Option (List ℕ)) (next : List ℕ) → IfSome reply (λ w. IsTrue (is_name w))
    → IsTrue (is_state_name next) → take_line_end state forward (take_words reply next) ≡ Some (Take state forward reply next)
take_end_again state forward None next h g = rw g refl
take_end_again state forward (Some reply) next h g = rw (and_from (is_name reply) (is_state_name next) h g) refl

-- the spelling of a take line is read as that line
take_again : (state forward : List ℕ) (reply : Option (List ℕ)) (next : List ℕ) → IsTrue (is_state_name state) → IsTrue (is_name forward)
    → IfSome reply (λ w. IsTrue (is_name w)) → IsTrue (is_state_name next)
    → take_line (state ∷ forward ∷ take_words reply next) ≡ Some (Take state forward reply next)
unfolding take_line
take_again state forward reply next h g k j =
    rw (state_again state (forward ∷ take_words reply next) h, name_again forward (take_words reply next) g) (take_end_again state forward reply next k j)

-- the words of a row line after its state, before others
abbrev row_words : RowShape → List (List ℕ) → List (List ℕ)
row_words (row.Ask request sender action) ws = request ∷ who_word sender ∷ action ∷ ws
row_words (row.Evict sender others) ws = codes "evict" ∷ who_word sender ∷ left_word others ∷ ws

-- the words are those of the shape of a row and what is left, and there is such a shape
abbrev IsRow : List (List ℕ) → RowShape × List (List ℕ) → Type 0
IsRow ws x = (ws ≡ row_words x.0 x.1) × IsRowShape x.0

-- a row that is read after a request is spelled by its words
asking_row_found : (request : List ℕ) (ws : List (List ℕ)) (x : RowShape × List (List ℕ)) → request ≢ codes "evict"
    → asking_row request ws ≡ Some x → IsRow (request ∷ ws) x
unfolding asking_row
asking_row_found request ws x other e =
    then_some (first_rest ws) _ x e (λ word first e.
    then_some (find_word who_word senders word.0) _ x e (λ sender is_sender e.
    then_some (name_at word.1) _ x e (λ action named e.
    let n = name_found word.1 action named in
    let t = cond_some (is_name request) (row.Ask request sender action.0, action.1) x e in
    subst (IsRow (request ∷ ws)) t.1
    (cc (n.0, first_rest_is ws word.0 word.1 (sym first), word_found who_word senders word.0 sender is_sender), (t.0, other, n.1)))))

-- a row that is read after an evict is spelled by its words
evicting_row_found : (ws : List (List ℕ)) (x : RowShape × List (List ℕ)) → evicting_row ws ≡ Some x → IsRow (codes "evict" ∷ ws) x
unfolding evicting_row
evicting_row_found ws x e =
    then_some (first_rest ws) _ x e (λ a first e.
    then_some (find_word who_word holders a.0) _ x e (λ sender is_sender e.
    then_some (first_rest a.1) _ x e (λ b second e.
    then_some (find_word left_word lefts b.0) _ x e (λ others is_others e.
    let s = holder_found a.0 sender is_sender in
    subst (IsRow (codes "evict" ∷ ws)) (same_Some (row.Evict sender others, b.1) x e)
    (cc (first_rest_is ws a.0 a.1 (sym first), s.0, first_rest_is a.1 b.0 b.1 (sym second), word_found left_word lefts b.0 others is_others), s.1 others)))))

-- a row that is read after its state is spelled by its words
row_shape_found : (w : List ℕ) (ws : List (List ℕ)) (x : RowShape × List (List ℕ)) → row_shape w ws ≡ Some x → IsRow (w ∷ ws) x
row_shape_found w ws x =
    told_apart (IsRow (w ∷ ws)) w (codes "evict") _ _ x
    (λ h e. let p = evicting_row_found ws x e in (ap (λ (v : List ℕ). v ∷ ws) h ∙ p.0, p.1)) (asking_row_found w ws x)

-- the spelling of a row line in one equation
row_spelling : (dir : List ℕ) (shape : RowShape) (next : List ℕ)
    → spelling (Row dir shape next) ≡ codes "row" ∷ dir ∷ row_words shape (next ∷ [])
row_spelling dir (row.Ask request sender action) next = refl
row_spelling dir (row.Evict sender others) next = refl

-- a row line that is read is spelled by its words
row_found : (ws : List (List ℕ)) (l : Line) → row_line ws ≡ Some l → Spells (codes "row" ∷ ws) l
unfolding row_line
row_found ws l e =
    then_some (state_at ws) _ l e (λ dir named e.
    then_some (first_rest dir.1) _ l e (λ word first e.
    then_some (row_shape word.0 word.1) _ l e (λ shape shaped e.
    then_some (state_at shape.1) _ l e (λ next called e.
    then_some (no_words_left next.1) _ l e (λ end ends e.
    let d = state_found ws dir named in
    let r = row_shape_found word.0 word.1 shape shaped in
    let n = state_found shape.1 next called in
    subst (Spells (codes "row" ∷ ws)) (same_Some (Row dir.0 shape.0 next.0) l e) (
      cc (
        row_spelling dir.0 shape.0 next.0,
        d.0,
        first_rest_is dir.1 word.0 word.1 (sym first),
        r.0,
        ap (row_words shape.0) (n.0 ∙ ap (λ (v : List (List ℕ)). next.0 ∷ v) (ended_found next.1 end ends)),
      ),
      (d.1, r.1, n.1),
    ))))))

-- the spelling of a row line is read as that line
row_again : (dir : List ℕ) (shape : RowShape) (next : List ℕ) → IsTrue (is_state_name dir) → IsRowShape shape → IsTrue (is_state_name next)
    → row_line (dir ∷ row_words shape (next ∷ [])) ≡ Some (Row dir shape next)
unfolding row_line asking_row evicting_row
row_again dir (row.Ask request sender action) next h g k =
    rw (
      state_again dir (row_words (row.Ask request sender action) (next ∷ [])) h,
      other_word request (codes "evict") g.1,
      word_again who_word senders refl sender (senders_listed sender),
      name_again action (next ∷ []) g.2,
      g.0,
      state_again next [] k,
    ) refl
row_again dir (row.Evict sender others) next h g k =
    rw (
      state_again dir (row_words (row.Evict sender others) (next ∷ [])) h,
      holder_again sender others g,
      word_again left_word lefts refl others (lefts_listed others),
      state_again next [] k,
    ) refl

-- an end line that is read is spelled by its words
end_found : (ws : List (List ℕ)) (l : Line) → end_line ws ≡ Some l → Spells (codes "end" ∷ ws) l
unfolding end_line
end_found ws l e =
    then_some (no_words_left ws) _ l e (λ end ends e.
    subst (Spells (codes "end" ∷ ws)) (same_Some End l e) (ap (λ (v : List (List ℕ)). codes "end" ∷ v) (ended_found ws end ends), tt))

-- the spelling of the end line is read as that line
end_again : end_line [] ≡ Some End
unfolding end_line
end_again = refl

-- what is spelled after a word is spelled after an equal one
spells_after_word : (w s : List ℕ) (ws : List (List ℕ)) (l : Line) → w ≡ s → Spells (s ∷ ws) l → Spells (w ∷ ws) l
spells_after_word w s ws l h p = (ap (λ (v : List ℕ). v ∷ ws) h ∙ p.0, p.1)

-- a line that is read after its first word is spelled by all its words
after_found : (w : List ℕ) (ws : List (List ℕ)) (l : Line) → line_by_first_word w ws ≡ Some l → Spells (w ∷ ws) l
after_found w ws l =
    word_test_some (Spells (w ∷ ws)) w (codes "protocol") _ _ l (λ h e. spells_after_word w _ ws l h (protocol_found ws l e))
    (word_test_some (Spells (w ∷ ws)) w (codes "cache") _ _ l (λ h e. spells_after_word w _ ws l h (cache_found ws l e))
    (word_test_some (Spells (w ∷ ws)) w (codes "dir") _ _ l (λ h e. spells_after_word w _ ws l h (dir_found ws l e))
    (word_test_some (Spells (w ∷ ws)) w (codes "request") _ _ l (λ h e. spells_after_word w _ ws l h (request_line_found ws l e))
    (word_test_some (Spells (w ∷ ws)) w (codes "forward") _ _ l (λ h e. spells_after_word w _ ws l h (forward_line_found ws l e))
    (word_test_some (Spells (w ∷ ws)) w (codes "reply") _ _ l (λ h e. spells_after_word w _ ws l h (reply_line_found ws l e))
    (word_test_some (Spells (w ∷ ws)) w (codes "core") _ _ l (λ h e. spells_after_word w _ ws l h (core_found ws l e))
    (word_test_some (Spells (w ∷ ws)) w (codes "take") _ _ l (λ h e. spells_after_word w _ ws l h (take_found ws l e))
    (word_test_some (Spells (w ∷ ws)) w (codes "row") _ _ l (λ h e. spells_after_word w _ ws l h (row_found ws l e))
    (word_test_some (Spells (w ∷ ws)) w (codes "end") _ _ l (λ h e. spells_after_word w _ ws l h (end_found ws l e))
    (nothing_found l))))))))))

-- what is read is spelled so
pub line_of-some : (ws : List (List ℕ)) (l : Line) → line_of ws ≡ Some l → (ws ≡ spelling l) × IsWellNamed l
unfolding line_of
line_of-some ws l e =
    then_some (first_rest ws) _ l e (λ w first e.
    let p = after_found w.0 w.1 l e in
    (first_rest_is ws w.0 w.1 (sym first) ∙ p.0, p.1))

-- what is spelled so is read
pub line_of-spelling : (l : Line) → IsWellNamed l → line_of (spelling l) ≡ Some l
unfolding line_of
line_of-spelling (Protocol name) h = protocol_again name h
line_of-spelling (Cache name role perm clean) h = ap line_of (cache_spelling name role perm clean) ∙ cache_again name role perm clean h
line_of-spelling (Dir name kind beside) h = dir_again name kind beside h.0 h.1
line_of-spelling (Message name (Request class)) h = request_line_again name class h
line_of-spelling (Message name (Forward class)) h = forward_line_again name class h
line_of-spelling (Message name Reply) h = reply_line_again name h
line_of-spelling (Core state event shape) h = core_again state event shape h.0 h.1
line_of-spelling (Take state forward reply next) h = ap line_of (take_spelling state forward reply next) ∙ take_again state forward reply next h.0 h.1 h.2 h.3
line_of-spelling (Row dir shape next) h = ap line_of (row_spelling dir shape next) ∙ row_again dir shape next h.0 h.1 h.2
line_of-spelling End h = end_again
