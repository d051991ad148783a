-- The words of a well-named line hold no space and no newline, and have at most 24 bytes each.
use Rattle.std.proofs.Common.{◌≡◌, ℕ, ◌≤◌, Bool, true, false, List, [], ◌∷◌, length, Some, None, refl, ap, arith}
use Rattle.std.specs.Prelude.{◌&&◌, ◌||◌, ◌==◌, not, nat_le, nat_lt, codes}
use Rattle.std.specs.List.{list_all}
use Rattle.std.proofs.lemmas.Bool.{and_parts, and_from, ne_eqb, le-leb}
use Rattle.std.proofs.lemmas.Bool.Decides.{nat_tests}
use Rattle.pg_lines.specs.Lines.{is_plain}
use Rattle.pg_lines.proofs.Weaker.{all_weaker}
use Rattle.pg_perm.specs.Names.{is_letter, is_digit, is_underscore, is_name_byte, is_name, is_state_name}
use Rattle.pg_perm.specs.Words.{role_word, perm_word, request_word, event_word, dir_word, forward_word, who_word, left_word}
use Rattle.pg_perm.proofs.Ascii.{length-name}
use Rattle.pg_perm.specs.declared.kinds.Role.{Role}
use Rattle.pg_perm.specs.declared.kinds.Role.TheVariants.{Out, Shared, Owner}
use Rattle.pg_perm.specs.declared.kinds.Perm.{Perm}
use Rattle.pg_perm.specs.declared.kinds.Perm.TheVariants as perm
use Rattle.pg_perm.specs.declared.kinds.ReqClass.{ReqClass}
use Rattle.pg_perm.specs.declared.kinds.ReqClass.TheVariants as asks
use Rattle.pg_perm.specs.declared.kinds.DirKind.{DirKind}
use Rattle.pg_perm.specs.declared.kinds.DirKind.TheVariants as knows
use Rattle.pg_perm.specs.declared.kinds.FwdClass.{FwdClass}
use Rattle.pg_perm.specs.declared.kinds.FwdClass.TheVariants as asked
use Rattle.pg_perm.specs.declared.kinds.Who.{Who}
use Rattle.pg_perm.specs.declared.kinds.Who.TheVariants as who
use Rattle.pg_perm.specs.declared.kinds.Left.{Left}
use Rattle.pg_perm.specs.declared.kinds.Left.TheVariants as left
use Rattle.pg_perm.specs.declared.kinds.Event.{Event}
use Rattle.pg_perm.specs.declared.kinds.Event.TheVariants.{Load, Store, Evict}
use Rattle.pg_perm.specs.declared.draft.MsgClass.TheVariants.{Request, Forward, Reply}
use Rattle.pg_forms.specs.Pairs.{words_in, is_named_pair}
use Rattle.pg_forms.specs.declared.line.Line.{Line}
use Rattle.pg_forms.specs.declared.line.Line.TheVariants.{Protocol, Cache, Dir, Message, Core, Take, Row, End}
use Rattle.pg_forms.specs.declared.line.RowShape.TheVariants as row
use Rattle.pg_forms.specs.declared.line.CoreShape.{CoreShape}
use Rattle.pg_forms.specs.declared.line.CoreShape.TheVariants.{Hit, Ask, Leave}
use Rattle.pg_forms.specs.Forms.{shape_words, spelling, IsShapeOf, IsWellNamed}

-- a word that may be written
abbrev pub is_word : List ℕ → Bool
is_word w = list_all is_plain w && nat_le (length w) 24

-- words that may be written
abbrev pub are_words : List (List ℕ) → Bool
are_words ws = list_all is_word ws

-- one more word that may be written
more_words : (w : List ℕ) (ws : List (List ℕ)) → is_word w ≡ true → are_words ws ≡ true → are_words (w ∷ ws) ≡ true
more_words w ws h g = and_from (is_word w) (are_words ws) h g

-- each character of a name comes after the space and the newline
name_byte-past : (b : ℕ) → is_name_byte b ≡ true → 48 ≤ b
name_byte-past b h = grind (arith, nat_tests)

-- and is neither of them
name_byte-plain : (b : ℕ) → is_name_byte b ≡ true → is_plain b ≡ true
name_byte-plain b h =
    let past : 48 ≤ b = name_byte-past b h in
    and_from (not (b == 32)) (not (b == 10)) (ap not (ne_eqb b 32 (λ e. absurd (omega arith)))) (ap not (ne_eqb b 10 (λ e. absurd (omega arith))))

-- a name is a word
name_word : (w : List ℕ) → is_name w ≡ true → is_word w ≡ true
name_word [] h = absurd cc
name_word (b ∷ bs) h =
    let parts = and_parts (is_letter b && nat_lt (length bs) 24) (list_all is_name_byte bs) h in
    let first : is_letter b ≡ true = (and_parts (is_letter b) (nat_lt (length bs) 24) parts.0).0 in
    let plain : list_all is_plain (b ∷ bs) ≡ true =
    and_from (is_plain b) (list_all is_plain bs) (name_byte-plain b (ap (λ t. (t || is_digit b) || is_underscore b) first))
    (all_weaker is_name_byte is_plain bs name_byte-plain parts.1) in
    and_from (list_all is_plain (b ∷ bs)) (nat_le (length (b ∷ bs)) 24) plain (le-leb (length (b ∷ bs)) 24 (length-name (b ∷ bs) h))

-- the name of a state is a word
state_word : (w : List ℕ) → is_state_name w ≡ true → is_word w ≡ true
state_word w h = name_word w (and_parts (is_name w) _ h).0

-- the fixed words are words
role_is_word : (r : Role) → is_word (role_word r) ≡ true
role_is_word Out = refl
role_is_word Shared = refl
role_is_word Owner = refl

-- likewise for permissions
perm_is_word : (p : Perm) → is_word (perm_word p) ≡ true
perm_is_word perm.None = refl
perm_is_word perm.Read = refl
perm_is_word perm.Write = refl

-- likewise for what a request asks
request_is_word : (q : ReqClass) → is_word (request_word q) ≡ true
request_is_word asks.Read = refl
request_is_word asks.Write = refl
request_is_word asks.Clean = refl
request_is_word asks.Dirty = refl

-- likewise for events
event_is_word : (v : Event) → is_word (event_word v) ≡ true
event_is_word Load = refl
event_is_word Store = refl
event_is_word Evict = refl

-- likewise for what a directory state knows
dir_is_word : (k : DirKind) → is_word (dir_word k) ≡ true
dir_is_word knows.Idle = refl
dir_is_word knows.Shared = refl
dir_is_word knows.Owned = refl
dir_is_word knows.Mixed = refl

-- likewise for what a forward asks
forward_is_word : (f : FwdClass) → is_word (forward_word f) ≡ true
forward_is_word asked.Inv = refl
forward_is_word asked.Share = refl
forward_is_word asked.Keep = refl
forward_is_word asked.Drop = refl

-- likewise for senders
who_is_word : (s : Who) → is_word (who_word s) ≡ true
who_is_word who.Other = refl
who_is_word who.Sharer = refl
who_is_word who.Owner = refl

-- likewise for whether sharers are left
left_is_word : (m : Left) → is_word (left_word m) ≡ true
left_is_word left.Last = refl
left_is_word left.More = refl

-- the words of pairs
pair_words_are : (ps : List (List ℕ × List ℕ)) → list_all is_named_pair ps ≡ true → are_words (words_in ps) ≡ true
pair_words_are [] h = refl
pair_words_are (p ∷ ps) h =
    let parts = and_parts (is_named_pair p) (list_all is_named_pair ps) h in
    let names = and_parts (is_name p.0) (is_state_name p.1) parts.0 in
    more_words p.0 (p.1 ∷ words_in ps) (name_word p.0 names.0) (more_words p.1 (words_in ps) (state_word p.1 names.1) (pair_words_are ps parts.1))

-- the words of a load's shape
asking_words : (s : CoreShape) → IsShapeOf Load s → are_words (shape_words s) ≡ true
asking_words (Hit None) h = refl
asking_words (Hit (Some next)) h = more_words next [] (state_word next h) refl
asking_words (Ask request pairs) h = more_words request (words_in pairs) (name_word request h.0) (pair_words_are pairs h.1)
asking_words (Leave request) h = absurd h

-- a store takes no shape that a load doesn't take
load_as_store : (s : CoreShape) → IsShapeOf Store s → IsShapeOf Load s
load_as_store (Hit next) h = h
load_as_store (Ask request pairs) h = h
load_as_store (Leave request) h = h

-- the words after an event
shape_words_are : (event : Event) (s : CoreShape) → IsShapeOf event s → are_words (shape_words s) ≡ true
shape_words_are Load s h = asking_words s h
shape_words_are Store s h = asking_words s (load_as_store s h)
shape_words_are Evict (Hit next) h = absurd h
shape_words_are Evict (Ask request pairs) h = absurd h
shape_words_are Evict (Leave request) h = more_words request [] (name_word request h) refl

-- the words of a well-named line
pub spelling_words : (l : Line) → IsWellNamed l → are_words (spelling l) ≡ true
spelling_words (Protocol name) h = more_words name [] (name_word name h) refl
spelling_words (Cache name role perm false) h =
    more_words name (role_word role ∷ perm_word perm ∷ []) (state_word name h)
    (more_words (role_word role) (perm_word perm ∷ []) (role_is_word role) (more_words (perm_word perm) [] (perm_is_word perm) refl))
spelling_words (Cache name role perm true) h =
    more_words name (role_word role ∷ perm_word perm ∷ codes "clean" ∷ []) (state_word name h)
    (more_words (role_word role) (perm_word perm ∷ codes "clean" ∷ []) (role_is_word role)
    (more_words (perm_word perm) (codes "clean" ∷ []) (perm_is_word perm) refl))
spelling_words (Dir name kind beside) h =
    more_words name (dir_word kind ∷ beside) (state_word name h.0)
    (more_words (dir_word kind) beside (dir_is_word kind) (all_weaker is_state_name is_word beside state_word h.1))
spelling_words (Message name (Request class)) h =
    more_words name (request_word class ∷ []) (name_word name h) (more_words (request_word class) [] (request_is_word class) refl)
spelling_words (Message name (Forward class)) h =
    more_words name (forward_word class ∷ []) (name_word name h) (more_words (forward_word class) [] (forward_is_word class) refl)
spelling_words (Message name Reply) h = more_words name (codes "data" ∷ []) (name_word name h) refl
spelling_words (Core state event shape) h =
    more_words state (event_word event ∷ shape_words shape) (state_word state h.0)
    (more_words (event_word event) (shape_words shape) (event_is_word event) (shape_words_are event shape h.1))
spelling_words (Take state forward None next) h =
    more_words state (forward ∷ next ∷ []) (state_word state h.0)
    (more_words forward (next ∷ []) (name_word forward h.1) (more_words next [] (state_word next h.3) refl))
spelling_words (Take state forward (Some reply) next) h =
    more_words state (forward ∷ reply ∷ next ∷ []) (state_word state h.0)
    (more_words forward (reply ∷ next ∷ []) (name_word forward h.1)
    (more_words reply (next ∷ []) (name_word reply h.2) (more_words next [] (state_word next h.3) refl)))
spelling_words (Row dir (row.Ask request sender action) next) h =
    more_words dir (request ∷ who_word sender ∷ action ∷ next ∷ []) (state_word dir h.0)
    (more_words request (who_word sender ∷ action ∷ next ∷ []) (name_word request h.1.0)
    (more_words (who_word sender) (action ∷ next ∷ []) (who_is_word sender)
    (more_words action (next ∷ []) (name_word action h.1.2) (more_words next [] (state_word next h.2) refl))))
spelling_words (Row dir (row.Evict sender others) next) h =
    more_words dir (codes "evict" ∷ who_word sender ∷ left_word others ∷ next ∷ []) (state_word dir h.0)
    (more_words (who_word sender) (left_word others ∷ next ∷ []) (who_is_word sender)
    (more_words (left_word others) (next ∷ []) (left_is_word others) (more_words next [] (state_word next h.2) refl)))
spelling_words End h = refl
