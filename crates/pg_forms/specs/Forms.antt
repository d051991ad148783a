use Rattle.std.specs.Prelude.{ℕ, ◌≢◌, true, false, List, [], ◌∷◌, codes, Some, None, IsTrue, IfSome}
use Rattle.std.specs.List.{list_all}
use Rattle.pg_perm.specs.Names.{is_name, is_state_name}
use Rattle.pg_perm.specs.Words.{role_word, perm_word, request_word, event_word, dir_word, forward_word, who_word, left_word}
use Rattle.pg_perm.specs.declared.kinds.Who.TheVariants as who
use Rattle.pg_perm.specs.declared.kinds.Event.{Event}
use Rattle.pg_perm.specs.declared.kinds.Event.TheVariants.{Evict}
use Rattle.pg_perm.specs.declared.draft.MsgClass.TheVariants.{Request, Forward, Reply}
use Rattle.pg_forms.specs.Pairs.{words_in, is_named_pair}
use Rattle.pg_forms.specs.declared.line.Line.{Line}
use Rattle.pg_forms.specs.declared.line.Line.TheVariants.{Protocol, Cache, Dir, Message, Core, Take, Row, End}
use Rattle.pg_forms.specs.declared.line.RowShape.{RowShape}
use Rattle.pg_forms.specs.declared.line.RowShape.TheVariants as row
use Rattle.pg_forms.specs.declared.line.CoreShape.{CoreShape}
use Rattle.pg_forms.specs.declared.line.CoreShape.TheVariants.{Hit, Ask, Leave}

-- the words of a line after its event
abbrev pub shape_words : CoreShape → List (List ℕ)
shape_words (Hit None) = codes "hit" ∷ []
shape_words (Hit (Some next)) = codes "hit" ∷ next ∷ []
shape_words (Ask request pairs) = request ∷ words_in pairs
shape_words (Leave request) = request ∷ []

-- the words of a line
abbrev pub spelling : Line → List (List ℕ)
spelling (Protocol name) = codes "protocol" ∷ name ∷ []
spelling (Cache name role perm false) = codes "cache" ∷ name ∷ role_word role ∷ perm_word perm ∷ []
spelling (Cache name role perm true) = codes "cache" ∷ name ∷ role_word role ∷ perm_word perm ∷ codes "clean" ∷ []
spelling (Dir name kind beside) = codes "dir" ∷ name ∷ dir_word kind ∷ beside
spelling (Message name (Request class)) = codes "request" ∷ name ∷ request_word class ∷ []
spelling (Message name (Forward class)) = codes "forward" ∷ name ∷ forward_word class ∷ []
spelling (Message name Reply) = codes "reply" ∷ name ∷ codes "data" ∷ []
spelling (Core state event shape) = codes "core" ∷ state ∷ event_word event ∷ shape_words shape
spelling (Take state forward None next) = codes "take" ∷ state ∷ forward ∷ next ∷ []
spelling (Take state forward (Some reply) next) = codes "take" ∷ state ∷ forward ∷ reply ∷ next ∷ []
spelling (Row dir (row.Ask request sender action) next) = codes "row" ∷ dir ∷ request ∷ who_word sender ∷ action ∷ next ∷ []
spelling (Row dir (row.Evict sender others) next) = codes "row" ∷ dir ∷ codes "evict" ∷ who_word sender ∷ left_word others ∷ next ∷ []
spelling End = codes "end" ∷ []

-- a load or a store hits or asks, and an evict leaves
abbrev pub IsShapeOf : Event → CoreShape → Type 0
IsShapeOf Evict (Leave request) = IsTrue (is_name request)
IsShapeOf Evict (Hit next) = ⊥
IsShapeOf Evict (Ask request pairs) = ⊥
IsShapeOf event (Hit next) = IfSome next (λ w. IsTrue (is_state_name w))
IsShapeOf event (Ask request pairs) = IsTrue (is_name request) × IsTrue (list_all is_named_pair pairs) × (pairs ≢ [])
IsShapeOf event (Leave request) = ⊥

-- the request of a row is a name and not `evict`, and none but an owner or a sharer evicts
abbrev pub IsRowShape : RowShape → Type 0
IsRowShape (row.Ask request sender action) = IsTrue (is_name request) × (request ≢ codes "evict") × IsTrue (is_name action)
IsRowShape (row.Evict who.Other others) = ⊥
IsRowShape (row.Evict who.Sharer others) = Unit {0}
IsRowShape (row.Evict who.Owner others) = Unit {0}

-- each of its words is a name of its kind, and there is such a line
abbrev pub IsWellNamed : Line → Type 0
IsWellNamed (Protocol name) = IsTrue (is_name name)
IsWellNamed (Cache name role perm clean) = IsTrue (is_state_name name)
IsWellNamed (Dir name kind beside) = IsTrue (is_state_name name) × IsTrue (list_all is_state_name beside)
IsWellNamed (Message name (Request class)) = IsTrue (is_name name)
IsWellNamed (Message name (Forward class)) = IsTrue (is_name name)
IsWellNamed (Message name Reply) = IsTrue (is_name name)
IsWellNamed (Core state event shape) = IsTrue (is_state_name state) × IsShapeOf event shape
IsWellNamed (Take state forward reply next) =
    IsTrue (is_state_name state) × IsTrue (is_name forward) × IfSome reply (λ w. IsTrue (is_name w)) × IsTrue (is_state_name next)
IsWellNamed (Row dir shape next) = IsTrue (is_state_name dir) × IsRowShape shape × IsTrue (is_state_name next)
IsWellNamed End = Unit {0}
