use Rattle.std.specs.Prelude.{ℕ, Bool, true, false, ◌&&◌, List, [], ◌∷◌, codes, Option, Some, None, if◌then◌else◌}
use Rattle.std.specs.Str.{bytes_eq}
use Rattle.std.specs.List.{list_all}
use Rattle.pg_perm.specs.Names.{is_name, is_state_name}
use Rattle.pg_perm.specs.Vocabularies.{find_word}
use Rattle.pg_perm.specs.Words.{role_word, roles, perm_word, perms, dir_word, dir_kinds, request_word, requests, forward_word, forwards, event_word, events, who_word, senders, holders, left_word, lefts}
use Rattle.pg_perm.specs.declared.kinds.Event.{Event}
use Rattle.pg_perm.specs.declared.kinds.Event.TheVariants.{Evict}
use Rattle.pg_perm.specs.declared.draft.MsgClass.TheVariants.{Request, Forward, Reply}
use Rattle.pg_forms.specs.declared.line.Line.{Line}
use Rattle.pg_forms.specs.declared.line.Line.TheVariants.{Protocol, Cache, Dir, Message, Core, Take, Row, End}
use Rattle.pg_forms.specs.declared.line.RowShape.{RowShape}
use Rattle.pg_forms.specs.declared.line.RowShape.TheVariants as row
use Rattle.pg_forms.specs.declared.line.CoreShape.{CoreShape}
use Rattle.pg_forms.specs.declared.line.CoreShape.TheVariants.{Hit, Ask, Leave}
use Rattle.pg_lines.specs.Lines.{first_rest}
use Rattle.pg_forms.specs.Pairs.{are_pairs, pairs_in}

-- what the value of an option leads to
infixl 10 ◌>>=◌
abbrev pub ◌>>=◌ : {A B : Type 0} → Option A → (A → Option B) → Option B
None >>= f = None
(Some x) >>= f = f x

-- the first word where it is a name, and the words after it
unfoldable pub name_at : List (List ℕ) → Option (List ℕ × List (List ℕ))
name_at ws = do
  w ← first_rest ws
  if is_name w.0 then Some w else None

-- the first word where it is the name of a state, and the words after it
unfoldable pub state_at : List (List ℕ) → Option (List ℕ × List (List ℕ))
state_at ws = do
  w ← first_rest ws
  if is_state_name w.0 then Some w else None

-- nothing, where no word is left
abbrev pub no_words_left : List (List ℕ) → Option (Unit {0})
no_words_left [] = Some tt
no_words_left (w ∷ ws) = None

unfoldable pub protocol_line : List (List ℕ) → Option Line
protocol_line ws = do
  name ← name_at ws
  end ← no_words_left name.1
  Some (Protocol name.0)

-- whether `clean` is all that is left, or nothing is
abbrev pub clean_of : List (List ℕ) → Option Bool
clean_of [] = Some false
clean_of (w ∷ []) = if bytes_eq w (codes "clean") then Some true else None
clean_of (w ∷ v ∷ ws) = None

unfoldable pub cache_line : List (List ℕ) → Option Line
cache_line ws = do
  name ← state_at ws
  word ← first_rest name.1
  role ← find_word role_word roles word.0
  word ← first_rest word.1
  perm ← find_word perm_word perms word.0
  clean ← clean_of word.1
  Some (Cache name.0 role perm clean)

unfoldable pub dir_line : List (List ℕ) → Option Line
dir_line ws = do
  name ← state_at ws
  word ← first_rest name.1
  kind ← find_word dir_word dir_kinds word.0
  if list_all is_state_name word.1 then Some (Dir name.0 kind word.1) else None

unfoldable pub forward_line : List (List ℕ) → Option Line
forward_line ws = do
  name ← name_at ws
  word ← first_rest name.1
  class ← find_word forward_word forwards word.0
  end ← no_words_left word.1
  Some (Message name.0 (Forward class))

unfoldable pub request_line : List (List ℕ) → Option Line
request_line ws = do
  name ← name_at ws
  word ← first_rest name.1
  class ← find_word request_word requests word.0
  end ← no_words_left word.1
  Some (Message name.0 (Request class))

unfoldable pub reply_line : List (List ℕ) → Option Line
reply_line ws = do
  name ← name_at ws
  word ← first_rest name.1
  end ← no_words_left word.1
  if bytes_eq word.0 (codes "data") then Some (Message name.0 Reply) else None

-- `hit`, and perhaps a state
abbrev pub hit_shape : List ℕ → Option (List ℕ) → Option CoreShape
hit_shape w None = if bytes_eq w (codes "hit") then Some (Hit None) else None
hit_shape w (Some next) = if bytes_eq w (codes "hit") then (if is_state_name next then Some (Hit (Some next)) else None) else None

-- a request, with replies and final states
abbrev pub ask_shape : List ℕ → List (List ℕ) → Option CoreShape
ask_shape w ws = if is_name w && are_pairs ws then Some (Ask w (pairs_in ws)) else None

-- what stands after `load` or `store`
abbrev pub asking_shape : List (List ℕ) → Option CoreShape
asking_shape [] = None
asking_shape (w ∷ []) = hit_shape w None
asking_shape (w ∷ next ∷ []) = hit_shape w (Some next)
asking_shape (w ∷ reply ∷ fin ∷ more) = ask_shape w (reply ∷ fin ∷ more)

-- what stands after `evict`
unfoldable pub leaving_shape : List (List ℕ) → Option CoreShape
leaving_shape ws = do
  request ← name_at ws
  end ← no_words_left request.1
  Some (Leave request.0)

abbrev pub shape_of : Event → List (List ℕ) → Option CoreShape
shape_of Evict ws = leaving_shape ws
shape_of event ws = asking_shape ws

unfoldable pub core_line : List (List ℕ) → Option Line
core_line ws = do
  state ← state_at ws
  word ← first_rest state.1
  event ← find_word event_word events word.0
  shape ← shape_of event word.1
  Some (Core state.0 event shape)

-- a take line that sends no reply
abbrev pub take_silent : List ℕ → List ℕ → List ℕ → Option Line
take_silent state forward next = if is_state_name next then Some (Take state forward None next) else None

-- a take line that sends a reply
abbrev pub take_replying : List ℕ → List ℕ → List ℕ → List ℕ → Option Line
take_replying state forward reply next = if is_name reply && is_state_name next then Some (Take state forward (Some reply) next) else None

-- a state, and perhaps a reply in front of it
abbrev pub take_line_end : List ℕ → List ℕ → List (List ℕ) → Option Line
take_line_end state forward [] = None
take_line_end state forward (next ∷ []) = take_silent state forward next
take_line_end state forward (reply ∷ next ∷ []) = take_replying state forward reply next
take_line_end state forward (reply ∷ next ∷ more ∷ ws) = None

unfoldable pub take_line : List (List ℕ) → Option Line
take_line ws = do
  state ← state_at ws
  forward ← name_at state.1
  take_line_end state.0 forward.0 forward.1

-- who sends a request and what is done about it, and the words after that
unfoldable pub asking_row : List ℕ → List (List ℕ) → Option (RowShape × List (List ℕ))
asking_row request ws = do
  word ← first_rest ws
  sender ← find_word who_word senders word.0
  action ← name_at word.1
  if is_name request then Some (row.Ask request sender action.0, action.1) else None

-- who evicts and whether sharers are left, and the words after that
unfoldable pub evicting_row : List (List ℕ) → Option (RowShape × List (List ℕ))
evicting_row ws = do
  word ← first_rest ws
  sender ← find_word who_word holders word.0
  word ← first_rest word.1
  others ← find_word left_word lefts word.0
  Some (row.Evict sender others, word.1)

-- the third word decides
abbrev pub row_shape : List ℕ → List (List ℕ) → Option (RowShape × List (List ℕ))
row_shape w ws = if bytes_eq w (codes "evict") then evicting_row ws else asking_row w ws

unfoldable pub row_line : List (List ℕ) → Option Line
row_line ws = do
  dir ← state_at ws
  word ← first_rest dir.1
  shape ← row_shape word.0 word.1
  next ← state_at shape.1
  end ← no_words_left next.1
  Some (Row dir.0 shape.0 next.0)

unfoldable pub end_line : List (List ℕ) → Option Line
end_line ws = do
  end ← no_words_left ws
  Some End

-- the line whose first word is w, and whose other words are ws
abbrev pub line_by_first_word : List ℕ → List (List ℕ) → Option Line
line_by_first_word w ws = if bytes_eq w (codes "protocol") then protocol_line ws
    else if bytes_eq w (codes "cache") then cache_line ws
    else if bytes_eq w (codes "dir") then dir_line ws
    else if bytes_eq w (codes "request") then request_line ws
    else if bytes_eq w (codes "forward") then forward_line ws
    else if bytes_eq w (codes "reply") then reply_line ws
    else if bytes_eq w (codes "core") then core_line ws
    else if bytes_eq w (codes "take") then take_line ws
    else if bytes_eq w (codes "row") then row_line ws
    else if bytes_eq w (codes "end") then end_line ws
    else None

-- the line that the words are, where they are in a form
unfoldable pub line_of : List (List ℕ) → Option Line
line_of ws = do
  w ← first_rest ws
  line_by_first_word w.0 w.1
