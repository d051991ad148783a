-- What the lines of a text declare, and the numbers of what they use.
use Rattle.std.specs.Prelude.{ℕ, Bool, false, ◌||◌, nat_le, List, [], ◌∷◌, ◌++◌, length, codes, slice_get, Option, Some, None, is_some, Result, Ok, Err, if◌then◌else◌, bytes_eq}
use Rattle.std.specs.List.{list_any}
use Rattle.std.specs.Option.{option_map}
use Rattle.pg_names.specs.Number.{number_of}
use Rattle.pg_perm.specs.declared.draft.Draft.{Draft}
use Rattle.pg_perm.specs.declared.draft.CoreForm.{CoreForm}
use Rattle.pg_perm.specs.declared.draft.CoreForm.TheVariants as form
use Rattle.pg_perm.specs.declared.draft.Pair.{Pair}
use Rattle.pg_perm.specs.declared.draft.ReplyName.{ReplyName}
use Rattle.pg_perm.specs.declared.draft.ReplyName.TheVariants as reply
use Rattle.pg_perm.specs.declared.draft.Action.{Action}
use Rattle.pg_perm.specs.declared.draft.Action.TheVariants as action
use Rattle.pg_perm.specs.declared.draft.CoreLine.{CoreLine}
use Rattle.pg_perm.specs.declared.draft.TakeLine.{TakeLine}
use Rattle.pg_perm.specs.declared.draft.RowLine.{RowLine}
use Rattle.pg_perm.specs.declared.draft.RowForm.{RowForm}
use Rattle.pg_perm.specs.declared.draft.RowForm.TheVariants as rows
use Rattle.pg_perm.specs.declared.fault.Rule.{Rule}
use Rattle.pg_perm.specs.declared.fault.Rule.TheVariants.{F3, F4, F5}
use Rattle.pg_perm.specs.declared.kinds.DirKind.{DirKind}
use Rattle.pg_perm.specs.declared.kinds.Event.{Event}
use Rattle.pg_perm.specs.declared.draft.MsgClass.{MsgClass}
use Rattle.pg_perm.specs.declared.draft.MsgClass.TheVariants.{Request, Forward, Reply}
use Rattle.pg_forms.specs.declared.line.Line.{Line}
use Rattle.pg_forms.specs.declared.line.Line.TheVariants.{Protocol, Cache, Dir, Message, Core, Take, Row, End}
use Rattle.pg_forms.specs.declared.line.CoreShape.{CoreShape}
use Rattle.pg_forms.specs.declared.line.CoreShape.TheVariants.{Hit, Ask, Leave}
use Rattle.pg_forms.specs.declared.line.RowShape.{RowShape}
use Rattle.pg_forms.specs.declared.line.RowShape.TheVariants as row
use Rattle.pg_perm.specs.Classes.{is_request, is_forward, is_reply}
use Rattle.pg_perm.specs.Drafts.{cache_names, dir_names, message_names, taken_names, rule_line_count}
use Rattle.pg_forms.specs.Reading.{◌>>=◌}

-- the number of a cache state that is declared
abbrev pub cache_number : Draft → List ℕ → Option ℕ
cache_number d w = number_of (cache_names d) w

-- the number of a directory state that is declared
abbrev pub dir_number : Draft → List ℕ → Option ℕ
dir_number d w = number_of (dir_names d) w

-- the number of a message that is declared in a class
unfoldable pub message_number : (MsgClass → Bool) → Draft → List ℕ → Option ℕ
message_number is_class d w = do
  n ← number_of (message_names d) w
  m ← slice_get d.messages n
  if is_class m.class then Some n else None

-- the reply of a core line, which may be AckCount
abbrev pub reply_name : Draft → List ℕ → Option ReplyName
reply_name d w = if bytes_eq w (codes "AckCount") then Some reply.AckCount else option_map reply.Reply (message_number is_reply d w)

-- a reply and a final state of a core line
unfoldable pub pair_of : Draft → List ℕ → List ℕ → Option Pair
pair_of d r f = do
  reply ← reply_name d r
  fin ← cache_number d f
  Some (record { reply = reply; fin = fin })

-- the replies and final states of a core line
abbrev pub pairs_of : Draft → List (List ℕ × List ℕ) → Option (List Pair)
pairs_of d [] = Some []
pairs_of d (p ∷ ps) = do
  pair ← pair_of d p.0 p.1
  more ← pairs_of d ps
  Some (pair ∷ more)

-- what stands after the event of a core line, in numbers
unfoldable pub core_form : Draft → CoreShape → Option CoreForm
core_form d (Hit None) = Some (form.Hit None)
core_form d (Hit (Some w)) = do
  next ← cache_number d w
  Some (form.Hit (Some next))
core_form d (Ask w ps) = do
  request ← message_number is_request d w
  pairs ← pairs_of d ps
  Some (form.Ask request pairs)
core_form d (Leave w) = do
  request ← message_number is_request d w
  Some (form.Leave request)

-- a core line in numbers
unfoldable pub core_of : Draft → ℕ → List ℕ → Event → CoreShape → Option CoreLine
core_of d n w event shape = do
  state ← cache_number d w
  form ← core_form d shape
  Some (record { line = n; state = state; event = event; form = form })

-- a draft with a core line last
abbrev pub put_core : Draft → Option CoreLine → Option Draft
put_core d core = option_map (λ c. record d { cores = d.cores ++ c ∷ [] }) core

-- the numbers of cache states
abbrev pub states_of : Draft → List (List ℕ) → Option (List ℕ)
states_of d [] = Some []
states_of d (w ∷ ws) = do
  state ← cache_number d w
  more ← states_of d ws
  Some (state ∷ more)

-- a draft with a dir line last, whose states are none where one isn't declared
abbrev pub put_dir : Draft → ℕ → List ℕ → DirKind → Option (List ℕ) → Option Draft
put_dir d n name kind beside =
    option_map (λ states. record d { dirs = d.dirs ++ record { line = n; name = name; kind = kind; beside = states } ∷ [] }) beside

-- the reply of a take line, where it has one
unfoldable pub take_reply : Draft → Option (List ℕ) → Option (Option ℕ)
take_reply d None = Some None
take_reply d (Some w) = do
  reply ← message_number is_reply d w
  Some (Some reply)

-- a take line in numbers
unfoldable pub take_of : Draft → ℕ → List ℕ → List ℕ → Option (List ℕ) → List ℕ → Option TakeLine
take_of d n w f r x = do
  state ← cache_number d w
  forward ← message_number is_forward d f
  reply ← take_reply d r
  next ← cache_number d x
  Some (record { line = n; state = state; forward = forward; reply = reply; next = next })

-- a draft with a take line last
abbrev pub put_take : Draft → Option TakeLine → Option Draft
put_take d take = option_map (λ t. record d { takes = d.takes ++ t ∷ [] }) take

-- what a message of this class does as the action of a row
abbrev pub action_by_class : ℕ → MsgClass → Option Action
action_by_class n (Request class) = None
action_by_class n (Forward class) = Some (action.Forward n)
action_by_class n Reply = Some (action.Reply n)

-- the action of a row line: `count`, a reply or a forward
unfoldable pub action_of : Draft → List ℕ → Option Action
action_of d w = if bytes_eq w (codes "count") then Some action.Count else do
  n ← number_of (message_names d) w
  m ← slice_get d.messages n
  action_by_class n m.class

-- what stands after the state of a row line, in numbers
unfoldable pub row_form : Draft → RowShape → Option RowForm
row_form d (row.Ask w sender a) = do
  request ← message_number is_request d w
  action ← action_of d a
  Some (rows.Ask request sender action)
row_form d (row.Evict sender others) = Some (rows.Evict sender others)

-- a row line in numbers
unfoldable pub row_of : Draft → ℕ → List ℕ → RowShape → List ℕ → Option RowLine
row_of d n w shape x = do
  dir ← dir_number d w
  form ← row_form d shape
  next ← dir_number d x
  Some (record { line = n; dir = dir; form = form; next = next })

-- a draft with a row line last
abbrev pub put_row : Draft → Option RowLine → Option Draft
put_row d row = option_map (λ r. record d { rows = d.rows ++ r ∷ [] }) row

-- a draft with line n added; none where the line uses a name that is not declared as what its place asks for
abbrev pub with_line : Draft → ℕ → Line → Option Draft
with_line d n (Protocol name) = Some (record d { line = n; name = name })
with_line d n (Cache name role perm clean) =
    Some (record d { caches = d.caches ++ record { line = n; name = name; role = role; perm = perm; clean = clean } ∷ [] })
with_line d n (Dir name kind beside) = put_dir d n name kind (states_of d beside)
with_line d n (Message name class) = Some (record d { messages = d.messages ++ record { line = n; name = name; class = class } ∷ [] })
with_line d n (Core state event shape) = put_core d (core_of d n state event shape)
with_line d n (Take state forward reply next) = put_take d (take_of d n state forward reply next)
with_line d n (Row dir shape next) = put_row d (row_of d n dir shape next)
with_line d n End = Some d

-- whether a name that the line declares is taken in its space
abbrev pub is_taken : Draft → Line → Bool
is_taken d (Protocol name) = false
is_taken d (Cache name role perm clean) = is_some (cache_number d name)
is_taken d (Dir name kind beside) = is_some (dir_number d name)
is_taken d (Message name class) = list_any (bytes_eq name) taken_names || is_some (number_of (message_names d) name)
is_taken d (Core state event shape) = false
is_taken d (Take state forward reply next) = false
is_taken d (Row dir shape next) = false
is_taken d End = false

-- whether there are as many lines of this kind as there may be: 16 cache lines, 16 dir lines, 32 messages, 512 core, take and row lines
abbrev pub is_full : Draft → Line → Bool
is_full d (Protocol name) = false
is_full d (Cache name role perm clean) = nat_le 16 (length d.caches)
is_full d (Dir name kind beside) = nat_le 16 (length d.dirs)
is_full d (Message name class) = nat_le 32 (length d.messages)
is_full d (Core state event shape) = nat_le 512 (rule_line_count d)
is_full d (Take state forward reply next) = nat_le 512 (rule_line_count d)
is_full d (Row dir shape next) = nat_le 512 (rule_line_count d)
is_full d End = false

-- the draft of no lines; the protocol line gives it a line and a name
abbrev pub no_draft : Draft
no_draft = record { line = 0; name = codes "none"; caches = []; dirs = []; messages = []; cores = []; takes = []; rows = [] }

-- a draft that is there is one that a line adds to, where there aren't as many lines of its kind as there may be
abbrev pub draft_within_limits : Option Draft → Bool → Result Draft Rule
draft_within_limits None is_over = Err F4
draft_within_limits (Some more) is_over = if is_over then Err F5 else Ok more

-- the draft with line n, or the first of the rules F3 to F5 that the line breaks
abbrev pub draft_with_line : Draft → ℕ → Line → Result Draft Rule
draft_with_line d n l = if is_taken d l then Err F3 else draft_within_limits (with_line d n l) (is_full d l)
