-- The text of a draft.
use Rattle.std.specs.Prelude.{ℕ, ◌+◌, List, [], ◌∷◌, ◌++◌, map, length, codes}
use Rattle.std.specs.Option.{option_map}
use Rattle.pg_perm.specs.declared.draft.Draft.{Draft}
use Rattle.pg_perm.specs.declared.draft.CacheLine.{CacheLine}
use Rattle.pg_perm.specs.declared.draft.DirLine.{DirLine}
use Rattle.pg_perm.specs.declared.draft.MsgLine.{MsgLine}
use Rattle.pg_perm.specs.declared.draft.CoreLine.{CoreLine}
use Rattle.pg_perm.specs.declared.draft.TakeLine.{TakeLine}
use Rattle.pg_perm.specs.declared.draft.RowLine.{RowLine}
use Rattle.pg_perm.specs.declared.draft.Pair.{Pair}
use Rattle.pg_perm.specs.declared.draft.ReplyName.{ReplyName}
use Rattle.pg_perm.specs.declared.draft.ReplyName.TheVariants as reply
use Rattle.pg_perm.specs.declared.draft.CoreForm.{CoreForm}
use Rattle.pg_perm.specs.declared.draft.CoreForm.TheVariants as form
use Rattle.pg_perm.specs.declared.draft.RowForm.{RowForm}
use Rattle.pg_perm.specs.declared.draft.RowForm.TheVariants as rows
use Rattle.pg_perm.specs.declared.draft.Action.{Action}
use Rattle.pg_perm.specs.declared.draft.Action.TheVariants as action
use Rattle.pg_perm.specs.Words.{cache_name, dir_name, message_name}
use Rattle.pg_lines.specs.Lines.{text_of}
use Rattle.pg_forms.specs.declared.line.Line.{Line}
use Rattle.pg_forms.specs.declared.line.Line.TheVariants.{Protocol, Cache, Dir, Message, Core, Take, Row, End}
use Rattle.pg_forms.specs.declared.line.CoreShape.{CoreShape}
use Rattle.pg_forms.specs.declared.line.CoreShape.TheVariants.{Hit, Ask, Leave}
use Rattle.pg_forms.specs.declared.line.RowShape.{RowShape}
use Rattle.pg_forms.specs.declared.line.RowShape.TheVariants as row
use Rattle.pg_forms.specs.Forms.{spelling}

abbrev pub reply_word : Draft → ReplyName → List ℕ
reply_word d reply.AckCount = codes "AckCount"
reply_word d (reply.Reply m) = message_name d m

abbrev pub pair_words : Draft → Pair → List ℕ × List ℕ
pair_words d p = (reply_word d p.reply, cache_name d p.fin)

abbrev pub core_shape : Draft → CoreForm → CoreShape
core_shape d (form.Hit next) = Hit (option_map (cache_name d) next)
core_shape d (form.Ask request pairs) = Ask (message_name d request) (map (pair_words d) pairs)
core_shape d (form.Leave request) = Leave (message_name d request)

abbrev pub action_word : Draft → Action → List ℕ
action_word d (action.Reply m) = message_name d m
action_word d (action.Forward m) = message_name d m
action_word d action.Count = codes "count"

abbrev pub row_shape_of : Draft → RowForm → RowShape
row_shape_of d (rows.Ask request who act) = row.Ask (message_name d request) who (action_word d act)
row_shape_of d (rows.Evict who left) = row.Evict who left

abbrev pub cache_line_of : CacheLine → Line
cache_line_of c = Cache c.name c.role c.perm c.clean

abbrev pub dir_line_of : Draft → DirLine → Line
dir_line_of d s = Dir s.name s.kind (map (cache_name d) s.beside)

abbrev pub message_line_of : MsgLine → Line
message_line_of m = Message m.name m.class

abbrev pub core_line_of : Draft → CoreLine → Line
core_line_of d c = Core (cache_name d c.state) c.event (core_shape d c.form)

abbrev pub take_line_of : Draft → TakeLine → Line
take_line_of d t = Take (cache_name d t.state) (message_name d t.forward) (option_map (message_name d) t.reply) (cache_name d t.next)

abbrev pub row_line_of : Draft → RowLine → Line
row_line_of d r = Row (dir_name d r.dir) (row_shape_of d r.form) (dir_name d r.next)

-- the lines of a draft, in the order of a text
abbrev pub lines_in : Draft → List Line
lines_in d = Protocol d.name ∷ map cache_line_of d.caches ++ map (dir_line_of d) d.dirs ++ map message_line_of d.messages
    ++ map (core_line_of d) d.cores ++ map (take_line_of d) d.takes ++ map (row_line_of d) d.rows ++ End ∷ []

-- the text of a draft
abbrev pub draft_text : Draft → List ℕ
draft_text d = text_of (map spelling (lines_in d))

-- the elements numbered from n on
abbrev pub numbered_elements : {A : Type 0} → (ℕ → A → A) → ℕ → List A → List A
numbered_elements with_number n [] = []
numbered_elements with_number n (x ∷ xs) = with_number n x ∷ numbered_elements with_number (n + 1) xs

-- the draft whose lines have the numbers that they have in its text
abbrev pub renumbered_draft : Draft → Draft
renumbered_draft d =
    let dirs_from : ℕ = 2 + length d.caches in
    let messages_from : ℕ = dirs_from + length d.dirs in
    let cores_from : ℕ = messages_from + length d.messages in
    let takes_from : ℕ = cores_from + length d.cores in
    let rows_from : ℕ = takes_from + length d.takes in
    record {
      line = 1;
      name = d.name;
      caches = numbered_elements (λ n (c : CacheLine). record c { line = n }) 2 d.caches;
      dirs = numbered_elements (λ n (s : DirLine). record s { line = n }) dirs_from d.dirs;
      messages = numbered_elements (λ n (m : MsgLine). record m { line = n }) messages_from d.messages;
      cores = numbered_elements (λ n (c : CoreLine). record c { line = n }) cores_from d.cores;
      takes = numbered_elements (λ n (t : TakeLine). record t { line = n }) takes_from d.takes;
      rows = numbered_elements (λ n (r : RowLine). record r { line = n }) rows_from d.rows;
    }
