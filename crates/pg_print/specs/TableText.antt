-- The text of the tables of both controllers, as lines of words.
use Rattle.std.specs.Prelude.{ℕ, List, [], ◌∷◌, ◌++◌, map, codes, slice_get}
use Rattle.std.specs.List.{flat_map}
use Rattle.std.specs.Option.{option_map_or}
use Rattle.pg_perm.specs.declared.draft.Draft.{Draft}
use Rattle.pg_perm.specs.Words.{mode_word, name_of}
use Rattle.pg_lines.specs.Lines.{text_of}
use Rattle.pg_table.specs.declared.cache.Desc.{Desc}
use Rattle.pg_table.specs.declared.cache.Input.{Input}
use Rattle.pg_table.specs.declared.cache.Act.{Act}
use Rattle.pg_table.specs.declared.directory.DirDesc.{DirDesc}
use Rattle.pg_table.specs.declared.directory.DirInput.{DirInput}
use Rattle.pg_table.specs.declared.directory.DirAct.{DirAct}
use Rattle.pg_table.specs.declared.table.ControllerRow.{ControllerRow}
use Rattle.pg_table.specs.declared.table.ControllerState.{ControllerState}
use Rattle.pg_table.specs.Tables.{Parts}
use Rattle.pg_print.specs.Names.{state_name, dir_state_name}
use Rattle.pg_print.specs.Words.{input_word, act_words, dir_input_word, dir_act_words}

-- Words

-- the words of the table of a controller
pub record Wording (D I A : Type 0) : Type 0 where
  -- before the name of a state, and before a row
  pub state : List ℕ
  pub row : List ℕ
  -- of states, inputs and acts
  pub name : Draft → D → List ℕ
  pub input : Draft → I → List ℕ
  pub act : Draft → A → List (List ℕ)

abbrev pub cache_wording : Wording Desc Input Act
cache_wording = record { state = codes "state"; row = codes "on"; name = state_name; input = input_word; act = act_words }

abbrev pub dir_wording : Wording DirDesc DirInput DirAct
dir_wording = record { state = codes "home"; row = codes "at"; name = dir_state_name; input = dir_input_word; act = dir_act_words }

-- The lines of a controller

-- a line for each name, after a word
abbrev pub name_lines : List ℕ → List (List ℕ) → List (List (List ℕ))
name_lines word names = map (λ name. word ∷ name ∷ []) names

-- the names of the states
abbrev pub names_of : {D I A : Type 0} → Wording D I A → Draft → List (ControllerState D I A) → List (List ℕ)
names_of w d states = map (λ s. w.name d s.desc) states

-- the line of a row for one of its inputs, in a table whose states have these names, and the state of the row this one
abbrev pub input_line : {D I A : Type 0} → Wording D I A → Draft → List (List ℕ) → List ℕ → ControllerRow I A → I → List (List ℕ)
input_line w d names name r i = w.row ∷ name ∷ w.input d i ∷ flat_map (w.act d) r.acts ++ codes "->" ∷ name_of names r.next ∷ []

abbrev pub row_lines : {D I A : Type 0} → Wording D I A → Draft → List (List ℕ) → List ℕ → ControllerRow I A → List (List (List ℕ))
row_lines w d names name r = map (input_line w d names name r) r.inputs

abbrev pub state_lines : {D I A : Type 0} → Wording D I A → Draft → List (List ℕ) → ControllerState D I A → List (List (List ℕ))
state_lines w d names s = flat_map (row_lines w d names (w.name d s.desc)) s.rows

-- those of the state with this number
abbrev pub lines_at : {D I A : Type 0} → Wording D I A → Draft → List (List ℕ) → List (ControllerState D I A) → ℕ → List (List (List ℕ))
lines_at w d names states n = option_map_or (state_lines w d names) (slice_get states n) []

-- the names of the states, and then the rows state by state
abbrev pub controller_lines : {D I A : Type 0} → Wording D I A → Draft → List (ControllerState D I A) → List (List (List ℕ))
controller_lines w d states = name_lines w.state (names_of w d states) ++ flat_map (state_lines w d (names_of w d states)) states

-- Both controllers

abbrev pub table_lines : Parts → List (List (List ℕ))
table_lines t = (codes "table" ∷ t.protocol.name ∷ mode_word t.mode ∷ []) ∷ controller_lines cache_wording t.protocol t.cache
    ++ controller_lines dir_wording t.protocol t.home ++ (codes "end" ∷ []) ∷ []

-- the text of the tables of both controllers
abbrev pub table_text : Parts → List ℕ
table_text t = text_of (table_lines t)
