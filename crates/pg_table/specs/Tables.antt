-- Tables of both controllers as contracts see them, as lists of states with their rows, and the row that a state has for an input.
use Rattle.std.specs.Prelude.{ℕ, Bool, List, Option}
use Rattle.pg_perm.specs.declared.kinds.Mode.{Mode}
use Rattle.pg_perm.specs.declared.draft.Draft.{Draft}
use Rattle.pg_table.specs.declared.cache.Desc.{Desc}
use Rattle.pg_table.specs.declared.cache.Input.{Input}
use Rattle.pg_table.specs.declared.cache.Act.{Act}
use Rattle.pg_table.specs.declared.directory.DirDesc.{DirDesc}
use Rattle.pg_table.specs.declared.directory.DirInput.{DirInput}
use Rattle.pg_table.specs.declared.directory.DirAct.{DirAct}
use Rattle.pg_table.specs.declared.table.ControllerRow.{ControllerRow}
use Rattle.pg_table.specs.declared.table.ControllerState.{ControllerState}
use Rattle.pg_table.specs.contracts.cache.DescPartialEq.TheImpl.{ghosts as of_desc}
use Rattle.pg_table.specs.contracts.cache.InputPartialEq.TheImpl.{ghosts as of_input}
use Rattle.pg_table.specs.contracts.directory.DirDescPartialEq.TheImpl.{ghosts as of_dir_desc}
use Rattle.pg_table.specs.contracts.directory.DirInputPartialEq.TheImpl.{ghosts as of_dir_input}
use Rattle.pg_table.specs.Controllers.{has_input_by, find_row_by, number_by, table_row_by, table_state_by, table_by}
use Rattle.pg_table.specs.Descriptors.{descs}
use Rattle.pg_table.specs.Choices.{choices}
use Rattle.pg_table.specs.GeneratedStates.{inputs, choice_of_mode, GenRow, GenState}
use Rattle.pg_table.specs.Directory.{DirGenRow, DirGenState, dir_descs, dir_inputs, dir_choice}

-- Caches

abbrev pub Row : Type 0
Row = ControllerRow Input Act

abbrev pub TableState : Type 0
TableState = ControllerState Desc Input Act

abbrev pub same_input : Input → Input → Bool
same_input = of_input.eq

abbrev pub has_input : List Input → Input → Bool
has_input = has_input_by same_input

-- the first row of a state that has the input
abbrev pub find_row : List TableState → ℕ → Input → Option Row
find_row = find_row_by same_input

abbrev pub same_desc : Desc → Desc → Bool
same_desc = of_desc.eq

-- the number of a state: its place among all
abbrev pub number_of : List Desc → Desc → ℕ
number_of = number_by same_desc

abbrev pub table_row : List Desc → GenRow → Row
table_row = table_row_by same_desc

abbrev pub table_state : List Desc → GenState → TableState
table_state = table_state_by same_desc

-- the generated table of a cache controller
abbrev pub cache_table : Draft → Mode → List TableState
cache_table d m = table_by same_desc (λ s i. choice_of_mode m (choices d s i)) (inputs d) (descs d m)

-- The directory

abbrev pub DirRow : Type 0
DirRow = ControllerRow DirInput DirAct

abbrev pub DirTableState : Type 0
DirTableState = ControllerState DirDesc DirInput DirAct

abbrev pub same_dir_input : DirInput → DirInput → Bool
same_dir_input = of_dir_input.eq

abbrev pub has_dir_input : List DirInput → DirInput → Bool
has_dir_input = has_input_by same_dir_input

abbrev pub find_dir_row : List DirTableState → ℕ → DirInput → Option DirRow
find_dir_row = find_row_by same_dir_input

abbrev pub same_dir_desc : DirDesc → DirDesc → Bool
same_dir_desc = of_dir_desc.eq

abbrev pub dir_number_of : List DirDesc → DirDesc → ℕ
dir_number_of = number_by same_dir_desc

abbrev pub dir_table_row : List DirDesc → DirGenRow → DirRow
dir_table_row = table_row_by same_dir_desc

abbrev pub dir_table_state : List DirDesc → DirGenState → DirTableState
dir_table_state = table_state_by same_dir_desc

-- the generated table of the directory controller
abbrev pub dir_table : Draft → List DirTableState
dir_table d = table_by same_dir_desc (dir_choice d) dir_inputs (dir_descs d)

-- Tables of both controllers

pub record Parts : Type 0 where
  pub protocol : Draft
  pub mode : Mode
  pub cache : List TableState
  pub home : List DirTableState

-- the generated tables of a protocol
abbrev pub generated_tables : Draft → Mode → Parts
generated_tables d m = record { protocol = d; mode = m; cache = cache_table d m; home = dir_table d }
