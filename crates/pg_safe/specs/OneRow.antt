-- One row for an input.
use Rattle.std.specs.List.{list_any}
use Rattle.std.specs.Prelude.{true, filter, ℕ, ◌≡◌, List, [], ◌∷◌, slice_get, Some}
use Rattle.pg_table.specs.declared.cache.Desc.{Desc}
use Rattle.pg_table.specs.declared.cache.Input.{Input}
use Rattle.pg_table.specs.Tables.{Row}
use Rattle.pg_table.specs.Tables.{TableState}
use Rattle.pg_table.specs.Sound.{rows_for}
use Rattle.pg_perm.specs.declared.draft.Draft.{Draft}
use Rattle.pg_table.specs.declared.directory.DirDesc.{DirDesc}
use Rattle.pg_table.specs.declared.directory.DirInput.{DirInput}
use Rattle.pg_table.specs.Tables.{DirRow}
use Rattle.pg_table.specs.Tables.{DirTableState}
use Rattle.pg_table.specs.Directory.{dir_descs}
use Rattle.pg_table.specs.Tables.{same_dir_desc, has_dir_input, dir_table}
use Rattle.pg_controllers.specs.Worlds.{World}

-- a state of the table is this one, and it has one row for the input
pub record HasOneRow (t : List TableState) (x : Desc) (i : Input) : Type 0 where
  pub place : ℕ
  pub state : TableState
  pub stands : slice_get t place ≡ Some state
  pub is_it : state.desc ≡ x
  pub row : Row
  pub one : rows_for i state.rows ≡ row ∷ []

-- it is a state of the directory's table
abbrev pub HasDirState : Draft → World → Type 0
HasDirState d w = list_any (same_dir_desc w.directory.desc) (dir_descs d) ≡ true

-- a state of the directory's table has one row for an input at which there is a choice
pub record HasDirRow (d : Draft) (x : DirDesc) (i : DirInput) : Type 0 where
  pub place : ℕ
  pub state : DirTableState
  pub stands : slice_get (dir_table d) place ≡ Some state
  pub is_it : state.desc ≡ x
  pub row : DirRow
  pub one : filter (λ r. has_dir_input r.inputs i) state.rows ≡ row ∷ []
