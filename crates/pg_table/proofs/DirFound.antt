-- The rows of the directory's table for an input, and what is found there.
use Rattle.std.proofs.Common.{◌≡◌, ℕ, map, Option, Some, None, refl, sym, subst, ap, ◌∙◌}
use Rattle.std.specs.Prelude.{slice_get}
use Rattle.std.specs.List.{IsDistinct}
use Rattle.std.specs.Option.{option_map}
use Rattle.pg_perm.specs.declared.draft.Draft.{Draft}
use Rattle.pg_perm.specs.Drafts.{IsWellFormed}
use Rattle.pg_table.specs.declared.directory.DirInput.{DirInput}
use Rattle.pg_table.specs.Controllers.{row_for, rows_for_by}
use Rattle.pg_table.specs.Directory.{dir_descs, dir_inputs, DirChoice, dir_choice}
use Rattle.pg_table.specs.Tables.{DirRow, DirTableState, same_dir_input, same_dir_desc, find_dir_row, dir_number_of, dir_table_row, dir_table}
use Rattle.pg_table.proofs.Same.{dir_input_same}
use Rattle.pg_table.proofs.Numbers.{apart_distinct, dir_number_of_at}
use Rattle.pg_table.proofs.ControllerRows.{found_row, state_listed, state_whole, one_row}
use Rattle.pg_table.proofs.DirRows.{choice_leads}
use Rattle.pg_table.proofs.DirCases.{choice_listed}

inputs_apart : IsDistinct same_dir_input dir_inputs
inputs_apart = apart_distinct same_dir_input dir_inputs refl

-- a state of the directory has for an input the row of its choice, and no other
pub dir_rows_for_input : (d : Draft) (n : ℕ) (s : DirTableState) (i : DirInput) (o : Option DirChoice) → slice_get (dir_table d) n ≡ Some s → dir_choice d s.desc i ≡ o
    → rows_for_by same_dir_input i s.rows ≡ map (dir_table_row (dir_descs d)) (row_for i o)
dir_rows_for_input d n s i o h e =
    let (x, place, is) = state_whole same_dir_desc (dir_choice d) dir_inputs (dir_descs d) n s h in
    subst (λ (s : DirTableState). rows_for_by same_dir_input i s.rows ≡ map (dir_table_row (dir_descs d)) (row_for i (dir_choice d s.desc i))) is
    (one_row same_dir_input dir_input_same same_dir_desc (dir_descs d) i (dir_choice d x) dir_inputs inputs_apart (choice_listed d x i))
    ∙ ap (λ o. map (dir_table_row (dir_descs d)) (row_for i o)) e

-- where the directory makes a choice, a row is found that does it and leads to the state of the table that it leads to
pub dir_finds : (d : Draft) (n : ℕ) (s : DirTableState) (i : DirInput) (c : DirChoice) → IsWellFormed d → slice_get (dir_table d) n ≡ Some s
    → dir_choice d s.desc i ≡ Some c
    → (r : DirRow) × (find_dir_row (dir_table d) n i ≡ Some r) × (r.acts ≡ c.acts) × (option_map (λ s. s.desc) (slice_get (dir_table d) r.next) ≡ Some c.next)
dir_finds d n s i c w get e =
    let (x, place, is) = state_whole same_dir_desc (dir_choice d) dir_inputs (dir_descs d) n s get in
    let chose : dir_choice d x i ≡ Some c = subst (λ (s : DirTableState). dir_choice d s.desc i ≡ Some c) (sym is) e in
    let leads = choice_leads d w n x i c place chose in (
      dir_table_row (dir_descs d) (record { input = i; choice = c }),
      found_row same_dir_input (dir_table d) n s i get ∙ ap (λ rows. slice_get rows 0) (dir_rows_for_input d n s i (Some c) get e),
      refl,
      state_listed same_dir_desc (dir_choice d) dir_inputs (dir_descs d) (dir_descs d) (dir_number_of (dir_descs d) c.next) ∙ dir_number_of_at (dir_descs d) c.next leads,
    )

-- where it makes none, no row is found
pub dir_finds_none : (d : Draft) (n : ℕ) (s : DirTableState) (i : DirInput) → slice_get (dir_table d) n ≡ Some s → dir_choice d s.desc i ≡ None
    → find_dir_row (dir_table d) n i ≡ None
dir_finds_none d n s i get e = found_row same_dir_input (dir_table d) n s i get ∙ ap (λ rows. slice_get rows 0) (dir_rows_for_input d n s i None get e)
