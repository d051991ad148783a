-- The rows of the directory's table.
use Rattle.std.proofs.Common.{◌≡◌, ◌↔◌, ℕ, Bool, true, false, [], ◌∷◌, filter, Some, None, refl, sym, ap, ◌∙◌}
use Rattle.std.specs.Prelude.{slice_get}
use Rattle.std.specs.List.{list_any}
use Rattle.pg_perm.specs.declared.draft.Draft.{Draft}
use Rattle.pg_shape.proofs.Searches.{not_both}
use Rattle.pg_table.specs.declared.directory.DirInput.{DirInput}
use Rattle.pg_table.specs.declared.directory.DirAct.TheVariants as act
use Rattle.pg_table.specs.Directory.{dir_descs, dir_inputs, DirChoice, dir_choice}
use Rattle.pg_table.specs.Stalls.{is_asked_busy, is_dir_stall}
use Rattle.pg_table.specs.Tables.{DirRow, DirTableState, same_dir_desc, has_dir_input, dir_table_row, dir_table}
use Rattle.pg_table.proofs.ControllerRows.{row_chosen, input_chosen}
use Rattle.pg_table.proofs.DirFound.{dir_rows_for_input}
use Rattle.pg_table.proofs.DirStalls.{dir_stalls_when_busy, others_go_on}

-- The rows for an input

pub one_row : (d : Draft) (n : ℕ) (s : DirTableState) (i : DirInput) (c : DirChoice) → slice_get (dir_table d) n ≡ Some s → dir_choice d s.desc i ≡ Some c
    → filter (λ r. has_dir_input r.inputs i) s.rows ≡ dir_table_row (dir_descs d) (record { input = i; choice = c }) ∷ []
one_row d n s i c h e = dir_rows_for_input d n s i (Some c) h e

pub no_row : (d : Draft) (n : ℕ) (s : DirTableState) (i : DirInput) → slice_get (dir_table d) n ≡ Some s → dir_choice d s.desc i ≡ None
    → filter (λ r. has_dir_input r.inputs i) s.rows ≡ []
no_row d n s i h e = dir_rows_for_input d n s i None h e

pub one_input : (d : Draft) (n k : ℕ) (s : DirTableState) (r : DirRow) → slice_get (dir_table d) n ≡ Some s → slice_get s.rows k ≡ Some r
    → (i : DirInput) × (r.inputs ≡ i ∷ [])
one_input d n k s r h g =
    let (i, c, is, chose, acts) = row_chosen same_dir_desc dir_inputs (dir_choice d) (dir_descs d) n k s r h g in
    (i, is)

-- What waits

-- a row for an input does what the directory chooses there
does_chosen : (d : Draft) (n k : ℕ) (s : DirTableState) (r : DirRow) (i : DirInput) → slice_get (dir_table d) n ≡ Some s → slice_get s.rows k ≡ Some r → r.inputs ≡ i ∷ []
    → (c : DirChoice) × (dir_choice d s.desc i ≡ Some c) × (r.acts ≡ c.acts)
does_chosen d n k s r i h g e = input_chosen (dir_choice d s.desc) r i (row_chosen same_dir_desc dir_inputs (dir_choice d) (dir_descs d) n k s r h g) e

-- where a row lets a request wait, it does nothing else
pub busy_stalls : (d : Draft) (n k : ℕ) (s : DirTableState) (r : DirRow) (i : DirInput) → slice_get (dir_table d) n ≡ Some s → slice_get s.rows k ≡ Some r
    → r.inputs ≡ i ∷ [] → ((r.acts ≡ act.Stall ∷ []) ↔ (is_asked_busy s.desc i ≡ true))
busy_stalls d n k s r i h g e =
    let (c, chose, acts) = does_chosen d n k s r i h g e in
    let (there, back) = dir_stalls_when_busy d s.desc i c chose in
    (λ waits. there (sym acts ∙ waits), λ asked. acts ∙ back asked)

pub busy_has_stall : (d : Draft) (n k : ℕ) (s : DirTableState) (r : DirRow) (i : DirInput) → slice_get (dir_table d) n ≡ Some s → slice_get s.rows k ≡ Some r
    → r.inputs ≡ i ∷ [] → ((list_any is_dir_stall r.acts ≡ true) ↔ (is_asked_busy s.desc i ≡ true))
busy_has_stall d n k s r i h g e = (λ waits. at waits (is_asked_busy s.desc i) refl, λ asked. ap (list_any is_dir_stall) ((busy_stalls d n k s r i h g e).1 asked))
  where
    at : list_any is_dir_stall r.acts ≡ true → (b : Bool) → is_asked_busy s.desc i ≡ b → b ≡ true
    at waits true asked = refl
    at waits false other =
        let (c, chose, acts) = does_chosen d n k s r i h g e in
        absurd (not_both (list_any is_dir_stall r.acts) waits (ap (list_any is_dir_stall) acts ∙ others_go_on d s.desc i c chose other))
