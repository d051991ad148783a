-- The rows that a generated state has for an input: that of the choice which was made, and no other.
use Rattle.std.proofs.Common.{◌≡◌, ℕ, zero, suc, true, List, [], ◌∷◌, map, Some, refl, sym, ap}
use Rattle.std.specs.Prelude.{slice_get}
use Rattle.std.specs.List.{list_any}
use Rattle.std.proofs.lemmas.Option.{same_Some}
use Rattle.pg_perm.specs.declared.kinds.Mode.{Mode}
use Rattle.pg_perm.specs.declared.draft.Draft.{Draft}
use Rattle.pg_perm.specs.Drafts.{IsWellFormed}
use Rattle.pg_shape.specs.Shaped.{IsShaped}
use Rattle.pg_table.specs.declared.cache.Desc.{Desc}
use Rattle.pg_table.specs.declared.cache.Input.{Input}
use Rattle.pg_table.specs.Controllers.{row_for}
use Rattle.pg_table.specs.Choices.{Choice, choices}
use Rattle.pg_table.specs.GeneratedStates.{inputs, choice_of_mode, GenRow}
use Rattle.pg_table.specs.MixedTables.{mixed_rows}
use Rattle.pg_table.specs.Tables.{Row, same_input, same_desc, table_row}
use Rattle.pg_table.specs.Sound.{rows_for}
use Rattle.pg_table.proofs.Same.{input_same}
use Rattle.pg_table.proofs.ControllerRows.{one_row}
use Rattle.pg_table.proofs.Inputs.{choices_input}
use Rattle.pg_table.proofs.InputsApart.{inputs_distinct}

-- a state has for an input the row of its choice, and no other
pub rows_for_input : (d : Draft) (pick : Desc → Input → Mode) (ss : List Desc) (s : Desc) (i : Input) → IsWellFormed d → IsShaped d
    → rows_for i (map (table_row ss) (mixed_rows d pick s)) ≡ map (table_row ss) (row_for i (choice_of_mode (pick s i) (choices d s i)))
rows_for_input d pick ss s i w sh = one_row same_input input_same same_desc ss i (λ i. choice_of_mode (pick s i) (choices d s i)) (inputs d) (inputs_distinct d) (λ c. at (choices d s i) refl c)
  where
    at : (cs : List Choice) → choices d s i ≡ cs → (c : Choice) → choice_of_mode (pick s i) cs ≡ Some c → list_any (λ j. same_input j i) (inputs d) ≡ true
    at [] e c h = absurd cc
    at (a ∷ cs) e c h = choices_input d s i a cs w sh e

-- each row is for one input
pub row_single : (ss : List Desc) (rows : List GenRow) (k : ℕ) (r : Row) → slice_get (map (table_row ss) rows) k ≡ Some r → (i : Input) × (r.inputs ≡ i ∷ [])
row_single ss [] k r h = absurd cc
row_single ss (g ∷ rows) zero r h = (g.input, ap (λ (x : Row). x.inputs) (sym (same_Some (table_row ss g) r h)))
row_single ss (g ∷ rows) (suc k) r h = row_single ss rows k r h
