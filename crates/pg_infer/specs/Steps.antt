-- The rows and the states of a table one by one, as they are put into it.
use Rattle.std.specs.Prelude.{Bool, List, Option}
use Rattle.std.specs.Option.{option_map}
use Rattle.pg_table.specs.declared.table.ControllerRow.{ControllerRow}
use Rattle.pg_table.specs.declared.table.ControllerState.{ControllerState}
use Rattle.pg_table.specs.Controllers.{ControllerChoice, state_by, table_row_by, table_state_by}

-- the row at an input, if that may come
abbrev pub row_at : {D I A : Type 0} → (D → D → Bool) → List D → (I → Option (ControllerChoice D A)) → I → Option (ControllerRow I A)
row_at same states choose i = option_map (λ c. table_row_by same states (record { input = i; choice = c })) (choose i)

-- a state with its rows
abbrev pub state_of : {D I A : Type 0} → (D → D → Bool) → List D → (D → I → Option (ControllerChoice D A)) → List I → D → ControllerState D I A
state_of same states choose inputs s = table_state_by same states (state_by choose inputs s)
