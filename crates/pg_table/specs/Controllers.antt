-- What a controller does in a state at an input, its rows, and its table as contracts see it, whatever its states, inputs and acts are.
use Rattle.std.specs.Prelude.{ℕ, Bool, List, [], ◌∷◌, ◌++◌, map, filter, Option, Some, None, slice_get, find, position, unwrap_or}
use Rattle.std.specs.List.{list_any, flat_map}
use Rattle.std.specs.Option.{option_map, option_and_then}
use Rattle.pg_table.specs.declared.table.ControllerRow.{ControllerRow}
use Rattle.pg_table.specs.declared.table.ControllerState.{ControllerState}

-- What is done

-- the acts that are done at an input, and the state that they lead to
pub record ControllerChoice (D A : Type 0) : Type 0 where
  pub acts : List A
  pub next : D

-- an input, and what is done there
pub record GeneratedRow (D I A : Type 0) : Type 0 where
  pub input : I
  pub choice : ControllerChoice D A

-- a state with its rows
pub record GeneratedState (D I A : Type 0) : Type 0 where
  pub desc : D
  pub rows : List (GeneratedRow D I A)

-- the row of an input, where there is a choice
abbrev pub row_for : {D I A : Type 0} → I → Option (ControllerChoice D A) → List (GeneratedRow D I A)
row_for i None = []
row_for i (Some c) = record { input = i; choice = c } ∷ []

-- the rows of the choices that are made at these inputs
abbrev pub rows_by : {D I A : Type 0} → (I → Option (ControllerChoice D A)) → List I → List (GeneratedRow D I A)
rows_by choose inputs = flat_map (λ i. row_for i (choose i)) inputs

-- a state with the rows of the choices that are made there at these inputs
abbrev pub state_by : {D I A : Type 0} → (D → I → Option (ControllerChoice D A)) → List I → D → GeneratedState D I A
state_by choose inputs s = record { desc = s; rows = rows_by (choose s) inputs }

-- Tables

abbrev pub has_input_by : {I : Type 0} → (I → I → Bool) → List I → I → Bool
has_input_by same inputs i = list_any (λ j. same j i) inputs

-- the rows for an input
abbrev pub rows_for_by : {I A : Type 0} → (I → I → Bool) → I → List (ControllerRow I A) → List (ControllerRow I A)
rows_for_by same i rows = filter (λ r. has_input_by same r.inputs i) rows

-- the first row of a state that has the input
abbrev pub find_row_by : {D I A : Type 0} → (I → I → Bool) → List (ControllerState D I A) → ℕ → I → Option (ControllerRow I A)
find_row_by same states n i = option_and_then (λ s. find (λ r. has_input_by same r.inputs i) s.rows) (slice_get states n)

-- the states with this row last among those of the last state
abbrev pub with_row : {D I A : Type 0} → List (ControllerState D I A) → ControllerRow I A → List (ControllerState D I A)
with_row [] r = []
with_row (s ∷ []) r = record s { rows = s.rows ++ r ∷ [] } ∷ []
with_row (s ∷ t ∷ ss) r = s ∷ with_row (t ∷ ss) r

-- the state that a number is of
abbrev pub state_at : {D I A : Type 0} → List (ControllerState D I A) → ℕ → Option D
state_at t n = option_map (λ s. s.desc) (slice_get t n)

-- Generated tables, in which states have numbers

-- a state is among these
abbrev pub is_among_by : {D : Type 0} → (D → D → Bool) → List D → D → Bool
is_among_by same states s = list_any (same s) states

-- the number of a state: its place among all
abbrev pub number_by : {D : Type 0} → (D → D → Bool) → List D → D → ℕ
number_by same states s = unwrap_or (position (λ x. same x s) states) 0

abbrev pub table_row_by : {D I A : Type 0} → (D → D → Bool) → List D → GeneratedRow D I A → ControllerRow I A
table_row_by same states r = record { inputs = r.input ∷ []; acts = r.choice.acts; next = number_by same states r.choice.next }

abbrev pub table_state_by : {D I A : Type 0} → (D → D → Bool) → List D → GeneratedState D I A → ControllerState D I A
table_state_by same states s = record { desc = s.desc; rows = map (table_row_by same states) s.rows }

-- the table of these states, with the rows of the choices that are made in each of them at these inputs
abbrev pub table_by : {D I A : Type 0} → (D → D → Bool) → (D → I → Option (ControllerChoice D A)) → List I → List D → List (ControllerState D I A)
table_by same choose inputs states = map (table_state_by same states) (map (state_by choose inputs) states)
