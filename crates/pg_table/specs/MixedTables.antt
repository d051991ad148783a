-- Tables of a cache controller that let some later forwards wait and take others at once.
use Rattle.std.specs.Prelude.{◌≡◌, true, List, map, Some}
use Rattle.std.specs.List.{IsDistinct}
use Rattle.pg_perm.specs.declared.kinds.Mode.{Mode}
use Rattle.pg_perm.specs.declared.kinds.Mode.TheVariants as mode
use Rattle.pg_perm.specs.declared.draft.Draft.{Draft}
use Rattle.pg_table.specs.declared.cache.Desc.{Desc}
use Rattle.pg_table.specs.declared.cache.Input.{Input}
use Rattle.pg_table.specs.Controllers.{rows_by, state_by, table_by}
use Rattle.pg_table.specs.Descriptors.{descs}
use Rattle.pg_table.specs.Choices.{Choice, choices}
use Rattle.pg_table.specs.GeneratedStates.{inputs, choice_of_mode, GenRow, GenState}
use Rattle.pg_table.specs.Tables.{TableState, same_desc}
use Rattle.pg_table.specs.Sound.{is_among}

-- the rows of a state, where it is picked for each state and input which of two choices is made
abbrev pub mixed_rows : Draft → (Desc → Input → Mode) → Desc → List GenRow
mixed_rows d pick s = rows_by (λ i. choice_of_mode (pick s i) (choices d s i)) (inputs d)

-- these states with their rows
abbrev pub mixed_states : Draft → (Desc → Input → Mode) → List Desc → List GenState
mixed_states d pick states = map (state_by (λ s i. choice_of_mode (pick s i) (choices d s i)) (inputs d)) states

-- the table of these states, in which they have numbers
abbrev pub mixed_table : Draft → (Desc → Input → Mode) → List Desc → List TableState
mixed_table d pick states = table_by same_desc (λ s i. choice_of_mode (pick s i) (choices d s i)) (inputs d) states

-- these are the states of a mixed table
pub record IsMix (d : Draft) (pick : Desc → Input → Mode) (states : List Desc) : Type 0 where
  -- no state stands twice
  pub distinct : IsDistinct same_desc states
  -- each is a state of the deferring mode, and each state of the stalling mode is there
  pub known : (s : Desc) → is_among states s ≡ true → is_among (descs d mode.Defer) s ≡ true
  pub needed : (s : Desc) → is_among (descs d mode.Stall) s ≡ true → is_among states s ≡ true
  -- each row leads to one of them
  pub onward : (s : Desc) (i : Input) (c : Choice) → is_among states s ≡ true → choice_of_mode (pick s i) (choices d s i) ≡ Some c → is_among states c.next ≡ true
