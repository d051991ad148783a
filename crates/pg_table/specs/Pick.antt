-- What a table of a cache controller picks in a state at an input.
use Rattle.std.specs.Prelude.{List, Option}
use Rattle.std.specs.Option.{option_map, option_and_then}
use Rattle.pg_table.specs.declared.cache.Desc.{Desc}
use Rattle.pg_table.specs.declared.cache.Input.{Input}
use Rattle.pg_table.specs.Controllers.{state_at}
use Rattle.pg_table.specs.Choices.{Choice}
use Rattle.pg_table.specs.Tables.{Row, TableState, number_of, find_row}
use Rattle.pg_table.specs.Sound.{states_of}

-- a row as a choice: what it does, and the state that its number is of
abbrev pub choice_in : List TableState → Row → Option Choice
choice_in t r = option_map (λ s. record { acts = r.acts; next = s }) (state_at t r.next)

-- what the table picks in a state at an input: the choice of the row that is found there, where there is one
abbrev pub pick : List TableState → Desc → Input → Option Choice
pick t s i = option_and_then (choice_in t) (find_row t (number_of (states_of t) s) i)
