-- Small histories, to try the definitions on.
use Rattle.std.specs.Prelude.{ℕ, List, [], ◌∷◌}
use Rattle.pg_bells.specs.declared.bell.Bell.{Bell}

abbrev pub bell : ℕ → ℕ → ℕ → Bell
bell core serial block = record { core = core; serial = serial; block = block }

-- core 0 rings for block 3, core 1 for block 5, core 0 for block 4
abbrev pub three : List Bell
three = bell 0 0 3 ∷ bell 1 0 5 ∷ bell 0 1 4 ∷ []
