-- The numbers of texts in a list of names, each as its bytes.
use Rattle.std.specs.Prelude.{ℕ, suc, ◌≤◌, List, [], ◌∷◌, ◌++◌, Option, Some, None, is_some, length, bytes_eq, if◌then◌else◌}
use Rattle.std.specs.List.{IsDistinct}
use Rattle.std.specs.Option.{option_map}

-- the number of the text w: how many names stand before the first that is w
abbrev pub number_of : List (List ℕ) → List ℕ → Option ℕ
number_of [] w = None
number_of (n ∷ ns) w = if bytes_eq w n then Some 0 else option_map suc (number_of ns w)

-- the names after w is added: as they are where it has a number, and else with w last
abbrev pub with_name : List (List ℕ) → List ℕ → List (List ℕ)
with_name ns w = if is_some (number_of ns w) then ns else ns ++ w ∷ []

-- the names are distinct, and few enough that 16 bits count them
pub record AreNames (ns : List (List ℕ)) : Type 0 where
  pub distinct : IsDistinct bytes_eq ns
  pub few : length ns ≤ 65535
