-- The table of names that is kept beside lines that declare names.
use Rattle.std.specs.Prelude.{ℕ, ◌≡◌, ◌≤◌, List, map, length}

-- the names are those that the lines declare, in their order, and there are few enough that 8 bits
-- number them
pub record AreNamed {T : Type 0} (name : T → List ℕ) (lines : List T) (names : List (List ℕ))
    : Type 0 where
  pub names_are : names ≡ map name lines
  pub few : length lines ≤ 256
