-- What adding a text to a list of names means.
use Rattle.std.specs.Prelude.{◌≡◌, ℕ, List, [], ◌∷◌, ◌++◌, Some, None, length}
use Rattle.pg_names.specs.Number.{number_of}
use Rattle.pg_names.specs.declared.names.Added.{Added}
use Rattle.pg_names.specs.declared.names.Added.TheVariants.{There, New}

-- the number that the answer gives
abbrev pub number_in : Added → ℕ
number_in (There n) = n
number_in (New n) = n

-- adding w to the names old gave this answer and the names new: a name that is there keeps its number, and another goes last
abbrev pub Adds : List (List ℕ) → List ℕ → Added → List (List ℕ) → Type 0
Adds old w (There n) new = (number_of old w ≡ Some n) × (new ≡ old)
Adds old w (New n) new = (number_of old w ≡ None) × (n ≡ length old) × (new ≡ old ++ w ∷ [])
