-- The numbers of a script.
use Rattle.std.specs.Prelude.{ℕ, Bool, false, not, ◌==◌, ◌&&◌, ◌||◌, nat_lt, List, [], ◌∷◌, length, Option, Some, None, if◌then◌else◌}
use Rattle.std.specs.List.{list_all}
use Rattle.std.specs.Str.Parse.{digits_value}
use Rattle.pg_perm.specs.Names.{is_digit}

-- 1 to 20 digits, of which the first is 0 only where it is the only one
abbrev pub is_number : List ℕ → Bool
is_number [] = false
is_number (b ∷ bs) = list_all is_digit (b ∷ bs) && nat_lt (length bs) 20 && (not (b == 48) || length bs == 0)

-- the number that a word is, which may be above each number of a machine word
abbrev pub number_of : List ℕ → Option ℕ
number_of w = if is_number w then Some (digits_value 10 w) else None
