use Rattle.std.specs.Prelude.{ℕ, Bool, false, not, ◌==◌, ◌&&◌, ◌||◌, nat_lt, nat_le, List, [], ◌∷◌, length}
use Rattle.std.specs.List.{list_all, list_any}

-- an ASCII letter
abbrev pub is_letter : ℕ → Bool
is_letter b = (nat_le 65 b && nat_le b 90) || (nat_le 97 b && nat_le b 122)

-- an ASCII digit
abbrev pub is_digit : ℕ → Bool
is_digit b = nat_le 48 b && nat_le b 57

-- the character `_`
abbrev pub is_underscore : ℕ → Bool
is_underscore b = b == 95

abbrev pub is_name_byte : ℕ → Bool
is_name_byte b = (is_letter b || is_digit b) || is_underscore b

-- 1 to 24 letters, digits or `_`, of which the first is a letter
abbrev pub is_name : List ℕ → Bool
is_name [] = false
is_name (b ∷ bs) = is_letter b && nat_lt (length bs) 24 && list_all is_name_byte bs

-- a name without `_`
abbrev pub is_state_name : List ℕ → Bool
is_state_name w = is_name w && not (list_any is_underscore w)
