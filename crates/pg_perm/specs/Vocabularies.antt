-- Kinds that are called by words.
use Rattle.std.specs.Prelude.{ℕ, Bool, true, not, ◌&&◌, List, [], ◌∷◌, Option, find, bytes_eq}
use Rattle.std.specs.List.{list_any}

-- the first of these values that a word calls
abbrev pub find_word : {V : Type 0} → (V → List ℕ) → List V → List ℕ → Option V
find_word word values w = find (λ v. bytes_eq w (word v)) values

-- no two values of the list have one word
abbrev pub are_apart : {V : Type 0} → (V → List ℕ) → List V → Bool
are_apart word [] = true
are_apart word (v ∷ vs) = not (list_any (λ u. bytes_eq (word u) (word v)) vs) && are_apart word vs
