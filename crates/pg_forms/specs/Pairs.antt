use Rattle.std.specs.Prelude.{ℕ, Bool, true, false, ◌&&◌, List, [], ◌∷◌, Option, Some, None}
use Rattle.pg_perm.specs.Names.{is_name, is_state_name}

-- the words are a reply and a final state in turn
abbrev pub are_pairs : List (List ℕ) → Bool
are_pairs [] = true
are_pairs (reply ∷ []) = false
are_pairs (reply ∷ fin ∷ more) = is_name reply && is_state_name fin && are_pairs more

-- the words two by two
abbrev pub pairs_in : List (List ℕ) → List (List ℕ × List ℕ)
pairs_in [] = []
pairs_in (reply ∷ []) = []
pairs_in (reply ∷ fin ∷ more) = (reply, fin) ∷ pairs_in more

-- the words of pairs
abbrev pub words_in : List (List ℕ × List ℕ) → List (List ℕ)
words_in [] = []
words_in (p ∷ ps) = p.0 ∷ p.1 ∷ words_in ps

-- a pair of the names of a reply and a state
abbrev pub is_named_pair : List ℕ × List ℕ → Bool
is_named_pair p = is_name p.0 && is_state_name p.1

-- the first pair, and the pairs after it
abbrev pub first_pair : List (List ℕ × List ℕ) → Option (List ℕ × List ℕ × List (List ℕ × List ℕ))
first_pair [] = None
first_pair (p ∷ ps) = Some (p.0, p.1, ps)
