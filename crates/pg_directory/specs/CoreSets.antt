-- How a set of cores is kept: a bit for each.
use Rattle.std.specs.Prelude.{ℕ, ◌+◌, ◌==◌, Bool, true, false, List, [], ◌∷◌, map}
use Rattle.std.specs.List.{range_with_len}
use Rattle.std.specs.Int.{bit_at}

-- the numbers of the marked ones, where the first has number i
abbrev pub marked_cores_from : ℕ → List Bool → List ℕ
marked_cores_from i [] = []
marked_cores_from i (true ∷ marks) = i ∷ marked_cores_from (i + 1) marks
marked_cores_from i (false ∷ marks) = marked_cores_from (i + 1) marks

-- a mark for each of the 64 bits of a number, the lowest first
unfoldable pub marks_of : ℕ → List Bool
marks_of bits = map (λ k. bit_at bits k == 1) (range_with_len 0 64)

-- the cores of which the bits are set, in ascending order
abbrev pub cores_of : ℕ → List ℕ
cores_of bits = marked_cores_from 0 (marks_of bits)
