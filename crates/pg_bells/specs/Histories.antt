-- A history of bells: the bells that were rung, in the order in which they were.
use Rattle.std.specs.Prelude.{◌≡◌, ℕ, ◌<◌, ◌==◌, List, [], ◌∷◌, ◌++◌, length, map, filter, All, AllPairs, slice_get, Some}
use Rattle.pg_bells.specs.declared.bell.Bell.{Bell}

-- the blocks for which this core rang, in its order
abbrev pub blocks : ℕ → List Bell → List ℕ
blocks core bells = map (λ b. b.block) (filter (λ b. b.core == core) bells)

-- each bell of the second list has for its serial the number of its core's bells before it, those of the first list too
abbrev pub Numbered : List Bell → List Bell → Type 0
Numbered before [] = Unit {0}
Numbered before (b ∷ bells) = (b.serial ≡ length (blocks b.core before)) × Numbered (before ++ b ∷ []) bells

-- of the blocks for which its core rang, the bell names the one at its serial
abbrev pub Stands : List Bell → Bell → Type 0
Stands bells b = slice_get (blocks b.core bells) b.serial ≡ Some b.block

-- the serial is greater than those of all bells of its core that were taken before
abbrev pub Rises : List Bell → Bell → Type 0
Rises taken b = All (λ a. a.core ≡ b.core → a.serial < b.serial) taken

-- the serials of each core rise from one bell to each later one
abbrev pub IsRising : List Bell → Type 0
IsRising bells = AllPairs (λ a b. a.core ≡ b.core → a.serial < b.serial) bells
