-- Sums over the cores of a world, where one of them is set.
use Rattle.std.proofs.Common.{◌≡◌, ℕ, zero, suc, ◌+◌, ◌<◌, arith, List, [], ◌∷◌, length, set, get_or, refl, ap}
use Rattle.pg_safe.specs.Work.{total}

pub total-set : {A : Type 0} (f : A → ℕ) (xs : List A) (c : ℕ) (y z : A) → c < length xs → total f (set xs c y) + f (get_or xs c z) ≡ total f xs + f y
total-set f [] c y z low = absurd (omega (arith, low))
total-set f (x ∷ xs) zero y z low = omega arith
total-set f (x ∷ xs) (suc c) y z low = let rest = total-set f xs c y z (omega (arith, low)) in omega (arith, rest)

-- what counts the same leaves the sum, wherever it is set
pub total_same : {A : Type 0} (f : A → ℕ) (xs : List A) (c : ℕ) (y z : A) → f y ≡ f (get_or xs c z) → total f (set xs c y) ≡ total f xs
total_same f [] c y z same = refl
total_same f (x ∷ xs) zero y z same = omega (arith, same)
total_same f (x ∷ xs) (suc c) y z same = ap (λ n. f x + n) (total_same f xs c y z same)
