-- The states of the cores, as a list.
use Rattle.std.proofs.Common.{◌≡◌, ℕ, zero, suc, ◌+◌, ◌<◌, List, [], ◌∷◌, length, get_or, refl, ap, arith, ◌∙◌}
use Rattle.pg_atomic.specs.States.{each_from}

pub length-each_from : (f : ℕ → ℕ → ℕ) (i : ℕ) (xs : List ℕ) → length (each_from f i xs) ≡ length xs
length-each_from f i [] = refl
length-each_from f i (x ∷ xs) = ap suc (length-each_from f (i + 1) xs)

pub get_or-each_from : (f : ℕ → ℕ → ℕ) (i : ℕ) (xs : List ℕ) (c e : ℕ) → c < length xs → get_or (each_from f i xs) c e ≡ f (i + c) (get_or xs c e)
get_or-each_from f i [] c e h = absurd (omega (arith, h))
get_or-each_from f i (x ∷ xs) zero e h = let same : i ≡ i + 0 = omega arith in ap (λ (j : ℕ). f j x) same
get_or-each_from f i (x ∷ xs) (suc c) e h =
    let same : i + 1 + c ≡ i + suc c = omega arith in
    get_or-each_from f (i + 1) xs c e (omega (arith, h)) ∙ ap (λ (j : ℕ). f j (get_or xs c e)) same
