-- What is left once one more operation is begun.
use Rattle.std.proofs.Common.{◌≡◌, ℕ, zero, suc, ◌+◌, List, [], ◌∷◌, drop, refl, ap, ◌∙◌, arith}

next_of : {A : Type 0} (n : ℕ) (xs : List A) → drop (suc n) xs ≡ drop 1 (drop n xs)
next_of zero xs = refl
next_of (suc n) [] = refl
next_of (suc n) (x ∷ xs) = next_of n xs

pub drop_next : {A : Type 0} (n : ℕ) (xs : List A) → drop (n + 1) xs ≡ drop 1 (drop n xs)
drop_next n xs = let one : n + 1 ≡ suc n = omega arith in ap (λ k. drop k xs) one ∙ next_of n xs
