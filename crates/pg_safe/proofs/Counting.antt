-- How many cores a rising list has.
use Rattle.std.proofs.Common.{◌≡◌, ℕ, suc, ◌+◌, ◌<◌, ◌≤◌, arith, Bool, true, false, ◌||◌, List, [], ◌∷◌, length, refl, sym}
use Rattle.std.specs.Prelude.{◌==◌, nat_lt, if◌then◌else◌}
use Rattle.std.proofs.lemmas.Bool.{ltb-true}
use Rattle.pg_perm.proofs.Booleans.{and_true}
use Rattle.pg_perm.specs.Drafts.{is_rising}
use Rattle.pg_directory.specs.DirEntries.{is_among, with_core, without_core}
use Rattle.pg_directory.proofs.Cores.{are_below, among_without_same, below_with, below_without, rising_with, rising_without, rising_without_first}

-- the first is no less than m
abbrev StartsAt : ℕ → List ℕ → Type 0
StartsAt m [] = Unit {0}
StartsAt m (x ∷ xs) = m ≤ x

starts_after : (x : ℕ) (xs : List ℕ) → is_rising (x ∷ xs) ≡ true → StartsAt (suc x) xs
starts_after x [] h = tt
starts_after x (y ∷ ys) h = let lt = ltb-true x y (and_true (nat_lt x y) (is_rising (y ∷ ys)) h).0 in omega (arith, lt)

rising_length : (n m : ℕ) (xs : List ℕ) → m ≤ n → is_rising xs ≡ true → are_below n xs ≡ true → StartsAt m xs → length xs + m ≤ n
rising_length n m [] low rising below starts = omega (arith, low)
rising_length n m (x ∷ xs) low rising below starts =
    let (first, rest) = and_true (nat_lt x n) (are_below n xs) below in
    let lt = ltb-true x n first in
    let more = rising_length n (suc x) xs (omega (arith, lt)) (rising_without_first x xs rising) rest (starts_after x xs rising) in
    omega (arith, more, starts)

length-with_core : (c : ℕ) (xs : List ℕ) → is_among xs c ≡ false → length (with_core c xs) ≡ length xs + 1
length-with_core c [] h = omega arith
length-with_core c (x ∷ xs) h = at (nat_lt c x) (c == x) refl (x == c) refl h (λ h. length-with_core c xs h)
  where
    at : (a b : Bool) → (c == x) ≡ b → (e : Bool) → (x == c) ≡ e → (e || is_among xs c) ≡ false → (is_among xs c ≡ false → length (with_core c xs) ≡ length xs + 1)
        → length (if a then c ∷ x ∷ xs else if b then x ∷ xs else x ∷ with_core c xs) ≡ length (x ∷ xs) + 1
    at true b g e k h below = omega arith
    at false true g true k h below = cc
    at false true g false k h below = absurd (let same : x ≡ c = sym (Rattle.std.proofs.lemmas.Bool.eqb-true c x g) in let is_it = Rattle.std.proofs.lemmas.Bool.eq-eqb x c same in cc (is_it, k))
    at false false g true k h below = cc
    at false false g false k h below = let more = below h in omega (arith, more)

starts_zero : (xs : List ℕ) → StartsAt 0 xs
starts_zero [] = tt
starts_zero (x ∷ xs) = omega arith

-- without one of n cores there are at most n - 1
pub without_length : (n c : ℕ) (xs : List ℕ) → c < n → is_rising xs ≡ true → are_below n xs ≡ true → length (without_core c xs) + 1 ≤ n
without_length n c xs low rising below =
    let rest : List ℕ = without_core c xs in
    let longer = length-with_core c rest (among_without_same c xs) in
    let all = rising_length n 0 (with_core c rest) (omega arith) (rising_with c rest (rising_without c xs rising)) (below_with n c rest low (below_without n c xs below)) (starts_zero (with_core c rest)) in
    omega (arith, longer, all)
