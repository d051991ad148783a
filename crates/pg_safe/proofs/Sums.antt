-- Sums over the numbers below one.
use Rattle.std.proofs.Common.{◌≡◌, ◌≢◌, ℕ, zero, suc, ◌+◌, ◌*◌, ◌<◌, ◌≤◌, arith, Bool, true, false, ◌&&◌, ◌||◌, cond, List, [], ◌∷◌, length, get_or, refl, ap, ◌∙◌, inl, inr}
use Rattle.std.specs.Prelude.{◌==◌}
use Rattle.std.proofs.lemmas.Bool.{eqb-true, eqb-false}
use Rattle.pg_directory.specs.DirEntries.{is_among}
use Rattle.pg_table.proofs.Lists.{IsIn}
use Rattle.pg_order.specs.Messages.{tally}
use Rattle.pg_safe.specs.Work.{total}

abbrev pub sum : (ℕ → ℕ) → ℕ → ℕ
sum f zero = 0
sum f (suc n) = f n + sum f n

-- one where a test passes, and else none
abbrev pub one_if : Bool → ℕ
one_if b = cond {A = ℕ} b 1 0

pub sum_most : (f g : ℕ → ℕ) (n : ℕ) → ((i : ℕ) → i < n → f i ≤ g i) → sum f n ≤ sum g n
sum_most f g zero h = omega arith
sum_most f g (suc n) h = let here = h n (omega arith) in let rest = sum_most f g n (λ i lt. h i (omega (arith, lt))) in omega (arith, here, rest)

pub sum_add : (f g : ℕ → ℕ) (n : ℕ) → sum (λ i. f i + g i) n ≡ sum f n + sum g n
sum_add f g zero = omega arith
sum_add f g (suc n) = let rest = sum_add f g n in omega (arith, rest)

pub sum_zero : (n : ℕ) → sum (λ i. 0) n ≡ 0
sum_zero zero = refl
sum_zero (suc n) = let rest = sum_zero n in omega (arith, rest)

pub sum_swap : (f : ℕ → ℕ → ℕ) (n k : ℕ) → sum (λ i. sum (f i) k) n ≡ sum (λ j. sum (λ i. f i j) n) k
sum_swap f zero k = let none = sum_zero k in omega (arith, none)
sum_swap f (suc n) k =
    let rest = sum_swap f n k in
    let more = sum_add (f n) (λ j. sum (λ i. f i j) n) k in omega (arith, rest, more)

pub sum_first : (f : ℕ → ℕ) (n : ℕ) → sum f (suc n) ≡ f 0 + sum (λ i. f (suc i)) n
sum_first f zero = omega arith
sum_first f (suc n) = let rest = sum_first f n in omega (arith, rest)

pub total_sum : {X : Type 0} (f : X → ℕ) (xs : List X) (z : X) → total f xs ≡ sum (λ i. f (get_or xs i z)) (length xs)
total_sum f [] z = refl
total_sum f (x ∷ xs) z =
    let first = sum_first (λ i. f (get_or (x ∷ xs) i z)) (length xs) in
    let rest = total_sum f xs z in omega (arith, first, rest)

-- a number is one of those below, or none of them
pub sum_none : (f : ℕ → ℕ) (n : ℕ) → ((i : ℕ) → i < n → f i ≡ 0) → sum f n ≡ 0
sum_none f zero h = refl
sum_none f (suc n) h = let here = h n (omega arith) in let rest = sum_none f n (λ i lt. h i (omega (arith, lt))) in omega (arith, here, rest)

apart_not : (a b : ℕ) → (a ≡ b → ⊥) → (a == b) ≡ false
apart_not a b h = at (a == b) refl
  where
    at : (t : Bool) → (a == b) ≡ t → (a == b) ≡ false
    at true e = absurd (h (eqb-true a b e))
    at false e = e

and_zero : (b : Bool) → one_if (false && b) ≡ 0
and_zero b = refl

pub sum_one : (r : ℕ) (b : Bool) (n : ℕ) → sum (λ e. one_if ((r == e) && b)) n ≤ one_if b
sum_one r b zero = at b
  where
    at : (b : Bool) → 0 ≤ one_if b
    at true = omega arith
    at false = omega arith
sum_one r b (suc n) = at (r == n) refl (sum_one r b n)
  where
    at : (t : Bool) → (r == n) ≡ t → sum (λ e. one_if ((r == e) && b)) n ≤ one_if b → one_if (t && b) + sum (λ e. one_if ((r == e) && b)) n ≤ one_if b
    at false is rest = omega (arith, rest)
    at true is rest =
        let same : r ≡ n = eqb-true r n is in
        let none = sum_none (λ e. one_if ((r == e) && b)) n (λ i lt. ap (λ t. one_if (t && b)) (apart_not r i (λ e. absurd (omega (arith, same, e, lt))))) in omega (arith, none)

pub sum_some : (r n : ℕ) → r < n → 1 ≤ sum (λ e. one_if (r == e)) n
sum_some r zero lt = absurd (omega (arith, lt))
sum_some r (suc n) lt = at (r == n) refl (λ lt. sum_some r n lt)
  where
    at : (t : Bool) → (r == n) ≡ t → (r < n → 1 ≤ sum (λ e. one_if (r == e)) n) → 1 ≤ one_if t + sum (λ e. one_if (r == e)) n
    at true is rest = omega arith
    at false is rest = let apart : r ≢ n = eqb-false r n is in let more = rest (omega (arith, apart, lt)) in omega (arith, more)

-- those that are among a list and pass a test are no more than are counted there
pub sum_among : (t : ℕ → Bool) (xs : List ℕ) (n : ℕ) → sum (λ e. one_if (is_among xs e && t e)) n ≤ tally t xs
sum_among t [] n = let none = sum_zero n in omega (arith, none)
sum_among t (x ∷ xs) n =
    let rest = sum_among t xs n in
    let one = sum_one x (t x) n in
    let both_of = sum_add (λ e. one_if ((x == e) && t x)) (λ e. one_if (is_among xs e && t e)) n in
    let most = sum_most (λ e. one_if (is_among (x ∷ xs) e && t e)) (λ e. one_if ((x == e) && t x) + one_if (is_among xs e && t e)) n (λ e lt. either e (x == e) refl (is_among xs e) (t e) refl) in
    omega (arith, rest, one, both_of, most)
  where
    either : (e : ℕ) (a : Bool) → (x == e) ≡ a → (b c : Bool) → t e ≡ c → one_if ((a || b) && c) ≤ one_if (a && t x) + one_if (b && c)
    either e true is b false is_c = omega arith
    either e true is b true is_c = let same : x ≡ e = eqb-true x e is in let passes : t x ≡ true = ap t same ∙ is_c in let one : one_if (t x) ≡ 1 = ap one_if passes in omega (arith, one)
    either e false is true true is_c = omega arith
    either e false is true false is_c = omega arith
    either e false is false true is_c = omega arith
    either e false is false false is_c = omega arith

-- a list whose members name numbers below n is no longer than the sum of how often each is named
pub named_length : {X : Type 0} (name : X → ℕ) (n : ℕ) (xs : List X) → ((x : X) → IsIn x xs → name x < n) → length xs ≤ sum (λ c. tally (λ x. name x == c) xs) n
named_length name n [] h = omega arith
named_length name n (x ∷ xs) h =
    let rest = named_length name n xs (λ y among. h y (inr among)) in
    let some = sum_some (name x) n (h x (inl refl)) in
    let all = sum_add (λ c. one_if (name x == c)) (λ c. tally (λ x. name x == c) xs) n in omega (arith, rest, some, all)

pub tally_length : {X : Type 0} (t : X → Bool) (xs : List X) → tally t xs ≤ length xs
tally_length t [] = omega arith
tally_length t (x ∷ xs) = at (t x) (tally_length t xs)
  where
    at : (b : Bool) → tally t xs ≤ length xs → one_if b + tally t xs ≤ length (x ∷ xs)
    at true rest = omega (arith, rest)
    at false rest = omega (arith, rest)

pub sum_square : (n k : ℕ) → sum (λ i. k) n ≡ n * k
sum_square zero k = omega arith
sum_square (suc n) k = let rest = sum_square n k in omega (arith, rest)
