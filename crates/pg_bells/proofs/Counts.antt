-- Sums and counts over lists, and numbers that fill a range.
use Rattle.std.proofs.Common.{◌≡◌, ◌≢◌, ℕ, zero, suc, ◌+◌, ◌<◌, ◌≤◌, ◌==◌, ◌⊎◌, ⊎_elim, inl, inr, Bool, true, false, cond, List, [], ◌∷◌, ◌++◌, length, map, All, get_or, sum_by, count_by, sym, refl, ap, ◌∙◌, subst, eq-eqb, ne_eqb, zero-add, arith}
use mathlib.Core.Option.{some, some-injective, some-ne-none}
use lib.ListN.{get_elem?}
use Rattle.std.proofs.lemmas.Bool.{cases_eq}
use Rattle.std.proofs.lemmas.List.Sums.{sum_by-append}
use Rattle.std.proofs.lemmas.List.Elements.{All-head, All-tail}

module _ {A : Type 0} where
  pub sum_cons : (f : A → ℕ) (x : A) (xs : List A) → sum_by f (x ∷ xs) ≡ f x + sum_by f xs
  sum_cons f x xs = sum_by-append f (x ∷ []) xs ∙ ap (λ n. n + sum_by f xs) (zero-add (f x))

  pub sum_same : (f g : A → ℕ) (xs : List A) → All (λ x. f x ≡ g x) xs → sum_by f xs ≡ sum_by g xs
  sum_same f g [] all = refl
  sum_same f g (x ∷ xs) all =
      let a = sum_cons f x xs in let b = sum_cons g x xs in let here = All-head (λ (y : A). f y ≡ g y) x xs all in let rest = sum_same f g xs (All-tail (λ (y : A). f y ≡ g y) x xs all) in omega (arith, a, b, here, rest)

  pub sum_none : (f : A → ℕ) (xs : List A) → All (λ x. f x ≡ 0) xs → sum_by f xs ≡ 0
  sum_none f [] all = refl
  sum_none f (x ∷ xs) all = let a = sum_cons f x xs in let here = All-head (λ (y : A). f y ≡ 0) x xs all in let rest = sum_none f xs (All-tail (λ (y : A). f y ≡ 0) x xs all) in omega (arith, a, here, rest)

  pub sum_both : (f g : A → ℕ) (xs : List A) → sum_by (λ x. f x + g x) xs ≡ sum_by f xs + sum_by g xs
  sum_both f g [] = refl
  sum_both f g (x ∷ xs) = let a = sum_cons f x xs in let b = sum_cons g x xs in let both = sum_cons (λ y. f y + g y) x xs in let rest = sum_both f g xs in omega (arith, a, b, both, rest)

  pub sum_map : {B : Type 0} (f : B → ℕ) (h : A → B) (xs : List A) → sum_by f (map h xs) ≡ sum_by (λ x. f (h x)) xs
  sum_map f h [] = refl
  sum_map f h (x ∷ xs) = let a = sum_by-append f (h x ∷ []) (map h xs) in let b = sum_cons (λ y. f (h y)) x xs in let rest = sum_map f h xs in omega (arith, a, b, rest)

  every_none : (f : A → ℕ) (xs : List A) → ((k : ℕ) (x : A) → get_elem? xs k ≡ some x → f x ≡ 0) → sum_by f xs ≡ 0
  every_none f [] other = refl
  every_none f (x ∷ xs) other = let c = sum_cons f x xs in let first = other zero x refl in let rest = every_none f xs (λ k y e. other (suc k) y e) in omega (arith, c, first, rest)

  pub sum_one : (f : A → ℕ) (xs : List A) (n : ℕ) (a : A) → get_elem? xs n ≡ some a → ((k : ℕ) (x : A) → get_elem? xs k ≡ some x → k ≢ n → f x ≡ 0) → sum_by f xs ≡ f a
  sum_one f [] n a at other = absurd (some-ne-none a (sym at))
  sum_one f (x ∷ xs) zero a at other =
      let c = sum_cons f x xs in let rest = every_none f xs (λ k y e. other (suc k) y e (λ h. absurd (omega (arith, h)))) in let here : f x ≡ f a = ap f (some-injective x a at) in omega (arith, c, rest, here)
  sum_one f (x ∷ xs) (suc n) a at other =
      let c = sum_cons f x xs in let first = other zero x refl (λ h. absurd (omega (arith, h))) in let rest = sum_one f xs n a at (λ k y e ne. other (suc k) y e (λ h. ne (omega (arith, h)))) in omega (arith, c, first, rest)

  pub count_true : (xs : List A) → count_by (λ _. true) xs ≡ length xs
  count_true [] = refl
  count_true (x ∷ xs) = let c = sum_cons (λ _. 1) x xs in let rest = count_true xs in omega (arith, c, rest)

  pub get_same : (xs : List A) (k : ℕ) (d : A) → k < length xs → get_or xs k (get_or xs k d) ≡ get_or xs k d
  get_same [] k d lt = absurd (omega arith)
  get_same (x ∷ xs) zero d lt = refl
  get_same (x ∷ xs) (suc k) d lt = get_same xs k d (omega arith)

pub eqb-swap : (a b : ℕ) → (a == b) ≡ (b == a)
eqb-swap a b = ⊎_elim (λ e. eq-eqb a b e ∙ sym (eq-eqb b a (sym e))) (λ ne. ne_eqb a b ne ∙ sym (ne_eqb b a (λ e. ne (sym e)))) (cases_eq a b)

-- how many elements have this number
module _ {A : Type 0} (number : A → ℕ) where
  abbrev pub count : ℕ → List A → ℕ
  count n xs = count_by (λ x. number x == n) xs

  pub count_here : (n : ℕ) (x : A) (xs : List A) → number x ≡ n → count n (x ∷ xs) ≡ 1 + count n xs
  count_here n x xs e = sum_cons (λ y. cond (number y == n) 1 0) x xs ∙ ap (λ t. cond t 1 0 + count n xs) (eq-eqb (number x) n e)

  pub count_else : (n : ℕ) (x : A) (xs : List A) → number x ≢ n → count n (x ∷ xs) ≡ count n xs
  count_else n x xs ne = sum_cons (λ y. cond (number y == n) 1 0) x xs ∙ ap (λ t. cond t 1 0 + count n xs) (ne_eqb (number x) n ne) ∙ omega arith

  pub count_none : (n : ℕ) (xs : List A) → All (λ x. number x ≢ n) xs → count n xs ≡ 0
  count_none n [] all = refl
  count_none n (x ∷ xs) all = count_else n x xs (All-head (λ (y : A). number y ≢ n) x xs all) ∙ count_none n xs (All-tail (λ (y : A). number y ≢ n) x xs all)

  pub found : (P : A → Type 0) (n : ℕ) (xs : List A) → All P xs → 0 < count n xs → (x : A) × (number x ≡ n) × P x
  found P n [] all there = absurd (omega arith)
  found P n (x ∷ xs) all there = ⊎_elim (λ e. (x, e, All-head P x xs all))
      (λ ne. let c = count_else n x xs ne in let more : 0 < count n xs = omega (arith, there, c) in found P n xs (All-tail P x xs all) more) (cases_eq (number x) n)

  tally : (ℕ → ℕ) → ℕ → ℕ
  tally f zero = 0
  tally f (suc n) = tally f n + f n

  tally_add : (f g h : ℕ → ℕ) (n : ℕ) → ((j : ℕ) → h j ≡ f j + g j) → tally h n ≡ tally f n + tally g n
  unfolding tally
  tally_add f g h zero e = refl
  tally_add f g h (suc n) e = let rest = tally_add f g h n e in let here = e n in omega (arith, rest, here)

  tally_none : (f : ℕ → ℕ) (n : ℕ) → ((j : ℕ) → j < n → f j ≡ 0) → tally f n ≡ 0
  unfolding tally
  tally_none f zero e = refl
  tally_none f (suc n) e = let rest = tally_none f n (λ j lt. e j (omega (arith, lt))) in let here = e n (omega arith) in omega (arith, rest, here)

  abbrev hit : ℕ → ℕ → ℕ
  hit a j = cond (a == j) 1 0

  tally_hit : (a n : ℕ) → a < n → tally (hit a) n ≡ 1
  unfolding tally
  tally_hit a zero lt = absurd (omega arith)
  tally_hit a (suc n) lt = ⊎_elim
      (λ e. let rest = tally_none (hit a) n (λ j below. ap (λ t. cond t 1 0) (ne_eqb a j (λ same. absurd (omega (arith, e, same, below))))) in
      let here : ◌≡◌ {A = ℕ} (cond (a == n) 1 0) 1 = ap (λ t. cond t 1 0) (eq-eqb a n e) in omega (arith, rest, here))
      (λ ne. let rest = tally_hit a n (let apart : a ≢ n = ne in omega (arith, lt, apart)) in
      let here : ◌≡◌ {A = ℕ} (cond (a == n) 1 0) 0 = ap (λ t. cond t 1 0) (ne_eqb a n ne) in omega (arith, rest, here)) (cases_eq a n)

  tally_counts : (xs : List A) (n : ℕ) → All (λ x. number x < n) xs → tally (λ j. count j xs) n ≡ length xs
  tally_counts [] n all = tally_none (λ j. count j []) n (λ j lt. refl)
  tally_counts (x ∷ xs) n all =
      let add = tally_add (hit (number x)) (λ j. count j xs) (λ j. count j (x ∷ xs)) n (λ j. sum_cons (λ y. cond (number y == j) 1 0) x xs) in
      let one = tally_hit (number x) n (All-head (λ (y : A). number y < n) x xs all) in
      let rest = tally_counts xs n (All-tail (λ (y : A). number y < n) x xs all) in
      omega (arith, add, one, rest)

  tally_small : (f : ℕ → ℕ) (n : ℕ) → ((j : ℕ) → f j ≤ 1) → tally f n ≤ n
  unfolding tally
  tally_small f zero le = omega arith
  tally_small f (suc n) le = let rest = tally_small f n le in let here = le n in omega (arith, rest, here)

  ones : (f : ℕ → ℕ) (n : ℕ) → ((j : ℕ) → f j ≤ 1) → tally f n ≡ n → (j : ℕ) → j < n → f j ≡ 1
  unfolding tally
  ones f zero le full j lt = absurd (omega arith)
  ones f (suc n) le full j lt = let rest = tally_small f n le in let here = le n in
      ⊎_elim (λ e. ap f e ∙ omega (arith, rest, here, full)) (λ ne. let apart : j ≢ n = ne in ones f n le (omega (arith, rest, here, full)) j (omega (arith, lt, apart))) (cases_eq j n)

  -- n elements with numbers below n, no two of them the same: each number is there once
  pub covered : (xs : List A) (n : ℕ) → length xs ≡ n → All (λ x. number x < n) xs → ((j : ℕ) → count j xs ≤ 1) → (j : ℕ) → j < n → count j xs ≡ 1
  covered xs n long all apart = ones (λ j. count j xs) n apart (tally_counts xs n all ∙ long)
