-- Lists in which no element is equal, by a test, to one after it: how such lists are put together.
use Rattle.std.proofs.Common.{◌≡◌, ℕ, zero, suc, ◌+◌, ◌<◌, Bool, true, false, List, [], ◌∷◌, ◌++◌, map, refl, arith}
use Rattle.std.specs.Prelude.{◌==◌, if◌then◌else◌}
use Rattle.std.specs.List.{AllByRecursion, IsDistinct, filter, flat_map, range_with_len}
use Rattle.std.proofs.lemmas.Bool.{eqb-true, eqb-false}
use Rattle.pg_shape.proofs.Searches.{not_true}

-- What holds of each element

pub each_map : {X Y : Type 0} (Q : X → Type 0) (P : Y → Type 0) (f : X → Y) → ((x : X) → Q x → P (f x))
    → (xs : List X) → AllByRecursion Q xs → AllByRecursion P (map f xs)
each_map Q P f each [] h = tt
each_map Q P f each (x ∷ xs) h = (each x h.0, each_map Q P f each xs h.1)

pub each_any : {X Y : Type 0} (P : Y → Type 0) (f : X → Y) → ((x : X) → P (f x)) → (xs : List X) → AllByRecursion P (map f xs)
each_any P f each [] = tt
each_any P f each (x ∷ xs) = (each x, each_any P f each xs)

pub each_weaken : {X : Type 0} (Q P : X → Type 0) → ((x : X) → Q x → P x) → (xs : List X) → AllByRecursion Q xs → AllByRecursion P xs
each_weaken Q P each [] h = tt
each_weaken Q P each (x ∷ xs) h = (each x h.0, each_weaken Q P each xs h.1)

pub each_append : {X : Type 0} (P : X → Type 0) (xs ys : List X) → AllByRecursion P xs → AllByRecursion P ys → AllByRecursion P (xs ++ ys)
each_append P [] ys h g = g
each_append P (x ∷ xs) ys h g = (h.0, each_append P xs ys h.1 g)

each_flat_map : {X Y : Type 0} (Q : X → Type 0) (P : Y → Type 0) (f : X → List Y) → ((x : X) → Q x → AllByRecursion P (f x))
    → (xs : List X) → AllByRecursion Q xs → AllByRecursion P (flat_map f xs)
each_flat_map Q P f each [] h = tt
each_flat_map Q P f each (x ∷ xs) h = each_append P (f x) (flat_map f xs) (each x h.0) (each_flat_map Q P f each xs h.1)

pub each_flat_map_any : {X Y : Type 0} (P : Y → Type 0) (f : X → List Y) → ((x : X) → AllByRecursion P (f x)) → (xs : List X) → AllByRecursion P (flat_map f xs)
each_flat_map_any P f each [] = tt
each_flat_map_any P f each (x ∷ xs) = each_append P (f x) (flat_map f xs) (each x) (each_flat_map_any P f each xs)

each_filter : {X : Type 0} (P : X → Type 0) (p : X → Bool) (xs : List X) → AllByRecursion P xs → AllByRecursion P (filter p xs)
each_filter P p [] h = tt
each_filter P p (x ∷ xs) h = at (p x) h.0 (each_filter P p xs h.1)
  where
    at : (b : Bool) → P x → AllByRecursion P (filter p xs) → AllByRecursion P (if b then x ∷ filter p xs else filter p xs)
    at true first rest = (first, rest)
    at false first rest = rest

-- what a filter keeps passes
pub each_passes : {X : Type 0} (p : X → Bool) (xs : List X) → AllByRecursion (λ x. p x ≡ true) (filter p xs)
each_passes p [] = tt
each_passes p (x ∷ xs) = at (p x) refl (each_passes p xs)
  where
    at : (b : Bool) → p x ≡ b → AllByRecursion (λ x. p x ≡ true) (filter p xs) → AllByRecursion (λ x. p x ≡ true) (if b then x ∷ filter p xs else filter p xs)
    at true e rest = (e, rest)
    at false e rest = rest

-- No element is equal to one after it

pub distinct_filter : {X : Type 0} (e : X → X → Bool) (p : X → Bool) (xs : List X) → IsDistinct e xs → IsDistinct e (filter p xs)
unfolding IsDistinct
distinct_filter e p [] h = tt
distinct_filter e p (x ∷ xs) h = at (p x) (each_filter (λ y. e x y ≡ false) p xs h.0) (distinct_filter e p xs h.1)
  where
    at : (b : Bool) → AllByRecursion (λ y. e x y ≡ false) (filter p xs) → IsDistinct e (filter p xs) → IsDistinct e (if b then x ∷ filter p xs else filter p xs)
    at true first rest = (first, rest)
    at false first rest = rest

pub distinct_map : {X Y : Type 0} (t : X → X → Bool) (e : Y → Y → Bool) (f : X → Y) → ((x y : X) → t x y ≡ false → e (f x) (f y) ≡ false)
    → (xs : List X) → IsDistinct t xs → IsDistinct e (map f xs)
unfolding IsDistinct
distinct_map t e f apart [] h = tt
distinct_map t e f apart (x ∷ xs) h =
    (each_map (λ y. t x y ≡ false) (λ y. e (f x) y ≡ false) f (λ y g. apart x y g) xs h.0, distinct_map t e f apart xs h.1)

-- each of the one list is told apart from each of the other
distinct_append : {X : Type 0} (e : X → X → Bool) (P Q : X → Type 0) → ((x y : X) → P x → Q y → e x y ≡ false)
    → (xs ys : List X) → AllByRecursion P xs → AllByRecursion Q ys → IsDistinct e xs → IsDistinct e ys → IsDistinct e (xs ++ ys)
unfolding IsDistinct
distinct_append e P Q apart [] ys first second h g = g
distinct_append e P Q apart (x ∷ xs) ys first second h g = (
  each_append (λ y. e x y ≡ false) xs ys h.0 (each_weaken Q (λ y. e x y ≡ false) (λ y. apart x y first.0) ys second),
  distinct_append e P Q apart xs ys first.1 second h.1 g,
)

-- Ranks, which equal elements share

-- no element is equal to one after it, and each has a rank below k
pub record IsRanked {X : Type 0} (e : X → X → Bool) (rank : X → ℕ) (k : ℕ) (xs : List X) : Type 0 where
  pub distinct : IsDistinct e xs
  pub below : AllByRecursion (λ x. rank x < k) xs

-- elements with different ranks aren't equal
apart_by_rank : {X : Type 0} (e : X → X → Bool) (rank : X → ℕ) → ((x y : X) → e x y ≡ true → rank x ≡ rank y)
    → (x y : X) → (rank x ≡ rank y → ⊥) → e x y ≡ false
apart_by_rank e rank ranked x y differ = not_true (e x y) (λ same. differ (ranked x y same))

-- such a list and one of rank k
pub ranked_append : {X : Type 0} (e : X → X → Bool) (rank : X → ℕ) → ((x y : X) → e x y ≡ true → rank x ≡ rank y)
    → (k : ℕ) (xs ys : List X) → IsRanked e rank k xs → IsDistinct e ys → AllByRecursion (λ y. rank y ≡ k) ys → IsRanked e rank (suc k) (xs ++ ys)
ranked_append e rank ranked k xs ys h g next = record {
  distinct = distinct_append e (λ x. rank x < k) (λ y. rank y ≡ k) (λ x y low is. apart_by_rank e rank ranked x y (λ same. absurd (omega (arith, low, is, same)))) xs ys
      h.below next h.distinct g;
  below = each_append (λ x. rank x < suc k) xs ys
      (each_weaken (λ x. rank x < k) (λ x. rank x < suc k) (λ x low. omega (arith, low)) xs h.below)
      (each_weaken (λ y. rank y ≡ k) (λ y. rank y < suc k) (λ y is. omega (arith, is)) ys next);
}

-- the lists that different numbers give, where each element tells the number that gives it
pub distinct_flat_map : {X : Type 0} (e : X → X → Bool) (rank : X → ℕ) → ((x y : X) → e x y ≡ true → rank x ≡ rank y)
    → (f : ℕ → List X) → ((n : ℕ) → IsDistinct e (f n)) → ((n : ℕ) → AllByRecursion (λ y. rank y ≡ n) (f n))
    → (ns : List ℕ) → IsDistinct (λ n m. n == m) ns → IsDistinct e (flat_map f ns)
unfolding IsDistinct
distinct_flat_map e rank ranked f distinct of [] h = tt
distinct_flat_map e rank ranked f distinct of (n ∷ ns) h =
    let others : AllByRecursion (λ y. rank y ≡ n → ⊥) (flat_map f ns) =
    each_flat_map (λ m. (n == m) ≡ false) (λ y. rank y ≡ n → ⊥) f
    (λ m ne. each_weaken (λ y. rank y ≡ m) (λ y. rank y ≡ n → ⊥) (λ y is same. eqb-false n m ne (cc (is, same))) (f m) (of m)) ns h.0 in
    distinct_append e (λ x. rank x ≡ n) (λ y. rank y ≡ n → ⊥) (λ x y is not. apart_by_rank e rank ranked x y (λ same. not (cc (is, same)))) (f n) (flat_map f ns)
    (of n) others (distinct n) (distinct_flat_map e rank ranked f distinct of ns h.1)

-- Numbers in their order

numbers_above : (n m k : ℕ) → n < m → AllByRecursion (λ y. (n == y) ≡ false) (range_with_len m k)
numbers_above n m zero low = tt
numbers_above n m (suc k) low =
    (not_true (n == m) (λ same. absurd (omega (arith, low, eqb-true n m same))), numbers_above n (m + 1) k (omega (arith, low)))

pub distinct_numbers : (n k : ℕ) → IsDistinct (λ n m. n == m) (range_with_len n k)
unfolding IsDistinct
distinct_numbers n zero = tt
distinct_numbers n (suc k) = (numbers_above n (n + 1) k (omega arith), distinct_numbers (n + 1) k)
