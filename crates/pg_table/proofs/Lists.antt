-- What stands in a list, and in those that are made of it.
use Rattle.std.proofs.Common.{◌≡◌, ◌≢◌, ℕ, zero, suc, ◌+◌, ◌<◌, ◌≤◌, ◌⊎◌, Bool, true, false, cond, ◌||◌, List, [], ◌∷◌, ◌++◌, Some, refl, sym, subst, ap, ◌∙◌, arith, inl, inr}
use Rattle.std.specs.Prelude.{◌==◌, map, filter, slice_get}
use Rattle.std.specs.List.{list_any, list_all, flat_map, range_with_len}
use Rattle.std.proofs.lemmas.Bool.{eqb-true, eqb-false, and_parts, or_left, or_right}
use Rattle.std.proofs.lemmas.Option.{same_Some}

-- x stands in the list
abbrev pub IsIn : {X : Type 0} → X → List X → Type 0
IsIn x [] = ⊥
IsIn x (y ∷ ys) = (y ≡ x) ⊎ IsIn x ys

-- Places

pub in_of_slice_get : {X : Type 0} (xs : List X) (k : ℕ) (x : X) → slice_get xs k ≡ Some x → IsIn x xs
in_of_slice_get [] k x h = absurd cc
in_of_slice_get (y ∷ ys) zero x h = inl (same_Some y x h)
in_of_slice_get (y ∷ ys) (suc k) x h = inr (in_of_slice_get ys k x h)

-- what stands in a list stands at some place
pub slice_get_of_in : {X : Type 0} (xs : List X) (x : X) → IsIn x xs → (k : ℕ) × (slice_get xs k ≡ Some x)
slice_get_of_in [] x among = absurd among
slice_get_of_in (y ∷ ys) x (inl e) = (0, ap Some e)
slice_get_of_in (y ∷ ys) x (inr among) = let (k, e) = slice_get_of_in ys x among in (suc k, e)

-- what stands at a place of a mapped list is made of what stands there
pub get_map : {X Y : Type 0} (f : X → Y) (xs : List X) (k : ℕ) (y : Y) → slice_get (map f xs) k ≡ Some y → (x : X) × (slice_get xs k ≡ Some x) × (f x ≡ y)
get_map f [] k y h = absurd cc
get_map f (x ∷ xs) zero y h = (x, refl, same_Some (f x) y h)
get_map f (x ∷ xs) (suc k) y h = get_map f xs k y h

-- Tests

-- where one passes, one that stands there does
pub any_in : {X : Type 0} (p : X → Bool) (xs : List X) → list_any p xs ≡ true → (x : X) × IsIn x xs × (p x ≡ true)
any_in p [] h = absurd cc
any_in p (x ∷ xs) h = at (p x) refl h (any_in p xs)
  where
    at : (b : Bool) → p x ≡ b → (b || list_any p xs) ≡ true → (list_any p xs ≡ true → (y : _) × IsIn y xs × (p y ≡ true))
        → (y : _) × IsIn y (x ∷ xs) × (p y ≡ true)
    at true e h behind = (x, inl refl, e)
    at false e h behind = let (y, among, t) = behind h in (y, inr among, t)

pub in_any : {X : Type 0} (p : X → Bool) (x : X) (xs : List X) → IsIn x xs → p x ≡ true → list_any p xs ≡ true
in_any p x [] among h = absurd among
in_any p x (y ∷ ys) (inl e) h = or_left (p y) (list_any p ys) (ap p e ∙ h)
in_any p x (y ∷ ys) (inr among) h = or_right (p y) (list_any p ys) (in_any p x ys among h)

pub all_in : {X : Type 0} (p : X → Bool) (x : X) (xs : List X) → list_all p xs ≡ true → IsIn x xs → p x ≡ true
all_in p x [] h among = absurd among
all_in p x (y ∷ ys) h (inl e) = ap p (sym e) ∙ (and_parts (p y) _ h).0
all_in p x (y ∷ ys) h (inr among) = all_in p x ys (and_parts (p y) _ h).1 among

-- a test of what is made of each
pub any_map : {X Y : Type 0} (p : Y → Bool) (f : X → Y) (xs : List X) → list_any p (map f xs) ≡ list_any (λ x. p (f x)) xs
any_map p f [] = refl
any_map p f (x ∷ xs) = ap (λ b. p (f x) || b) (any_map p f xs)

-- Two lists, one after the other

pub in_left : {X : Type 0} (x : X) (xs ys : List X) → IsIn x xs → IsIn x (xs ++ ys)
in_left x [] ys among = absurd among
in_left x (y ∷ xs) ys (inl e) = inl e
in_left x (y ∷ xs) ys (inr among) = inr (in_left x xs ys among)

pub in_right : {X : Type 0} (x : X) (xs ys : List X) → IsIn x ys → IsIn x (xs ++ ys)
in_right x [] ys among = among
in_right x (y ∷ xs) ys among = inr (in_right x xs ys among)

pub in_either : {X : Type 0} (x : X) (xs ys : List X) → IsIn x (xs ++ ys) → IsIn x xs ⊎ IsIn x ys
in_either x [] ys among = inr among
in_either x (y ∷ xs) ys (inl e) = inl (inl e)
in_either x (y ∷ xs) ys (inr among) = at (in_either x xs ys among)
  where
    at : IsIn x xs ⊎ IsIn x ys → IsIn x (y ∷ xs) ⊎ IsIn x ys
    at (inl a) = inl (inr a)
    at (inr b) = inr b

-- Lists that are made of others

pub in_map : {X Y : Type 0} (f : X → Y) (x : X) (xs : List X) → IsIn x xs → IsIn (f x) (map f xs)
in_map f x [] among = absurd among
in_map f x (y ∷ ys) (inl e) = inl (ap f e)
in_map f x (y ∷ ys) (inr among) = inr (in_map f x ys among)

pub of_map : {X Y : Type 0} (f : X → Y) (y : Y) (xs : List X) → IsIn y (map f xs) → (x : X) × IsIn x xs × (f x ≡ y)
of_map f y [] among = absurd among
of_map f y (x ∷ xs) (inl e) = (x, inl refl, e)
of_map f y (x ∷ xs) (inr among) = let (z, there, e) = of_map f y xs among in (z, inr there, e)

pub in_filter : {X : Type 0} (p : X → Bool) (x : X) (xs : List X) → p x ≡ true → IsIn x xs → IsIn x (filter p xs)
in_filter p x [] h among = absurd among
in_filter p x (y ∷ ys) h among = at (p y) refl among (in_filter p x ys h)
  where
    at : (b : Bool) → p y ≡ b → (y ≡ x) ⊎ IsIn x ys → (IsIn x ys → IsIn x (filter p ys)) → IsIn x (cond b (y ∷ filter p ys) (filter p ys))
    at true e (inl same) behind = inl same
    at true e (inr among) behind = inr (behind among)
    at false e (inl same) behind = absurd (let t : p y ≡ true = ap p same ∙ h in cc)
    at false e (inr among) behind = behind among

pub of_filter : {X : Type 0} (p : X → Bool) (x : X) (xs : List X) → IsIn x (filter p xs) → IsIn x xs × (p x ≡ true)
of_filter p x [] among = absurd among
of_filter p x (y ∷ ys) among = at (p y) refl among (of_filter p x ys)
  where
    at : (b : Bool) → p y ≡ b → IsIn x (cond b (y ∷ filter p ys) (filter p ys)) → (IsIn x (filter p ys) → IsIn x ys × (p x ≡ true))
        → IsIn x (y ∷ ys) × (p x ≡ true)
    at true e (inl same) behind = (inl same, ap p (sym same) ∙ e)
    at true e (inr among) behind = let (there, t) = behind among in (inr there, t)
    at false e among behind = let (there, t) = behind among in (inr there, t)

pub in_flat : {X Y : Type 0} (f : X → List Y) (x : X) (y : Y) (xs : List X) → IsIn x xs → IsIn y (f x) → IsIn y (flat_map f xs)
in_flat f x y [] among h = absurd among
in_flat f x y (z ∷ zs) (inl e) h = in_left y (f z) (flat_map f zs) (subst (λ x. IsIn y (f x)) (sym e) h)
in_flat f x y (z ∷ zs) (inr among) h = in_right y (f z) (flat_map f zs) (in_flat f x y zs among h)

pub of_flat : {X Y : Type 0} (f : X → List Y) (y : Y) (xs : List X) → IsIn y (flat_map f xs) → (x : X) × IsIn x xs × IsIn y (f x)
of_flat f y [] among = absurd among
of_flat f y (x ∷ xs) among = at (in_either y (f x) (flat_map f xs) among) (of_flat f y xs)
  where
    at : IsIn y (f x) ⊎ IsIn y (flat_map f xs) → (IsIn y (flat_map f xs) → (z : _) × IsIn z xs × IsIn y (f z)) → (z : _) × IsIn z (x ∷ xs) × IsIn y (f z)
    at (inl here) behind = (x, inl refl, here)
    at (inr there) behind = let (z, among, h) = behind there in (z, inr among, h)

-- Numbers

pub in_numbers : (n k i : ℕ) → n ≤ i → i < n + k → IsIn i (range_with_len n k)
in_numbers n zero i low high = absurd (omega (arith, low, high))
in_numbers n (suc k) i low high = at (n == i) refl (λ above. in_numbers (n + 1) k i above (omega (arith, high)))
  where
    at : (b : Bool) → (n == i) ≡ b → (n + 1 ≤ i → IsIn i (range_with_len (n + 1) k)) → (n ≡ i) ⊎ IsIn i (range_with_len (n + 1) k)
    at true e behind = inl (eqb-true n i e)
    at false e behind = let apart : n ≢ i = eqb-false n i e in inr (behind (omega (arith, low, apart)))

pub of_numbers : (n k i : ℕ) → IsIn i (range_with_len n k) → (n ≤ i) × (i < n + k)
of_numbers n zero i among = absurd among
of_numbers n (suc k) i (inl e) = (omega (arith, e), omega (arith, e))
of_numbers n (suc k) i (inr among) = let (low, high) = of_numbers (n + 1) k i among in (omega (arith, low), omega (arith, high))
