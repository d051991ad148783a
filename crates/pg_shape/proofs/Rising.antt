-- Numbers of lines that rise.
use Rattle.std.proofs.Common.{◌≡◌, ℕ, ◌<◌, ◌⊎◌, true, List, [], ◌∷◌, ◌++◌, refl, arith, inl, inr}
use Rattle.std.specs.Prelude.{nat_lt}
use Rattle.std.proofs.lemmas.Bool.{and_from, ltb-true, and_parts}
use Rattle.pg_perm.specs.Drafts.{is_rising}

-- the number is one of these
abbrev pub IsOneOf : ℕ → List ℕ → Type 0
IsOneOf n [] = ⊥
IsOneOf n (m ∷ ms) = (n ≡ m) ⊎ IsOneOf n ms

pub in_front : (ns ms : List ℕ) (n : ℕ) → IsOneOf n ns → IsOneOf n (ns ++ ms)
in_front [] ms n i = absurd i
in_front (k ∷ ns) ms n (inl e) = inl e
in_front (k ∷ ns) ms n (inr i) = inr (in_front ns ms n i)

pub one_of_last_part : (ns ms : List ℕ) (m : ℕ) → IsOneOf m ms → IsOneOf m (ns ++ ms)
one_of_last_part [] ms m i = i
one_of_last_part (k ∷ ns) ms m i = inr (one_of_last_part ns ms m i)

-- the first is below those after it
pub rising_head : (n : ℕ) (ns : List ℕ) → is_rising (n ∷ ns) ≡ true → (m : ℕ) → IsOneOf m ns → n < m
rising_head n [] h m i = absurd i
rising_head n (k ∷ ns) h m (inl e) = omega (arith, ltb-true n k (and_parts (nat_lt n k) _ h).0, e)
rising_head n (k ∷ ns) h m (inr i) =
    let t = and_parts (nat_lt n k) _ h in
    omega (arith, ltb-true n k t.0, rising_head k ns t.1 m i)

pub rising_tail : (n : ℕ) (ns : List ℕ) → is_rising (n ∷ ns) ≡ true → is_rising ns ≡ true
rising_tail n [] h = refl
rising_tail n (m ∷ ns) h = (and_parts (nat_lt n m) _ h).1

pub rising_front : (ns ms : List ℕ) → is_rising (ns ++ ms) ≡ true → is_rising ns ≡ true
rising_front [] ms h = refl
rising_front (n ∷ []) ms h = refl
rising_front (n ∷ m ∷ ns) ms h =
    let t = and_parts (nat_lt n m) _ h in
    and_from (nat_lt n m) _ t.0 (rising_front (m ∷ ns) ms t.1)

pub rising_last_part : (ns ms : List ℕ) → is_rising (ns ++ ms) ≡ true → is_rising ms ≡ true
rising_last_part [] ms h = h
rising_last_part (n ∷ ns) ms h = rising_last_part ns ms (rising_tail n (ns ++ ms) h)

-- those before are below those after
pub rising_apart : (ns ms : List ℕ) → is_rising (ns ++ ms) ≡ true → (n m : ℕ) → IsOneOf n ns → IsOneOf m ms → n < m
rising_apart [] ms h n m i j = absurd i
rising_apart (k ∷ ns) ms h n m (inl e) j = omega (arith, e, rising_head k (ns ++ ms) h m (one_of_last_part ns ms m j))
rising_apart (k ∷ ns) ms h n m (inr i) j = rising_apart ns ms (rising_tail k (ns ++ ms) h) n m i j
