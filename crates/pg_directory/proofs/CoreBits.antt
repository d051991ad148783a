-- The cores of a number of 64 bits, after a change of a bit.
use Rattle.std.proofs.Common.{◌≡◌, ◌≢◌, ℕ, zero, suc, ◌+◌, ◌*◌, ◌%◌, ◌^◌, ◌<◌, ◌⊎◌, inl, inr, Bool, true, false, [], ◌∷◌, length, get_or, set, replicate, refl, sym, ap, subst, ◌∙◌, arith, w64}
use Rattle.std.specs.Prelude.{◌==◌, bit_and, bit_or}
use Rattle.std.specs.Int.{bit_at, bit_not, trailing_zeros}
use Rattle.std.proofs.lemmas.Bool.{eq-eqb, cases_eq}
use Rattle.std.proofs.lemmas.List.{ext_get_or, get_or-set_same, get_or-set_other, get_or-replicate, length-set, length-replicate}
use Rattle.std.proofs.lemmas.List.FromFn.{length-map-range_with_len, get_or-map-range_with_len}
use Rattle.std.proofs.lemmas.Nat.Bits.{bit_at-zero, bit_at_set_same, bit_at_set_other, bit_at_clear_same, bit_at_clear_other, bit_at-trailing_zeros}
use Rattle.pg_directory.specs.DirEntries.{is_among, with_core, without_core}
use Rattle.pg_directory.specs.CoreSets.{marked_cores_from, marks_of, cores_of}
use Rattle.pg_directory.proofs.Marked.{among_from, with_from, without_from, none_from, first_from}

length-marks : (n : ℕ) → length (marks_of n) ≡ 64
unfolding marks_of
length-marks n = length-map-range_with_len (λ k. bit_at n k == 1) 0 64

mark_at : (n k : ℕ) → k < 64 → get_or (marks_of n) k false ≡ (bit_at n k == 1)
unfolding marks_of
mark_at n k h = let same : 0 + k ≡ k = omega arith in get_or-map-range_with_len (λ k. bit_at n k == 1) 0 64 k k false h same

-- a number of which one bit may differ has the marks of the other, with that mark set
changed : (m n k : ℕ) (b : Bool) → k < 64 → (bit_at m k == 1) ≡ b → ((i : ℕ) → i < 64 → i ≢ k → bit_at m i ≡ bit_at n i)
    → marks_of m ≡ set (marks_of n) k b
changed m n k b inside here others =
    ext_get_or false (marks_of m) (set (marks_of n) k b) (length-marks m ∙ sym (length-marks n) ∙ sym (length-set (marks_of n) k b))
    (λ i h. let below : i < 64 = omega (arith, h, length-marks m) in at i below (cases_eq i k))
  where
    at : (i : ℕ) → i < 64 → (i ≡ k) ⊎ (i ≡ k → ⊥) → get_or (marks_of m) i false ≡ get_or (set (marks_of n) k b) i false
    at i below (inl same) =
        subst (λ j. get_or (marks_of m) j false ≡ get_or (set (marks_of n) k b) j false) (sym same)
        (mark_at m k inside ∙ here ∙ sym (get_or-set_same (marks_of n) k b false (omega (arith, inside, length-marks n))))
    at i below (inr apart) =
        mark_at m i below ∙ ap (λ x. x == 1) (others i below apart) ∙ sym (mark_at n i below)
        ∙ sym (get_or-set_other (marks_of n) k i b false apart)

unmarked : (n : ℕ) → ((i : ℕ) → i < 64 → bit_at n i ≡ 0) → marks_of n ≡ replicate 64 false
unmarked n none =
    ext_get_or false (marks_of n) (replicate 64 false) (length-marks n ∙ sym (length-replicate 64 false)) (λ i h.
    let below : i < 64 = omega (arith, h, length-marks n) in
    mark_at n i below ∙ ap (λ x. x == 1) (none i below) ∙ sym (get_or-replicate 64 i false false below))

pub cores_of-zero : cores_of 0 ≡ []
cores_of-zero = ap (marked_cores_from 0) (unmarked 0 (λ i h. bit_at-zero i)) ∙ none_from 64 0

pub is_among-cores_of : (n c : ℕ) → c < 64 → is_among (cores_of n) c ≡ (bit_at n c == 1)
is_among-cores_of n c h = among_from (marks_of n) 0 c c (omega arith) ∙ mark_at n c h

pub cores_of-set : (n c : ℕ) → c < 64 → cores_of (bit_or n (1 * 2 ^ c % 2 ^ 64)) ≡ with_core c (cores_of n)
cores_of-set n c h =
    ap (marked_cores_from 0) (changed (bit_or n (1 * 2 ^ c % 2 ^ 64)) n c true h (eq-eqb _ 1 (bit_at_set_same w64 n c h)) (λ i g apart. bit_at_set_other w64 n c h i apart))
    ∙ with_from (marks_of n) 0 c c (omega arith) (omega (arith, h, length-marks n))

cleared : (n c : ℕ) → c < 64 → marks_of (bit_and n (bit_not w64 (1 * 2 ^ c % 2 ^ 64))) ≡ set (marks_of n) c false
cleared n c h =
    changed (bit_and n (bit_not w64 (1 * 2 ^ c % 2 ^ 64))) n c false h (ap (λ x. x == 1) (bit_at_clear_same w64 n c h))
    (λ i g apart. bit_at_clear_other w64 n c h i g apart)

pub cores_of-clear : (n c : ℕ) → c < 64 → cores_of (bit_and n (bit_not w64 (1 * 2 ^ c % 2 ^ 64))) ≡ without_core c (cores_of n)
cores_of-clear n c h = ap (marked_cores_from 0) (cleared n c h) ∙ without_from (marks_of n) 0 c c (omega arith) (omega (arith, h, length-marks n))

-- the lowest bit is the first core, and without it come the others
pub cores_of-first : (n : ℕ) → 0 < n → n < 2 ^ 64
    → cores_of n ≡ trailing_zeros w64 n ∷ cores_of (bit_and n (bit_not w64 (1 * 2 ^ trailing_zeros w64 n % 2 ^ 64)))
cores_of-first n some fits =
    let lowest = bit_at-trailing_zeros w64 n some fits in
    let c : ℕ = trailing_zeros w64 n in
    first_from (marks_of n) 0 c (mark_at n c lowest.0 ∙ eq-eqb (bit_at n c) 1 lowest.1)
    (λ j h. mark_at n j (omega (arith, h, lowest.0)) ∙ ap (λ x. x == 1) (lowest.2 j h))
    ∙ ap (λ x. x ∷ marked_cores_from 0 (set (marks_of n) c false)) (zero_first c)
    ∙ ap (λ marks. c ∷ marked_cores_from 0 marks) (sym (cleared n c lowest.0))
  where
    zero_first : (c : ℕ) → 0 + c ≡ c
    zero_first c = omega arith

-- where there is no core, there is no bit
pub zero-from_cores_of : (n : ℕ) → n < 2 ^ 64 → cores_of n ≡ [] → n ≡ 0
zero-from_cores_of zero fits none = refl
zero-from_cores_of (suc n) fits none =
    let first = cores_of-first (suc n) (omega arith) fits in
    absurd (cc (sym none ∙ first))

pub trailing_zeros-lt : (n : ℕ) → 0 < n → n < 2 ^ 64 → trailing_zeros w64 n < 64
trailing_zeros-lt n some fits = (bit_at-trailing_zeros w64 n some fits).0
