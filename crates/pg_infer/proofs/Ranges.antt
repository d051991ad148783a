-- Lists over the numbers below one, grown by the next number.
use Rattle.std.proofs.Common.{◌≡◌, ℕ, zero, suc, ◌+◌, Bool, true, false, List, [], ◌∷◌, ◌++◌, refl, sym, ap, ◌∙◌, arith}
use Rattle.std.specs.Prelude.{map, if◌then◌else◌}
use Rattle.std.specs.List.{filter, flat_map, range_with_len}
use Rattle.std.proofs.lemmas.List.{append_assoc, append-nil, map-append}
use Rattle.std.proofs.lemmas.List.Elements.{filter-append}
use Rattle.std.proofs.lemmas.Grind.{flat_map-append}

-- what is put after a list is put after what it grew from
pub append_grown : {A : Type 0} (new old start y z w : List A) → new ≡ old ++ z → old ≡ start ++ y → y ++ z ≡ w → new ≡ start ++ w
append_grown new old start y z w put was all = put ∙ ap (λ (o : List _). o ++ z) was ∙ append_assoc start y z ∙ ap (λ (t : List _). start ++ t) all

range_append : (a n j : ℕ) → a + n ≡ j → range_with_len a (suc n) ≡ range_with_len a n ++ j ∷ []
range_append a zero j e = let same : a ≡ j = omega (arith, e) in ap (λ (k : ℕ). k ∷ []) same
range_append a (suc n) j e = let next : a + 1 + n ≡ j = omega (arith, e) in ap (λ (ks : List ℕ). a ∷ ks) (range_append (a + 1) n j next)

pub range_more : (a n j : ℕ) → a + n ≡ j → range_with_len a (n + 1) ≡ range_with_len a n ++ j ∷ []
range_more a n j e = let next : n + 1 ≡ suc n = omega arith in ap (range_with_len a) next ∙ range_append a n j e

filtered_one : (p : ℕ → Bool) (n : ℕ) → filter p (n ∷ []) ≡ (if p n then n ∷ [] else [])
filtered_one p n = at (p n) refl
  where
    at : (b : Bool) → p n ≡ b → filter p (n ∷ []) ≡ (if p n then n ∷ [] else [])
    at true e = rw e refl
    at false e = rw e refl

filter_more : (p : ℕ → Bool) (n : ℕ) → filter p (range_with_len 0 n) ++ (if p n then n ∷ [] else []) ≡ filter p (range_with_len 0 (n + 1))
filter_more p n =
    ap (λ (t : List ℕ). filter p (range_with_len 0 n) ++ t) (sym (filtered_one p n))
    ∙ sym (filter-append p (range_with_len 0 n) (n ∷ [])) ∙ ap (filter p) (sym (range_more 0 n n (omega arith)))

pub if_mapped : {A : Type 0} (f : ℕ → A) (n : ℕ) (b : Bool) → map f (if b then n ∷ [] else []) ≡ (if b then f n ∷ [] else [])
if_mapped f n true = refl
if_mapped f n false = refl

pub if_flat : {A : Type 0} (f : ℕ → List A) (n : ℕ) (b : Bool) → flat_map f (if b then n ∷ [] else []) ≡ (if b then f n else [])
if_flat f n true = append-nil (f n)
if_flat f n false = refl

pub map_filter_more : {A : Type 0} (f : ℕ → A) (p : ℕ → Bool) (n : ℕ)
    → map f (filter p (range_with_len 0 n)) ++ (if p n then f n ∷ [] else []) ≡ map f (filter p (range_with_len 0 (n + 1)))
map_filter_more f p n =
    ap (λ (t : List _). map f (filter p (range_with_len 0 n)) ++ t) (sym (if_mapped f n (p n)))
    ∙ sym (map-append f (filter p (range_with_len 0 n)) (if p n then n ∷ [] else [])) ∙ ap (map f) (filter_more p n)

pub flat_filter_more : {A : Type 0} (f : ℕ → List A) (p : ℕ → Bool) (n : ℕ)
    → flat_map f (filter p (range_with_len 0 n)) ++ (if p n then f n else []) ≡ flat_map f (filter p (range_with_len 0 (n + 1)))
flat_filter_more f p n =
    ap (λ (t : List _). flat_map f (filter p (range_with_len 0 n)) ++ t) (sym (if_flat f n (p n)))
    ∙ sym (flat_map-append f (filter p (range_with_len 0 n)) (if p n then n ∷ [] else [])) ∙ ap (flat_map f) (filter_more p n)

-- what is put is equal to this
pub append_same : {A : Type 0} (new old y z : List A) → new ≡ old ++ y → y ≡ z → new ≡ old ++ z
append_same new old y z put e = put ∙ ap (λ (t : List _). old ++ t) e

-- what is put after nothing, five times
pub put_in_turn : {A : Type 0} (s0 s1 s2 s3 s4 s5 a b c d e : List A)
    → s0 ≡ [] → s1 ≡ s0 ++ a → s2 ≡ s1 ++ b → s3 ≡ s2 ++ c → s4 ≡ s3 ++ d → s5 ≡ s4 ++ e → s5 ≡ a ++ b ++ c ++ d ++ e
put_in_turn s0 s1 s2 s3 s4 s5 a b c d e h0 h1 h2 h3 h4 h5 =
    h5 ∙ ap (λ (t : List _). t ++ e) (h4 ∙ ap (λ (t : List _). t ++ d) (h3 ∙ ap (λ (t : List _). t ++ c) (h2 ∙ ap (λ (t : List _). t ++ b) (h1 ∙ ap (λ (t : List _). t ++ a) h0))))
