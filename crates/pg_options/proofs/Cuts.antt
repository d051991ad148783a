-- Words that are cut at their first `=`.
use Rattle.std.proofs.Common.{◌≡◌, ℕ, ◌+◌, ◌<◌, Bool, true, false, not, ◌==◌, List, [], ◌∷◌, Option, Some, None, option_map, length, take, drop, if◌then◌else◌, refl, sym, ap, ap₂, suc, ◌∙◌, arith}
use Rattle.std.specs.Prelude.{MatchOption, cond}
use Rattle.std.specs.List.{position_or_len, before_first, after_first}
use Rattle.std.specs.Borrow.{Bor}
use Rattle.pg_options.specs.Options.{cut}

abbrev is_equals : ℕ → Bool
is_equals b = b == 61

abbrev place : List ℕ → ℕ
place w = position_or_len is_equals w

abbrev cut_by : Bool → ℕ → List ℕ → Option (List ℕ × List ℕ)
cut_by t b bs = if t then Some ([], bs) else option_map (λ p. (b ∷ p.0, p.1)) (cut bs)

none_at : (t : Bool) (b : ℕ) (bs : List ℕ) → cond (not t) (1 + place bs) 0 ≡ length (b ∷ bs) → (place bs ≡ length bs → cut bs ≡ None)
    → cut_by t b bs ≡ None
none_at true b bs e ih = absurd (omega (arith, e))
none_at false b bs e ih = ap (option_map (λ p. (b ∷ p.0, p.1))) (ih (omega (arith, e)))

cut_none : (w : List ℕ) → place w ≡ length w → cut w ≡ None
cut_none [] e = refl
cut_none (b ∷ bs) e = none_at (b == 61) b bs e (cut_none bs)

some_at : (t : Bool) (b : ℕ) (bs : List ℕ) → cond (not t) (1 + place bs) 0 < length (b ∷ bs) → (place bs < length bs → cut bs ≡ Some (before_first is_equals bs, after_first is_equals bs))
    → cut_by t b bs ≡ Some (take (cond (not t) (1 + place bs) 0) (b ∷ bs), drop (cond (not t) (1 + place bs) 0 + 1) (b ∷ bs))
some_at true b bs e ih = refl
some_at false b bs e ih =
    let one : 1 + place bs ≡ suc (place bs) = omega arith in
    let two : 1 + place bs + 1 ≡ suc (place bs + 1) = omega arith in
    ap (option_map (λ p. (b ∷ p.0, p.1))) (ih (omega (arith, e))) ∙ sym (ap₂ (λ (n m : ℕ). Some (take n (b ∷ bs), drop m (b ∷ bs))) one two)

cut_some : (w : List ℕ) → place w < length w → cut w ≡ Some (before_first is_equals w, after_first is_equals w)
cut_some [] e = absurd (omega (arith, e))
cut_some (b ∷ bs) e = some_at (b == 61) b bs e (cut_some bs)

-- what `split_once` gives
pub cut_is : (w : List ℕ) (r : Option (Bor (List ℕ) × Bor (List ℕ)))
    → MatchOption r (place w ≡ length w) (λ x. (place w < length w) × (x.0.now ≡ before_first is_equals w) × (x.1.now ≡ after_first is_equals w))
    → option_map (λ p. (p.0.now, p.1.now)) r ≡ cut w
cut_is w None e = sym (cut_none w e)
cut_is w (Some x) e = ap (λ n. Some (n, x.1.now)) e.1 ∙ ap (λ v. Some (before_first is_equals w, v)) e.2 ∙ sym (cut_some w e.0)
