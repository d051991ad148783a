-- Lists of entries by their makers.
use Rattle.std.proofs.Common.{◌≡◌, ◌≢◌, ◌⊎◌, ◌==◌, ℕ, zero, suc, ◌+◌, ◌*◌, ◌^◌, ◌<◌, ◌≤◌, Bool, true, false, cond, List, [], ◌∷◌, ◌++◌, length, drop, get_or, bit_or, refl, sym, ap, ◌∙◌, subst, inl, inr, ⊎_elim, ne_eqb, eq-eqb, arith, lit<, append_assoc, length-append}
use Rattle.std.proofs.lemmas.List.{append-nil}
use Rattle.std.proofs.lemmas.List.Elements.{filter-append}
use Rattle.std.proofs.lemmas.List.Prefix.{front_rest}
use Rattle.std.proofs.lemmas.Nat.{or_shifted, or_block}
use Rattle.std.specs.List.{filter, All}
use Rattle.std.specs.Int.Bits.{or_zero_r}
use mathlib.Core.Option.{some, some-ne-none, some-injective}
use mathlib.Core.Logic.{dite}
use native.Mathlib.Decide.{ℕ_discrete}
use lib.ListN.{get_elem?}
use lib.Dec.{eqb}
use Rattle.pg_turn.specs.declared.view.Past.{Past}
use Rattle.pg_turn.specs.Entries.{StartsWith, Each, by, Names, NamedBelow}
use Rattle.pg_turn.specs.Views.{Tells, past_of}
use Rattle.pg_turn.specs.Rule.{bit}

-- the lowest bit is set
pub or_one : (n : ℕ) (b : Bool) → bit_or (2 * n + bit b) 1 ≡ 2 * n + 1
or_one n true =
    let two : 2 * n + 1 ≡ n * 2 ^ 1 + 1 = omega arith in
    ap (λ m. bit_or m 1) two ∙ (or_block 1 n 0 1 1 (lit< tt) (lit< tt) ∙ (ap (λ m. m * 2 ^ 1 + 1) (or_zero_r n) ∙ sym two))
or_one n false =
    let two : 2 * n + 0 ≡ n * 2 ^ 1 = omega arith in
    let end : n * 2 ^ 1 + 1 ≡ 2 * n + 1 = omega arith in
    ap (λ m. bit_or m 1) two ∙ (or_shifted n 1 1 (lit< tt) ∙ end)

pub starts_all : {E : Type 0} (log : List E) → StartsWith log log
starts_all log = ([], sym (append-nil log))

pub at_inside : {A : Type 0} (l : List A) (i : ℕ) (a : A) → get_elem? l i ≡ some a → i < length l
at_inside [] i a e = absurd (some-ne-none a (sym e))
at_inside (x ∷ xs) zero a e = omega arith
at_inside (x ∷ xs) (suc i) a e = let h = at_inside xs i a e in omega arith

pub at_end : {A : Type 0} (l : List A) (a b : A) (j : ℕ) → get_elem? (l ++ a ∷ []) j ≡ some b → (get_elem? l j ≡ some b) ⊎ ((j ≡ length l) × (a ≡ b))
at_end [] a b zero e = inr (refl, some-injective a b e)
at_end [] a b (suc j) e = absurd (some-ne-none b (sym e))
at_end (x ∷ xs) a b zero e = inl e
at_end (x ∷ xs) a b (suc j) e = ⊎_elim (λ h. inl h) (λ t. inr (let h = t.0 in omega arith, t.1)) (at_end xs a b j e)

module _ {E : Type 0} (maker : E → ℕ) where
  pub by_none : (n k : ℕ) (es : List E) → Names maker k es → n ≢ k → by maker n es ≡ []
  by_none n k [] h ne = refl
  by_none n k (e ∷ es) h ne =
      subst (λ b. cond b (e ∷ by maker n es) (by maker n es) ≡ []) (sym (ne_eqb (maker e) n (λ q. ne (sym q ∙ h.0)))) (by_none n k es h.1 ne)

  pub by_all : (n : ℕ) (es : List E) → Names maker n es → by maker n es ≡ es
  by_all n [] h = refl
  by_all n (e ∷ es) h =
      subst (λ b. cond b (e ∷ by maker n es) (by maker n es) ≡ e ∷ es) (sym (eq-eqb (maker e) n h.0)) (ap (λ l. e ∷ l) (by_all n es h.1))

  -- who has no entries yet made none
  pub by_new : (n : ℕ) (es : List E) → NamedBelow maker n es → by maker n es ≡ []
  by_new n [] h = refl
  by_new n (e ∷ es) h =
      subst (λ b. cond b (e ∷ by maker n es) (by maker n es) ≡ []) (sym (ne_eqb (maker e) n (let lt = h.0 in λ q. omega arith))) (by_new n es h.1)

  pub below_more : (m n : ℕ) (es : List E) → m ≤ n → NamedBelow maker m es → NamedBelow maker n es
  below_more m n [] le h = tt
  below_more m n (e ∷ es) le h = (let lt = h.0 in omega arith, below_more m n es le h.1)

  pub below_named : (k n : ℕ) (es : List E) → k < n → Names maker k es → NamedBelow maker n es
  below_named k n [] lt h = tt
  below_named k n (e ∷ es) lt h = (let is = h.0 in omega arith, below_named k n es lt h.1)

  pub below_append : (n : ℕ) (es fs : List E) → NamedBelow maker n es → NamedBelow maker n fs → NamedBelow maker n (es ++ fs)
  below_append n [] fs h g = g
  below_append n (e ∷ es) fs h g = (h.0, below_append n es fs h.1 g)

  pub below_all : (n : ℕ) (es : List E) → NamedBelow maker n es → All (λ e. maker e < n) es
  below_all n [] h k d lt = absurd (omega arith)
  below_all n (e ∷ es) h zero d lt = h.0
  below_all n (e ∷ es) h (suc k) d lt = below_all n es h.1 k d (omega arith)

  pub all_below : (n : ℕ) (es : List E) → All (λ e. maker e < n) es → NamedBelow maker n es
  all_below n [] h = tt
  all_below n (e ∷ es) h = (h 0 e (omega arith), all_below n es (λ k d lt. h (suc k) d (omega arith)))

  -- entries of another pass leave what this one tells true
  pub tells_more : (log new : List E) (k : ℕ) (p : Past E) → Names maker k new → p.number ≢ k → Tells maker log p → Tells maker (log ++ new) p
  tells_more log new k p named other t = (
    (t.0.0 ++ new, ap (λ l. l ++ new) t.0.1 ∙ append_assoc p.seen t.0.0 new),
    filter-append (λ e. maker e == p.number) log new
        ∙ (ap (λ l. by maker p.number log ++ l) (by_none p.number k new named other) ∙ (append-nil (by maker p.number log) ∙ t.1)),
  )

  -- a pass that adds entries of its own has made these besides
  pub tells_own : (log new : List E) (p : Past E) → Names maker p.number new → Tells maker log p → by maker p.number (log ++ new) ≡ p.mine ++ new
  tells_own log new p named t =
      filter-append (λ e. maker e == p.number) log new ∙ ap (λ l. by maker p.number log ++ l) (by_all p.number new named) ∙ ap (λ l. l ++ new) t.1

  -- a new pass has seen the first entries, and made what there is of its number
  pub tells_new : (first more : List E) (n : ℕ) → NamedBelow maker n more → Tells maker (first ++ more) (past_of maker n first)
  tells_new first more n below = (
    (more, refl),
    filter-append (λ e. maker e == n) first more ∙ (ap (λ l. by maker n first ++ l) (by_new n more below) ∙ append-nil (by maker n first)),
  )
