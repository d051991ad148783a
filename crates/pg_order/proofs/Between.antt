-- Messages of a stretch of entries.
use Rattle.std.proofs.Common.{◌≡◌, ℕ, zero, suc, ◌+◌, ◌<◌, ◌≤◌, arith, List, [], ◌∷◌, ◌++◌, Option, Some, None, refl, sym, ap, ◌∙◌, ◌⊎◌, inl, inr}
use Rattle.pg_order.specs.Messages.{put, sent_between}

put_append : {A : Type 0} (o : Option A) (xs ys : List A) → put o (xs ++ ys) ≡ put o xs ++ ys
put_append None xs ys = refl
put_append (Some m) xs ys = refl

pub between-append : {A : Type 0} (to : ℕ → Option A) (a n k b m : ℕ) → n + k ≡ m → a + n ≡ b → sent_between to a m ≡ sent_between to a n ++ sent_between to b k
between-append to a zero k b m sum at = let same : k ≡ m = omega (arith, sum) in let from : a ≡ b = omega (arith, at) in ap (sent_between to a) (sym same) ∙ ap (λ a. sent_between to a k) from
between-append to a (suc n) k b zero sum at = absurd (omega (arith, sum))
between-append to a (suc n) k b (suc m) sum at =
    ap (put (to a)) (between-append to (suc a) n k b m (omega (arith, sum)) (omega (arith, at))) ∙ put_append (to a) (sent_between to (suc a) n) (sent_between to b k)

pub between-quiet : {A : Type 0} (to : ℕ → Option A) (a n : ℕ) → ((j : ℕ) → a ≤ j → j < a + n → to j ≡ None) → sent_between to a n ≡ []
between-quiet to a zero quiet = refl
between-quiet to a (suc n) quiet =
    ap (λ o. put o (sent_between to (suc a) n)) (quiet a (omega arith) (omega arith)) ∙ between-quiet to (suc a) n (λ j lo hi. quiet j (omega (arith, lo)) (omega (arith, hi)))

-- where the first message comes from
pub record Head {A : Type 0} (to : ℕ → Option A) (a n : ℕ) (m : A) (q : List A) : Type 0 where
  pub at : ℕ
  pub from : a ≤ at
  pub quiet : (j : ℕ) → a ≤ j → j < at → to j ≡ None
  pub sends : to at ≡ Some m
  pub rest : ℕ
  pub upto : suc at + rest ≡ a + n
  pub later : q ≡ sent_between to (suc at) rest

pub head : {A : Type 0} (to : ℕ → Option A) (a n : ℕ) (m : A) (q : List A) → m ∷ q ≡ sent_between to a n → Head to a n m q
head to a zero m q e = cc
head {A = A} to a (suc n) m q e = at (to a) refl e (λ e. head to (suc a) n m q e)
  where
    at : (o : Option A) → to a ≡ o → m ∷ q ≡ put o (sent_between to (suc a) n) → (m ∷ q ≡ sent_between to (suc a) n → Head to (suc a) n m q) → Head to a (suc n) m q
    at None none e below =
        let h = below e in
        let from = h.from in let upto = h.upto in
        record {
          at = h.at;
          from = omega (arith, from);
          quiet = λ j lo hi. elim (let split : (a ≡ j) ⊎ (suc a ≤ j) = search arith in split) [ inl same ↦ ap to (sym same) ∙ none | inr more ↦ h.quiet j more hi ];
          sends = h.sends;
          rest = h.rest;
          upto = omega (arith, upto);
          later = h.later;
        }
    at (Some x) some e below = record {
      at = a;
      from = omega arith;
      quiet = λ j lo hi. absurd (omega (arith, lo, hi));
      sends = some ∙ ap Some (cc);
      rest = n;
      upto = omega arith;
      later = cc;
    }
