-- The first rule that a line breaks.
use Rattle.std.proofs.Common.{◌≡◌, ℕ, suc, ◌+◌, ◌<◌, ◌≤◌, ◌⊎◌, Bool, true, false, List, [], ◌∷◌, length, Some, None, refl, sym, ap, ◌∙◌, arith, inl, inr}
use Rattle.std.specs.Prelude.{find, cond}
use Rattle.std.proofs.lemmas.Bool.{cases_lt}
use Rattle.pg_perm.specs.declared.fault.Rule.{Rule}
use Rattle.pg_perm.specs.Rules.{rule_rank}
use Rattle.pg_perm.proofs.Ranks.{same_rule}
use Rattle.pg_shape.specs.FirstFaults.{shape_rules, first_rule}

-- R is broken, and each rule that is broken is R or comes after it
abbrev pub IsFirst : (Rule → Bool) → Rule → Type 0
IsFirst test R = (test R ≡ true) × ((Q : Rule) → test Q ≡ true → rule_rank R ≤ rule_rank Q)

-- no rule is broken
abbrev pub IsClean : (Rule → Bool) → Type 0
IsClean test = (Q : Rule) → test Q ≡ false

-- no rule is broken that isn't of the shape
abbrev pub IsOfShape : (Rule → Bool) → Type 0
IsOfShape test = (Q : Rule) → (rule_rank Q < 7) ⊎ (25 < rule_rank Q) → test Q ≡ false

-- the places of these rules are n and those after it
abbrev Ranked : ℕ → List Rule → Type 0
Ranked n [] = Unit {0}
Ranked n (R ∷ Rs) = (rule_rank R ≡ n) × Ranked (suc n) Rs

ranks : Ranked 7 shape_rules
ranks = (refl, (refl, (refl, (refl, (refl, (refl, (refl, (refl, (refl, (refl, (refl, (refl, (refl, (refl, (refl, (refl, (refl, (refl, (refl, tt)))))))))))))))))))

some_injective : {A : Type 0} (x y : A) → Some x ≡ Some y → x ≡ y
some_injective x y e = cc e

-- R is broken, and is the first of those at places from n on
abbrev IsFirstFrom : (Rule → Bool) → ℕ → Rule → Type 0
IsFirstFrom test n R = (test R ≡ true) × (n ≤ rule_rank R) × ((Q : Rule) → n ≤ rule_rank Q → test Q ≡ true → rule_rank R ≤ rule_rank Q)

-- where the rule at a place isn't broken, the first of those after it is the first
first_after : (test : Rule → Bool) (n : ℕ) (S R : Rule) → rule_rank S ≡ n → test S ≡ false → IsFirstFrom test (suc n) R → IsFirstFrom test n R
first_after test n S R place sound first = (first.0, omega (arith, first.1), least)
  where
    least : (Q : Rule) → n ≤ rule_rank Q → test Q ≡ true → rule_rank R ≤ rule_rank Q
    least Q above broken = at (cases_lt (rule_rank Q) (suc n))
      where
        at : (rule_rank Q < suc n) ⊎ (suc n ≤ rule_rank Q) → rule_rank R ≤ rule_rank Q
        at (inl h) =
            let same : Q ≡ S = same_rule Q S (omega (arith, h, above, place)) in
            absurd (cc (sym broken ∙ ap test same, sound))
        at (inr h) = first.2 Q h broken

find_first : (test : Rule → Bool) (n : ℕ) (Rs : List Rule) (R : Rule) → Ranked n Rs → find test Rs ≡ Some R → IsFirstFrom test n R
find_first test n [] R r e = absurd cc
find_first test n (S ∷ Rs) R r e = at (test S) refl e (find_first test (suc n) Rs R r.1)
  where
    at : (b : Bool) → test S ≡ b → cond b (Some S) (find test Rs) ≡ Some R → (find test Rs ≡ Some R → IsFirstFrom test (suc n) R)
        → IsFirstFrom test n R
    at true h e behind =
        let same : S ≡ R = some_injective S R e in
        let place : rule_rank R ≡ n = ap rule_rank (sym same) ∙ r.0 in
        (ap test (sym same) ∙ h, omega (arith, place), λ Q above broken. omega (arith, place, above))
    at false h e behind = first_after test n S R r.0 h (behind e)

-- where none is found, none at a place from n on is broken
find_none : (test : Rule → Bool) (n : ℕ) (Rs : List Rule) → Ranked n Rs → find test Rs ≡ None → (Q : Rule) → n ≤ rule_rank Q → rule_rank Q < n + length Rs
    → test Q ≡ false
find_none test n [] r e Q above below = absurd (omega (arith, above, below))
find_none test n (S ∷ Rs) r e Q above below =
    at (test S) refl e (λ g k. find_none test (suc n) Rs r.1 g Q k (omega (arith, below)))
  where
    at : (b : Bool) → test S ≡ b → cond b (Some S) (find test Rs) ≡ None → (find test Rs ≡ None → suc n ≤ rule_rank Q → test Q ≡ false) → test Q ≡ false
    at true h e behind = absurd cc
    at false h e behind = at_place (cases_lt (rule_rank Q) (suc n))
      where
        at_place : (rule_rank Q < suc n) ⊎ (suc n ≤ rule_rank Q) → test Q ≡ false
        at_place (inl k) = let same : Q ≡ S = same_rule Q S (omega (arith, k, above, r.0)) in ap test same ∙ h
        at_place (inr k) = behind e k

not_broken : (b : Bool) → b ≡ true → b ≡ false → ⊥
not_broken b h g = absurd (cc (h, g))

-- the first rule that is found is the first that is broken
pub first_rule-some : (test : Rule → Bool) (R : Rule) → IsOfShape test → first_rule test ≡ Some R → IsFirst test R
first_rule-some test R of_shape e =
    let p = find_first test 7 shape_rules R ranks e in
    (p.0, λ Q broken. at Q broken p (cases_lt (rule_rank Q) 7))
  where
    at : (Q : Rule) → test Q ≡ true → IsFirstFrom test 7 R → (rule_rank Q < 7) ⊎ (7 ≤ rule_rank Q) → rule_rank R ≤ rule_rank Q
    at Q broken p (inl h) = absurd (not_broken (test Q) broken (of_shape Q (inl h)))
    at Q broken p (inr h) = p.2 Q h broken

-- where none is found, none is broken
pub first_rule-none : (test : Rule → Bool) → IsOfShape test → first_rule test ≡ None → IsClean test
first_rule-none test of_shape e Q = at (cases_lt (rule_rank Q) 7)
  where
    at : (rule_rank Q < 7) ⊎ (7 ≤ rule_rank Q) → test Q ≡ false
    at (inl h) = of_shape Q (inl h)
    at (inr h) = at_end (cases_lt 25 (rule_rank Q))
      where
        at_end : (25 < rule_rank Q) ⊎ (rule_rank Q ≤ 25) → test Q ≡ false
        at_end (inl k) = of_shape Q (inr k)
        at_end (inr k) = find_none test 7 shape_rules ranks e Q h (omega (arith, k))
