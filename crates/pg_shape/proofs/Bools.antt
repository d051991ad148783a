-- Answers that are put together.
use Rattle.std.proofs.Common.{◌≡◌, ◌⊎◌, Bool, true, false, not, ◌&&◌, ◌||◌, refl, inl, inr}

pub three_not : (a b c : Bool) → (a || b || c) ≡ false → (a ≡ false) × (b ≡ false) × (c ≡ false)
three_not true b c h = absurd cc
three_not false true c h = absurd cc
three_not false false c h = (refl, refl, h)

pub three_and : (a b c : Bool) → (a && b && c) ≡ true → (a ≡ true) × (b ≡ true) × (c ≡ true)
three_and true true c h = (refl, refl, h)
three_and true false c h = absurd cc
three_and false b c h = absurd cc

pub three_both : (a b c : Bool) → a ≡ true → b ≡ true → c ≡ true → (a && b && c) ≡ true
three_both true true c p q r = r
three_both true false c p q r = absurd cc
three_both false b c p q r = absurd cc

-- of two that aren't both so, the other isn't where the one is
pub and_not : (a b : Bool) → (a && b) ≡ false → a ≡ true → b ≡ false
and_not true b h e = h
and_not false b h e = absurd cc

pub true_not : (b : Bool) → not b ≡ true → b ≡ false
true_not true h = absurd cc
true_not false h = refl

pub and_of_both : (a b : Bool) → a ≡ true → b ≡ true → (a && b) ≡ true
and_of_both true b h g = g
and_of_both false b h g = absurd cc

pub or_true : (a b : Bool) → (a || b) ≡ true → (a ≡ true) ⊎ (b ≡ true)
or_true true b h = inl refl
or_true false b h = inr h

-- "where a, b" is kept and a is so
pub where_so : (a b : Bool) → (not a || b) ≡ true → a ≡ true → b ≡ true
where_so true b h e = h
where_so false b h e = absurd cc

pub or_of_either : (a b : Bool) → (a ≡ true) ⊎ (b ≡ true) → (a || b) ≡ true
or_of_either true b k = refl
or_of_either false b (inl h) = absurd cc
or_of_either false b (inr h) = h

pub one_three : (a b c : Bool) → (a || b || c) ≡ true → (a ≡ true) ⊎ ((b ≡ true) ⊎ (c ≡ true))
one_three true b c h = inl refl
one_three false true c h = inr (inl refl)
one_three false false c h = inr (inr h)
