-- The value of the digits of a number, read one by one.
use Rattle.std.proofs.Common.{◌≡◌, ℕ, ◌+◌, ◌-◌, ◌*◌, ◌^◌, ◌<◌, ◌≤◌, Bool, true, false, List, [], ◌∷◌, length, take, get_or, refl, arith}
use Rattle.std.specs.Prelude.{◌&&◌, ◌||◌, ◌==◌, not, nat_le, nat_lt}
use Rattle.std.specs.List.{list_all}
use Rattle.std.specs.Str.Parse.{digits_value}
use Rattle.std.proofs.lemmas.Bool.{and_parts, and_from, leb-true, le-leb, ltb-true, lt-ltb, eq-eqb, eqb-true}
use Rattle.std.proofs.lemmas.Str.{digit_value_digit}
use Rattle.std.proofs.lemmas.Str.Parse.{IsDigitsTest, IsNumeralModel, numerals_by_value, digit_at, digits_value_short, digits_value-take-le}
use Rattle.std.proofs.lemmas.Int.Digits.{digits_value_more}
use Rattle.pg_perm.specs.Names.{is_digit}
use Rattle.pg_script.specs.Numbers.{is_number}

-- the test for digits is one of just the digits
tells_digits : IsDigitsTest (λ ds. list_all is_digit ds ≡ true)
tells_digits = record {
  empty = refl;
  parts = λ c cs e.
      let both = and_parts (is_digit c) (list_all is_digit cs) e in
      let ends = and_parts (nat_le 48 c) (nat_le c 57) both.0 in
      ((leb-true 48 c ends.0, leb-true c 57 ends.1), both.1);
  more = λ c cs k e. and_from (is_digit c) (list_all is_digit cs) (and_from (nat_le 48 c) (nat_le c 57) (le-leb 48 c k.0) (le-leb c 57 k.1)) e;
}

pub decimals : IsNumeralModel (λ ds. list_all is_digit ds ≡ true) (digits_value 10)
decimals = numerals_by_value (λ ds. list_all is_digit ds ≡ true) tells_digits

-- what a word is that is a number
pub record IsNumberWord (w : List ℕ) : Type 0 where
  pub digits : list_all is_digit w ≡ true
  pub some : 0 < length w
  pub few : length w ≤ 20
  pub lead : get_or w 0 0 ≡ 48 → length w ≡ 1

pub number_word : (w : List ℕ) → is_number w ≡ true → IsNumberWord w
number_word [] h = absurd cc
number_word (b ∷ bs) h =
    let parts = and_parts (list_all is_digit (b ∷ bs) && nat_lt (length bs) 20) (not (b == 48) || length bs == 0) h in
    let front = and_parts (list_all is_digit (b ∷ bs)) (nat_lt (length bs) 20) parts.0 in
    record {
      digits = front.0;
      some = omega arith;
      few = omega (arith, ltb-true (length bs) 20 front.1);
      lead = λ e. omega (arith, eqb-true (length bs) 0 (alone (b == 48) (length bs == 0) (eq-eqb b 48 e) parts.1));
    }
  where
    alone : (zero lone : Bool) → zero ≡ true → (not zero || lone) ≡ true → lone ≡ true
    alone true lone e g = g
    alone false lone e g = absurd cc

pub word_number : (w : List ℕ) → IsNumberWord w → is_number w ≡ true
word_number [] word = absurd (omega (arith, word.some))
word_number (b ∷ bs) word =
    and_from (list_all is_digit (b ∷ bs) && nat_lt (length bs) 20) (not (b == 48) || length bs == 0)
    (and_from (list_all is_digit (b ∷ bs)) (nat_lt (length bs) 20) word.digits (lt-ltb (length bs) 20 (omega (arith, word.few))))
    (at (b == 48) refl)
  where
    at : (zero : Bool) → (b == 48) ≡ zero → (not zero || length bs == 0) ≡ true
    at true e = eq-eqb (length bs) 0 (omega (arith, word.lead (eqb-true b 48 e)))
    at false e = refl

-- one more digit
pub record IsDigitRead (w : List ℕ) (i value : ℕ) : Type 0 where
  pub fits : value * 10 + (get_or w i 0 - 48) < 10 ^ 20
  pub more : value * 10 + (get_or w i 0 - 48) ≡ digits_value 10 (take (i + 1) w)

pub digit_read : (w : List ℕ) (i value : ℕ) → is_number w ≡ true → i < length w → value ≡ digits_value 10 (take i w) → IsDigitRead w i value
digit_read w i value h below so_far =
    let word = number_word w h in
    let digit = digit_at w i (decimals.to w word.digits) below in
    let more : value * 10 + (get_or w i 0 - 48) ≡ digits_value 10 (take (i + 1) w) =
    omega (arith, so_far, digits_value_more 10 w i below, digit_value_digit (get_or w i 0) digit, digit.0) in
    record {
      fits = omega (arith, more, digits_value-take-le 10 w (i + 1) (omega arith), digits_value_short decimals w 20 word.digits word.few);
      more = more;
    }
