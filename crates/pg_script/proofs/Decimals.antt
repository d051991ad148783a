-- The numbers of a script are just the decimals of at most 20 digits.
use Rattle.std.proofs.Common.{◌≡◌, ℕ, ◌+◌, ◌*◌, ◌/◌, ◌%◌, ◌^◌, ◌<◌, ◌≤◌, List, [], ◌∷◌, ◌++◌, length, get_or, Some, sym, ap, ◌∙◌, arith, append_assoc, append-nil, length-append}
use Rattle.std.specs.Char.{digit_value}
use Rattle.std.specs.Fmt.{decimal}
use Rattle.std.specs.Str.Parse.{AllDigits, digits_value, digits_value_after}
use Rattle.std.proofs.lemmas.Fmt.{decimal_digit, decimal_step_wide, decimal_by_steps_wide, decimal_is_IsNumeral_wide, length-decimal-le_wide}
use Rattle.std.proofs.Math.ListN.{get_or-append}
use Rattle.std.proofs.lemmas.Option.{cond_some}
use Rattle.std.proofs.lemmas.Str.{digit_value_digit}
use Rattle.std.proofs.lemmas.Str.Parse.{digit_from_value, digits_value_short}
use Rattle.pg_script.specs.Forms.{IsShort}
use Rattle.pg_script.specs.Numbers.{is_number, number_of}
use Rattle.pg_script.proofs.Digits.{decimals, IsNumberWord, number_word, word_number}

-- digits after a number make no smaller one
value_grows : (n : ℕ) (ds : List ℕ) → n ≤ digits_value_after 10 n ds
value_grows n [] = omega arith
value_grows n (c ∷ cs) = omega (arith, value_grows (n * 10 + digit_value c) cs)

-- digits after a number are those after its decimal
decimal_after : (n : ℕ) (ds : List ℕ) → 0 < n → AllDigits 10 ds → digits_value_after 10 n ds < 10 ^ 64
    → decimal (digits_value_after 10 n ds) ≡ decimal n ++ ds
decimal_after n [] some d small = sym (append-nil (decimal n))
decimal_after n (c ∷ cs) some d small =
    let m : ℕ = n * 10 + digit_value c in
    let k = digit_value_digit c (digit_from_value c d.0) in
    let front : m / 10 ≡ n = omega (arith, d.0) in
    let end : 48 + m % 10 ≡ c = omega (arith, d.0) in
    decimal_after m cs (omega arith) d.1 small
    ∙ ap (λ (x : List ℕ). x ++ cs) (decimal_step_wide m (omega arith) (omega (arith, small, value_grows m cs)) ∙ (λ i. decimal (front i) ++ (end i ∷ [])))
    ∙ append_assoc (decimal n) (c ∷ []) cs

-- digits without a zero that leads are the decimal of their value
decimal_of_digits : (ds : List ℕ) → AllDigits 10 ds → 0 < length ds → (get_or ds 0 0 ≡ 48 → length ds ≡ 1) → digits_value 10 ds < 10 ^ 64
    → decimal (digits_value 10 ds) ≡ ds
decimal_of_digits [] d some lead small = absurd (omega arith)
decimal_of_digits (c ∷ []) d some lead small =
    let k = digit_value_digit c (digit_from_value c d.0) in
    decimal_digit (0 * 10 + digit_value c) (omega (arith, d.0)) ∙ ap (λ (x : ℕ). x ∷ []) (omega arith)
decimal_of_digits (c ∷ e ∷ cs) d some lead small =
    let k = digit_value_digit c (digit_from_value c d.0) in
    let no_zero : c ≡ 48 → ⊥ = λ z. omega (arith, lead z) in
    let is : 48 + (0 * 10 + digit_value c) ≡ c = omega arith in
    decimal_after (0 * 10 + digit_value c) (e ∷ cs) (omega arith) d.1 small
    ∙ ap (λ (x : List ℕ). x ++ (e ∷ cs)) (decimal_digit (0 * 10 + digit_value c) (omega (arith, d.0)) ∙ ap (λ (x : ℕ). x ∷ []) is)

-- a word that is a number is its decimal, and has at most 20 digits
pub number_found : (w : List ℕ) (n : ℕ) → number_of w ≡ Some n → (w ≡ decimal n) × IsShort n
number_found w n e =
    let found = cond_some (is_number w) (digits_value 10 w) n e in
    let word = number_word w found.0 in
    let short : digits_value 10 w < 10 ^ 20 = digits_value_short decimals w 20 word.digits word.few in
    (sym (decimal_of_digits w (decimals.to w word.digits) word.some word.lead (omega (arith, short))) ∙ ap decimal found.1, omega (arith, short, found.1))

-- a decimal begins with 0 only where it is that of 0
first_zero : (n : ℕ) → n < 10 ^ 64 → (0 < length (decimal n)) × (get_or (decimal n) 0 0 ≡ 48 → n ≡ 0)
first_zero = decimal_by_steps_wide (λ m ds. (0 < length ds) × (get_or ds 0 0 ≡ 48 → m ≡ 0)) (λ m l. (omega arith, λ e. omega arith))
    (λ m ds l h. (omega (arith, length-append ds ((48 + m % 10) ∷ []), h.0), λ e. absurd (omega (arith, h.1 (sym (get_or-append ds ((48 + m % 10) ∷ []) 0 0 h.0) ∙ e)))))

-- the decimal of a number of at most 20 digits is one of the words that are numbers
pub decimal_word : (n : ℕ) → IsShort n → IsNumberWord (decimal n)
decimal_word n short =
    let numeral = decimal_is_IsNumeral_wide n (omega (arith, short)) in
    record {
      digits = decimals.from (decimal n) numeral.0.1;
      some = numeral.0.0;
      few = length-decimal-le_wide 20 n (omega arith) short (omega (arith, short));
      lead = λ e. ap (λ (m : ℕ). length (decimal m)) ((first_zero n (omega (arith, short))).1 e) ∙ ap length (decimal_digit 0 (omega arith));
    }

-- the decimal of a number is that number
pub number_again : (n : ℕ) → IsShort n → number_of (decimal n) ≡ Some n
number_again n short =
    let numeral = decimal_is_IsNumeral_wide n (omega (arith, short)) in
    rw (word_number (decimal n) (decimal_word n short)) (ap Some numeral.1)
