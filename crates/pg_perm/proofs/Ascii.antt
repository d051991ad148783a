use Rattle.std.proofs.Common.{◌≡◌, ℕ, zero, suc, ◌<◌, ◌≤◌, true, List, [], ◌∷◌, length, arith, get_or, ap, ◌∙◌}
use Rattle.std.specs.Prelude.{◌&&◌, ◌||◌, nat_lt}
use Rattle.std.specs.List.{list_all}
use Rattle.std.specs.Str.{IsAscii}
use Rattle.std.proofs.lemmas.Bool.Decides.{nat_tests}
use Rattle.std.proofs.lemmas.Bool.{and_parts}
use Rattle.pg_perm.specs.Names.{is_letter, is_digit, is_underscore, is_name_byte, is_name}

name_byte-ascii : (b : ℕ) → is_name_byte b ≡ true → b < 128
name_byte-ascii b h = grind (arith, nat_tests)

letter-name_byte : (b : ℕ) → is_letter b ≡ true → is_name_byte b ≡ true
letter-name_byte b h = ap (λ t. (t || is_digit b) || is_underscore b) h

all-ascii : (bs : List ℕ) → list_all is_name_byte bs ≡ true → (i : ℕ) → get_or bs i 0 < 128
all-ascii [] h i = omega arith
all-ascii (b ∷ bs) h zero = name_byte-ascii b (and_parts _ _ h).0
all-ascii (b ∷ bs) h (suc i) = all-ascii bs (and_parts (is_name_byte b) (list_all is_name_byte bs) h).1 i

-- the bytes of a name are ASCII
pub name-ascii : (w : List ℕ) → is_name w ≡ true → IsAscii w
name-ascii [] h i = omega arith
name-ascii (b ∷ bs) h i =
    let first : is_letter b ≡ true = (and_parts (is_letter b) _ (and_parts (is_letter b && nat_lt (length bs) 24) (list_all is_name_byte bs) h).0).0 in
    let rest : list_all is_name_byte bs ≡ true = (and_parts (is_letter b && nat_lt (length bs) 24) (list_all is_name_byte bs) h).1 in
    all-ascii (b ∷ bs) (ap (λ t. t && list_all is_name_byte bs) (letter-name_byte b first) ∙ rest) i

-- a name has at most 24 bytes
pub length-name : (w : List ℕ) → is_name w ≡ true → length w ≤ 24
length-name [] h = omega arith
length-name (b ∷ bs) h = short (and_parts (is_letter b) (nat_lt (length bs) 24) (and_parts (is_letter b && nat_lt (length bs) 24) (list_all is_name_byte bs) h).0).1
  where
    short : nat_lt (length bs) 24 ≡ true → length (b ∷ bs) ≤ 24
    short g = grind (arith, nat_tests)
