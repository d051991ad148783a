-- Values that options may have begin with no hyphen.
use Rattle.std.proofs.Common.{◌≡◌, ℕ, Bool, true, false, ◌&&◌, ◌==◌, [], ◌∷◌, Option, Some, None, is_some, codes, if◌then◌else◌, refl, ap, ap₂, arith}
use Rattle.std.specs.Str.{bytes_eq}
use Rattle.std.specs.Option.{option_and_then}
use Rattle.std.specs.Str.Parse.{digits_value}
use Rattle.std.specs.Prelude.{nat_le}
use Rattle.std.proofs.lemmas.Slice.Eq.{bytes_eq-Decides}
use Rattle.clap.specs.Lexer.{strip_byte, long_of_rest, short_of_rest}
use Rattle.clap.specs.Walk.{Text}
use Rattle.pg_perm.specs.declared.kinds.Mode.TheVariants.{Stall, Defer}
use Rattle.pg_perm.specs.Names.{is_digit}
use Rattle.pg_script.specs.Numbers.{is_number}
use Rattle.pg_options.specs.declared.names.OptionName.{OptionName}
use Rattle.pg_options.specs.declared.names.OptionName.TheVariants as o
use Rattle.pg_options.specs.Options.{mode_in, within, number_in, allows}
use Rattle.pg_options.proofs.Walks.{IsPlain, dashes}

no_dashes : (v : Text) → strip_byte 45 v ≡ None → bytes_eq v dashes ≡ false
no_dashes [] e = refl
no_dashes (x ∷ xs) e = at_first (x == 45) e
  where
    at_first : (b : Bool) → (if b then Some xs else None) ≡ None → (b && bytes_eq xs (45 ∷ [])) ≡ false
    at_first true e = cc
    at_first false e = refl

plain_from : (v : Text) → strip_byte 45 v ≡ None → IsPlain v
plain_from v e = record {
  more = no_dashes v e;
  long = ap (λ (s : Option Text). option_and_then long_of_rest (option_and_then (strip_byte 45) s)) e;
  short = ap (option_and_then short_of_rest) e;
}

and_first : (a b : Bool) → (a && b) ≡ true → a ≡ true
and_first true b e = refl
and_first false b e = cc

no_hyphen : (b : ℕ) → is_digit b ≡ true → (b == 45) ≡ false
no_hyphen b e = grind (arith, and_first (nat_le 48 b) (nat_le b 57) e)

number_plain : (v : Text) → is_number v ≡ true → strip_byte 45 v ≡ None
number_plain [] e = refl
number_plain (b ∷ bs) e = ap (λ (t : Bool). if t then Some bs else None) (no_hyphen b (and_first _ _ (and_first _ _ (and_first _ _ e))))

number_some : (p : OptionName) (v : Text) (b : Bool) → is_number v ≡ b → is_some (number_in p v) ≡ true → strip_byte 45 v ≡ None
number_some p v true is e = number_plain v is
number_some p v false is e = let none : is_some (number_in p v) ≡ false = ap (λ (t : Bool). is_some (option_and_then (within p) (if t then Some (digits_value 10 v) else None))) is in cc

mode_plain : (v : Text) (a b : Bool) → bytes_eq v (codes "stall") ≡ a → bytes_eq v (codes "defer") ≡ b → is_some (mode_in v) ≡ true → strip_byte 45 v ≡ None
mode_plain v true b stall defer e = ap (strip_byte 45) ((bytes_eq-Decides v (codes "stall")).0 stall)
mode_plain v false true stall defer e = ap (strip_byte 45) ((bytes_eq-Decides v (codes "defer")).0 defer)
mode_plain v false false stall defer e =
    let none : is_some (mode_in v) ≡ false = ap₂ (λ (a b : Bool). is_some (if a then Some Stall else (if b then Some Defer else None))) stall defer in cc

pub plain_value : (p : OptionName) (v : Text) → allows p v ≡ true → IsPlain v
plain_value o.Mode v e = plain_from v (mode_plain v _ _ refl refl e)
plain_value o.Seed v e = plain_from v (number_some o.Seed v _ refl e)
plain_value o.Cores v e = plain_from v (number_some o.Cores v _ refl e)
plain_value o.Blocks v e = plain_from v (number_some o.Blocks v _ refl e)
plain_value o.Ops v e = plain_from v (number_some o.Ops v _ refl e)
