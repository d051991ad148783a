-- What judging one line says of the rules that the line breaks.
use Rattle.std.proofs.Common.{◌≡◌, ℕ, ◌≤◌, Bool, true, false, List, Option, Some, None, Result, Ok, Err, refl, sym, ap, subst, ◌∙◌, arith, cond}
use Rattle.std.specs.Prelude.{◌&&◌, ◌==◌, not, length}
use Rattle.std.specs.Option.{option_map_or}
use Rattle.pg_perm.specs.declared.fault.Fault.{Fault}
use Rattle.pg_perm.specs.declared.fault.Rule.{Rule}
use Rattle.pg_perm.specs.declared.fault.Rule.TheVariants.{C1, C2, C3, C5}
use Rattle.pg_perm.specs.Rules.{rule_rank}
use Rattle.pg_script.specs.declared.statement.Statement.{Statement}
use Rattle.pg_script.specs.Scripts.{Operations}
use Rattle.pg_faults.specs.FirstFaults.{IsFirst, IsClean}
use Rattle.pg_faults.specs.LineRules as faults
use Rattle.pg_faults.specs.LineRules.{IsExact}
use Rattle.pg_script.specs.ScriptFaults.{is_op, is_bounded, with_statement, statement_at, line_breaks, operations_with_line, script_rules}
use Rattle.pg_script.specs.Texts.{judgement, line_judgement, operations_at}
use Rattle.pg_faults.proofs.LineFaults.{same_err, same_ok}

-- the rules that are broken by a line in a form for its place, from whether its numbers are in bounds and whether there is no room for it
abbrev broken : Bool → Bool → Rule → Bool
broken bounded full C2 = not bounded
broken bounded full C3 = full
broken bounded full _ = false

-- there is no room for an operation
abbrev pub is_over : Operations → Statement → Bool
is_over above s = is_op s && length above.ops == 16384

-- the rules that a line breaks, from what it says
abbrev broken_by : Operations → Option Statement → Rule → Bool
broken_by above None C1 = true
broken_by above None _ = false
broken_by above (Some s) R = broken (is_bounded above s) (is_over above s) R

-- the rules that a line breaks are those that what it says breaks
breaks_is : (above : Operations) (n : ℕ) (line : List ℕ) (o : Option Statement) → statement_at n line ≡ o → (R : Rule)
    → line_breaks above n line R ≡ broken_by above o R
breaks_is above n line None e C1 = ap (λ o. option_map_or (λ s. false) o true) e
breaks_is above n line None e C2 = ap (λ o. option_map_or (λ s. not (is_bounded above s)) o false) e
breaks_is above n line None e C3 = ap (λ o. option_map_or (is_over above) o false) e
breaks_is above n line None e _ = refl
breaks_is above n line (Some s) e C1 = ap (λ o. option_map_or (λ s. false) o true) e
breaks_is above n line (Some s) e C2 = ap (λ o. option_map_or (λ s. not (is_bounded above s)) o false) e
breaks_is above n line (Some s) e C3 = ap (λ o. option_map_or (is_over above) o false) e
breaks_is above n line (Some s) e _ = refl

-- a line in no form for its place breaks C1 alone
from_C1 : (above : Operations) (Q : Rule) → broken_by above None Q ≡ true → rule_rank C1 ≤ rule_rank Q
from_C1 above C1 h = omega arith
from_C1 above _ h = absurd cc

-- a line in a form breaks no rule before C2
from_C2 : (bounded full : Bool) (Q : Rule) → broken bounded full Q ≡ true → rule_rank C2 ≤ rule_rank Q
from_C2 bounded full C2 h = omega arith
from_C2 bounded full C3 h = omega arith
from_C2 bounded full _ h = absurd cc

-- where its numbers are in bounds, it breaks no rule before C3
from_C3 : (full : Bool) (Q : Rule) → broken true full Q ≡ true → rule_rank C3 ≤ rule_rank Q
from_C3 full C3 h = omega arith
from_C3 full _ h = absurd cc

-- where there is also room, it breaks none
none_broken : IsClean (broken true false)
none_broken C2 = refl
none_broken C3 = refl
none_broken _ = refl

-- the rule that is given is the first that is broken
judged_first : (above : Operations) (o : Option Statement) (R : Rule) → judgement above o ≡ Err R → IsFirst (broken_by above o) R
judged_first above None R e = subst (IsFirst (broken_by above None)) (same_err C1 R e) (refl, from_C1 above)
judged_first above (Some s) R e = at (is_bounded above s) (is_over above s) e
  where
    at : (bounded full : Bool) → cond bounded (cond full (Err C3) (Ok (with_statement above s))) (Err C2) ≡ Err R → IsFirst (broken bounded full) R
    at false full e = subst (IsFirst (broken false full)) (same_err C2 R e) (refl, from_C2 false full)
    at true true e = subst (IsFirst (broken true true)) (same_err C3 R e) (refl, from_C3 true)
    at true false e = absurd cc

-- a line that is taken breaks no rule, and what it says is then the last that is said
judged_clean : (above : Operations) (o : Option Statement) (more : Operations) → judgement above o ≡ Ok more
    → (more ≡ option_map_or (with_statement above) o above) × IsClean (broken_by above o)
judged_clean above None more e = absurd cc
judged_clean above (Some s) more e = at (is_bounded above s) (is_over above s) e
  where
    at : (bounded full : Bool) → cond bounded (cond full (Err C3) (Ok (with_statement above s))) (Err C2) ≡ Ok more
        → (more ≡ with_statement above s) × IsClean (broken bounded full)
    at false full e = absurd cc
    at true true e = absurd cc
    at true false e = (sym (same_ok _ _ e), none_broken)

-- a line that is refused breaks the rule that is given, and no rule before it
pub judge_first : (above : Operations) (n : ℕ) (line : List ℕ) (R : Rule) → line_judgement above n line ≡ Err R → IsFirst (line_breaks above n line) R
judge_first above n line R e =
    let same = breaks_is above n line (statement_at n line) refl in
    let first = judged_first above (statement_at n line) R e in
    (same R ∙ first.0, λ Q h. first.1 Q (sym (same Q) ∙ h))

-- a line that is taken breaks no rule, and is then the last of those above
pub judge_clean : (above : Operations) (n : ℕ) (line : List ℕ) (more : Operations) → line_judgement above n line ≡ Ok more
    → (more ≡ operations_with_line above n line) × IsClean (line_breaks above n line)
judge_clean above n line more e =
    let clean = judged_clean above (statement_at n line) more e in
    (clean.0, λ Q. breaks_is above n line (statement_at n line) refl Q ∙ clean.1 Q)

-- judging a line is exact
pub judge_exact : IsExact script_rules line_judgement
judge_exact = record { first = judge_first; clean = judge_clean }

-- what reading gives once line n was judged
abbrev pub read_on : ℕ → Bool → Result Operations Rule → List (List ℕ) → (Operations → Result Operations Fault) → Result Operations Fault
read_on n is_last j lines go_on = faults.read_on (Some C5) operations_at n is_last j lines go_on

-- what a line says that is taken: its numbers are in bounds, and there is room for it
pub record IsTaken (above more : Operations) (o : Option Statement) : Type 0 where
  pub statement : Statement
  pub is_some : o ≡ Some statement
  pub bounded : is_bounded above statement ≡ true
  pub room : is_over above statement ≡ false
  pub more_is : more ≡ with_statement above statement

pub judged_taken : (above more : Operations) (o : Option Statement) → judgement above o ≡ Ok more → IsTaken above more o
judged_taken above more None e = absurd cc
judged_taken above more (Some s) e = at (is_bounded above s) (is_over above s) refl refl e
  where
    at : (bounded full : Bool) → is_bounded above s ≡ bounded → is_over above s ≡ full
        → cond bounded (cond full (Err C3) (Ok (with_statement above s))) (Err C2) ≡ Ok more → IsTaken above more (Some s)
    at false full b f e = absurd cc
    at true true b f e = absurd cc
    at true false b f e = record { statement = s; is_some = refl; bounded = b; room = f; more_is = sym (same_ok _ _ e) }
