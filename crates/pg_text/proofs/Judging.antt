-- What judging one line says of the rules that the line breaks.
use Rattle.std.proofs.Common.{◌≡◌, ℕ, ◌≤◌, Bool, true, false, List, Option, Some, None, Result, Ok, Err, refl, sym, subst, ◌∙◌, arith}
use Rattle.std.specs.Prelude.{◌||◌, nat_lt, length, is_none, unwrap_or}
use Rattle.pg_perm.specs.declared.draft.Draft.{Draft}
use Rattle.pg_perm.specs.declared.fault.Rule.{Rule}
use Rattle.pg_perm.specs.declared.fault.Rule.TheVariants.{F1, F2, F3, F4, F5}
use Rattle.pg_perm.specs.Rules.{rule_rank}
use Rattle.pg_perm.specs.declared.fault.Fault.{Fault}
use Rattle.pg_faults.specs.FirstFaults.{IsFirst, IsClean}
use Rattle.pg_faults.specs.LineRules as faults
use Rattle.pg_faults.specs.LineRules.{IsExact}
use Rattle.pg_forms.specs.declared.line.Kind.{Kind}
use Rattle.pg_forms.specs.declared.line.Line.{Line}
use Rattle.pg_lines.specs.Lines.{words_of}
use Rattle.pg_forms.specs.Kinds.{kind_of}
use Rattle.pg_forms.specs.Reading.{line_of}
use Rattle.pg_drafting.specs.Numbering.{with_line, is_taken, is_full}
use Rattle.pg_text.specs.FormFaults.{LinesAbove, is_out_of_order, line_breaks, above_with_form, above_with_line, form_rules}
use Rattle.pg_text.specs.Texts.{judgement, line_judgement, draft_at}
use Rattle.pg_forms.proofs.Options.{same_err, same_ok}

-- what is judged of a line of this kind, from the answers to F2 to F5
abbrev outcome : Kind → Bool → Bool → Option Draft → Bool → Result LinesAbove Rule
outcome k true taken more over = Err F2
outcome k false true more over = Err F3
outcome k false false None over = Err F4
outcome k false false (Some d) true = Err F5
outcome k false false (Some d) false = Ok (record { kind = Some k; draft = d })

-- the rules that are broken, from the same answers
abbrev broken : Bool → Bool → Option Draft → Bool → Rule → Bool
broken order taken more over F1 = false
broken order taken more over F2 = order
broken order taken more over F3 = taken
broken order taken more over F4 = is_none more
broken order taken more over F5 = over
broken order taken more over _ = false

-- no rule before F2 is among the broken ones
from_F2 : (order taken over : Bool) (more : Option Draft) (Q : Rule) → broken order taken more over Q ≡ true → rule_rank F2 ≤ rule_rank Q
from_F2 order taken over more F1 h = absurd cc
from_F2 order taken over more _ h = omega arith

-- where the order is right, no rule before F3 is among the broken ones
from_F3 : (taken over : Bool) (more : Option Draft) (Q : Rule) → broken false taken more over Q ≡ true → rule_rank F3 ≤ rule_rank Q
from_F3 taken over more F1 h = absurd cc
from_F3 taken over more F2 h = absurd cc
from_F3 taken over more _ h = omega arith

-- where also no name is taken, no rule before F4 is among them
from_F4 : (over : Bool) (more : Option Draft) (Q : Rule) → broken false false more over Q ≡ true → rule_rank F4 ≤ rule_rank Q
from_F4 over more F1 h = absurd cc
from_F4 over more F2 h = absurd cc
from_F4 over more F3 h = absurd cc
from_F4 over more _ h = omega arith

-- where also each name is declared, no rule before F5 is among them
from_F5 : (over : Bool) (d : Draft) (Q : Rule) → broken false false (Some d) over Q ≡ true → rule_rank F5 ≤ rule_rank Q
from_F5 over d F1 h = absurd cc
from_F5 over d F2 h = absurd cc
from_F5 over d F3 h = absurd cc
from_F5 over d F4 h = absurd cc
from_F5 over d _ h = omega arith

-- the rule that is given is the first broken one
outcome_first : (k : Kind) (order taken : Bool) (more : Option Draft) (over : Bool) (R : Rule)
    → outcome k order taken more over ≡ Err R → IsFirst (broken order taken more over) R
outcome_first k true taken more over R e = subst (IsFirst (broken true taken more over)) (same_err F2 R e) (refl, from_F2 true taken over more)
outcome_first k false true more over R e = subst (IsFirst (broken false true more over)) (same_err F3 R e) (refl, from_F3 true over more)
outcome_first k false false None over R e = subst (IsFirst (broken false false None over)) (same_err F4 R e) (refl, from_F4 over None)
outcome_first k false false (Some d) true R e = subst (IsFirst (broken false false (Some d) true)) (same_err F5 R e) (refl, from_F5 true d)
outcome_first k false false (Some d) false R e = absurd cc

-- where no answer is against the line, no rule is broken
none_broken : (d : Draft) → IsClean (broken false false (Some d) false)
none_broken d F1 = refl
none_broken d _ = refl

-- a line that is taken breaks no rule, and its kind and draft are then those of the lines above
outcome_sound : (k : Kind) (order taken : Bool) (more : Option Draft) (over : Bool) (old : Draft) (above : LinesAbove)
    → outcome k order taken more over ≡ Ok above → (above ≡ record { kind = Some k; draft = unwrap_or more old }) × IsClean (broken order taken more over)
outcome_sound k true taken more over old above e = absurd cc
outcome_sound k false true more over old above e = absurd cc
outcome_sound k false false None over old above e = absurd cc
outcome_sound k false false (Some d) true old above e = absurd cc
outcome_sound k false false (Some d) false old above e = (sym (same_ok _ above e), none_broken d)

-- a line in a form is judged by the answers to F2 to F5
judged_as : (above : LinesAbove) (n : ℕ) (is_long : Bool) (l : Line)
    → judgement above n is_long (Some l)
    ≡ outcome (kind_of l) (is_out_of_order n above.kind (kind_of l)) (is_taken above.draft l) (with_line above.draft n l) (is_long || is_full above.draft l)
judged_as above n is_long l = at _ _ _ _ _ refl refl refl refl refl
  where
    at : (order taken : Bool) (more : Option Draft) (long full : Bool) → is_out_of_order n above.kind (kind_of l) ≡ order → is_taken above.draft l ≡ taken
        → with_line above.draft n l ≡ more → is_long ≡ long → is_full above.draft l ≡ full
        → judgement above n is_long (Some l) ≡ outcome (kind_of l) order taken more (long || full)
    at true taken more long full a b c d e = rw a refl
    at false true more long full a b c d e = rw (a, b) refl
    at false false None long full a b c d e = rw (a, b, c) refl
    at false false (Some more) true true a b c d e = rw (a, b, c, d, e) refl
    at false false (Some more) true false a b c d e = rw (a, b, c, d, e) refl
    at false false (Some more) false true a b c d e = rw (a, b, c, d, e) refl
    at false false (Some more) false false a b c d e = rw (a, b, c, d, e) refl

-- the rules that a line breaks, from whether it is long and from its form
abbrev breaks_as : LinesAbove → ℕ → Bool → Option Line → Rule → Bool
breaks_as above n is_long None F1 = true
breaks_as above n is_long None F5 = is_long || false
breaks_as above n is_long None _ = false
breaks_as above n is_long (Some l) R =
    broken (is_out_of_order n above.kind (kind_of l)) (is_taken above.draft l) (with_line above.draft n l) (is_long || is_full above.draft l) R

-- the rules that a line breaks are those that its length and its form break
breaks_is : (above : LinesAbove) (n : ℕ) (ws : List (List ℕ)) (o : Option Line) → line_of ws ≡ o → (R : Rule)
    → line_breaks above n ws R ≡ breaks_as above n (nat_lt 80 (length ws)) o R
breaks_is above n ws None e F1 = rw e refl
breaks_is above n ws None e F2 = rw e refl
breaks_is above n ws None e F3 = rw e refl
breaks_is above n ws None e F4 = rw e refl
breaks_is above n ws None e F5 = rw e refl
breaks_is above n ws None e _ = refl
breaks_is above n ws (Some l) e F1 = rw e refl
breaks_is above n ws (Some l) e F2 = rw e refl
breaks_is above n ws (Some l) e F3 = rw e refl
breaks_is above n ws (Some l) e F4 = rw e refl
breaks_is above n ws (Some l) e F5 = rw e refl
breaks_is above n ws (Some l) e _ = refl

-- no rule comes before F1
from_F1 : (Q : Rule) → rule_rank F1 ≤ rule_rank Q
from_F1 F1 = omega arith
from_F1 _ = omega arith

-- a form that is refused breaks the rule that is given, and no rule before it
judged_first : (above : LinesAbove) (n : ℕ) (is_long : Bool) (o : Option Line) (R : Rule) → judgement above n is_long o ≡ Err R
    → IsFirst (breaks_as above n is_long o) R
judged_first above n is_long None R e = subst (IsFirst (breaks_as above n is_long None)) (same_err F1 R e) (refl, λ Q h. from_F1 Q)
judged_first above n is_long (Some l) R e =
    outcome_first (kind_of l) _ _ _ _ R (sym (judged_as above n is_long l) ∙ e)

-- a form that is taken breaks no rule, and is then the last of those above
judged_sound : (above : LinesAbove) (n : ℕ) (is_long : Bool) (o : Option Line) (more : LinesAbove) → judgement above n is_long o ≡ Ok more
    → (more ≡ above_with_form above n o) × IsClean (breaks_as above n is_long o)
judged_sound above n is_long None more e = absurd cc
judged_sound above n is_long (Some l) more e =
    outcome_sound (kind_of l) _ _ _ _ above.draft more (sym (judged_as above n is_long l) ∙ e)

-- a line that is refused breaks the rule that is given, and no rule before it
pub judge_first : (above : LinesAbove) (n : ℕ) (line : List ℕ) (R : Rule) → line_judgement above n line ≡ Err R → IsFirst (line_breaks above n (words_of line)) R
judge_first above n line R e =
    let same = breaks_is above n (words_of line) _ refl in
    let p = judged_first above n _ _ R e in
    (same R ∙ p.0, λ Q h. p.1 Q (sym (same Q) ∙ h))

-- a line that is taken breaks no rule, and is then the last of those above
pub judge_sound : (above : LinesAbove) (n : ℕ) (line : List ℕ) (more : LinesAbove) → line_judgement above n line ≡ Ok more
    → (more ≡ above_with_line above n line) × IsClean (line_breaks above n (words_of line))
judge_sound above n line more e =
    let p = judged_sound above n _ _ more e in
    (p.0, λ Q. breaks_is above n (words_of line) _ refl Q ∙ p.1 Q)

-- judging a line is exact
pub judge_exact : IsExact form_rules line_judgement
judge_exact = record { first = judge_first; clean = judge_sound }

-- what reading gives once line n was judged
abbrev pub read_on : ℕ → Bool → Result LinesAbove Rule → List (List ℕ) → (LinesAbove → Result (Draft × ℕ) Fault) → Result (Draft × ℕ) Fault
read_on n is_last j lines go_on = faults.read_on None draft_at n is_last j lines go_on
