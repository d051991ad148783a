-- The order of rules and faults.
use Rattle.std.proofs.Common.{◌≡◌, ℕ, ◌<◌, ◌≤◌, ◌⊎◌, ap, sym, ◌∙◌, arith, inl, inr}
use Rattle.std.proofs.lemmas.Bool.{cases_lt, cases_order}
use denote.Enum.Bare.{tag_one}
use Rattle.pg_perm.specs.contracts.fault.Rule.{the_type}
use Rattle.pg_perm.specs.declared.fault.Fault.{Fault}
use Rattle.pg_perm.specs.declared.fault.Rule.{Rule}
use Rattle.pg_perm.specs.Rules.{rule_rank, IsNoLater}

-- two rules at one place are the same
pub same_rule : (Q R : Rule) → rule_rank Q ≡ rule_rank R → Q ≡ R
same_rule Q R e = tag_one the_type tt Q R (omega (arith, e))

-- each of two faults that come before the other is the other
pub same_fault : (f g : Fault) → IsNoLater f g.line g.rule → IsNoLater g f.line f.rule → f ≡ g
same_fault f g (inl before) (inl behind) = absurd (omega arith)
same_fault f g (inl before) (inr behind) = absurd (omega (arith, behind.0))
same_fault f g (inr before) (inl behind) = absurd (omega (arith, before.0))
same_fault f g (inr before) (inr behind) =
    let rules : f.rule ≡ g.rule = same_rule f.rule g.rule (omega (arith, before.1, behind.1)) in
    ap (λ (l : ℕ). record { line = l; rule = f.rule }) before.0 ∙ ap (λ (r : Rule). record { line = g.line; rule = r }) rules

-- of two faults the one or the other is no later
pub one_is_no_later : (f g : Fault) → IsNoLater f g.line g.rule ⊎ IsNoLater g f.line f.rule
one_is_no_later f g = by (cases_order f.line g.line)
  where
    by_rank : f.line ≡ g.line → (rule_rank f.rule < rule_rank g.rule) ⊎ (rule_rank g.rule ≤ rule_rank f.rule) → IsNoLater f g.line g.rule ⊎ IsNoLater g f.line f.rule
    by_rank same (inl below) = inl (inr (same, omega (arith, below)))
    by_rank same (inr no_less) = inr (inr (sym same, no_less))

    by : (f.line ≡ g.line) ⊎ ((f.line < g.line) ⊎ (g.line < f.line)) → IsNoLater f g.line g.rule ⊎ IsNoLater g f.line f.rule
    by (inl same) = by_rank same (cases_lt (rule_rank f.rule) (rule_rank g.rule))
    by (inr (inl before)) = inl (inl before)
    by (inr (inr behind)) = inr (inl behind)
