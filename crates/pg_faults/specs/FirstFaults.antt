-- First faults: the least line that breaks a rule, and of the rules that it breaks the least.
use Rattle.std.specs.Prelude.{ℕ, ◌≡◌, ◌≤◌, Bool, true, false}
use Rattle.pg_perm.specs.declared.fault.Fault.{Fault}
use Rattle.pg_perm.specs.declared.fault.Rule.{Rule}
use Rattle.pg_perm.specs.Rules.{rule_rank, IsNoLater}

-- R is broken, and each rule that is broken is R or comes after it
abbrev pub IsFirst : (Rule → Bool) → Rule → Type 0
IsFirst is_broken R =
    (is_broken R ≡ true) × ((Q : Rule) → is_broken Q ≡ true → rule_rank R ≤ rule_rank Q)

-- no rule is broken
abbrev pub IsClean : (Rule → Bool) → Type 0
IsClean is_broken = (Q : Rule) → is_broken Q ≡ false

-- no line breaks a rule
abbrev pub AreClean : (ℕ → Rule → Type 0) → Type 0
AreClean Breaks = (L : ℕ) (R : Rule) → Breaks L R → ⊥

-- the first of the faults that lines have
pub record IsFirstFault (Breaks : ℕ → Rule → Type 0) (f : Fault) : Type 0 where
  pub broken : Breaks f.line f.rule
  pub least : (L : ℕ) (R : Rule) → Breaks L R → IsNoLater f L R
