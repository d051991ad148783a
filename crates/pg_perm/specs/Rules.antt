-- The rules that a line can break, and the order of faults.
use Rattle.std.specs.Prelude.{ℕ, ◌+◌, ◌≡◌, ◌<◌, ◌≤◌, ◌⊎◌, List, [], ◌∷◌, codes}
use denote.Enum.Declared.{tag_of}
use Rattle.pg_perm.specs.declared.fault.Fault.{Fault}
use Rattle.pg_perm.specs.declared.fault.Rule.{Rule}
use Rattle.pg_perm.specs.declared.fault.Rule.TheVariants.{F1, F2, F3, F4, F5, F6, S1, S2, S3, S4, S5, S6, S7, S8, S9, S10, S11, S12, S13, S14, S15, S16, S17, S18, S19, C1, C2, C3, C4, C5}
use Rattle.pg_perm.specs.contracts.fault.Rule.{the_type}

-- how a rule is printed
abbrev pub rule_name : Rule → List ℕ
rule_name F1 = codes "F1"
rule_name F2 = codes "F2"
rule_name F3 = codes "F3"
rule_name F4 = codes "F4"
rule_name F5 = codes "F5"
rule_name F6 = codes "F6"
rule_name S1 = codes "S1"
rule_name S2 = codes "S2"
rule_name S3 = codes "S3"
rule_name S4 = codes "S4"
rule_name S5 = codes "S5"
rule_name S6 = codes "S6"
rule_name S7 = codes "S7"
rule_name S8 = codes "S8"
rule_name S9 = codes "S9"
rule_name S10 = codes "S10"
rule_name S11 = codes "S11"
rule_name S12 = codes "S12"
rule_name S13 = codes "S13"
rule_name S14 = codes "S14"
rule_name S15 = codes "S15"
rule_name S16 = codes "S16"
rule_name S17 = codes "S17"
rule_name S18 = codes "S18"
rule_name S19 = codes "S19"
rule_name C1 = codes "C1"
rule_name C2 = codes "C2"
rule_name C3 = codes "C3"
rule_name C4 = codes "C4"
rule_name C5 = codes "C5"

-- the place of a rule among the rules, counted from 1
abbrev pub rule_rank : Rule → ℕ
rule_rank R = tag_of the_type R + 1

-- the rules in their order: F, then S, then C, each by number
abbrev pub ordered_rules : List Rule
ordered_rules = F1 ∷ F2 ∷ F3 ∷ F4 ∷ F5 ∷ F6 ∷ S1 ∷ S2 ∷ S3 ∷ S4 ∷ S5 ∷ S6 ∷ S7 ∷ S8 ∷ S9 ∷ S10 ∷ S11 ∷ S12 ∷ S13 ∷ S14 ∷ S15 ∷ S16 ∷ S17 ∷ S18 ∷ S19 ∷ C1 ∷ C2 ∷ C3 ∷ C4 ∷ C5 ∷ []

-- a fault is no later than a line and a rule: by the line, and then by the rule
abbrev pub IsNoLater : Fault → ℕ → Rule → Type 0
IsNoLater f L R = (f.line < L) ⊎ ((f.line ≡ L) × (rule_rank f.rule ≤ rule_rank R))
