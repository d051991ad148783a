-- The first fault of the shape, found line by line.
use Rattle.std.specs.Prelude.{ℕ, suc, Bool, List, [], ◌∷◌, Option, Some, None, find}
use Rattle.pg_perm.specs.declared.draft.Draft.{Draft}
use Rattle.pg_perm.specs.declared.fault.Fault.{Fault}
use Rattle.pg_perm.specs.declared.fault.Rule.{Rule}
use Rattle.pg_perm.specs.declared.fault.Rule.TheVariants.{S1, S2, S3, S4, S5, S6, S7, S8, S9, S10, S11, S12, S13, S14, S15, S16, S17, S18, S19}
use Rattle.pg_shape.specs.TextRules.{text_breaks}
use Rattle.pg_shape.specs.CacheRules.{cache_breaks}
use Rattle.pg_shape.specs.DirRules.{dir_breaks}
use Rattle.pg_shape.specs.MessageRules.{message_breaks}
use Rattle.pg_shape.specs.CoreRules.{core_breaks}
use Rattle.pg_shape.specs.TakeRules.{take_breaks}
use Rattle.pg_shape.specs.RowRules.{row_breaks}

-- the rules of the shape in their order
abbrev pub shape_rules : List Rule
shape_rules = S1 ∷ S2 ∷ S3 ∷ S4 ∷ S5 ∷ S6 ∷ S7 ∷ S8 ∷ S9 ∷ S10 ∷ S11 ∷ S12 ∷ S13 ∷ S14 ∷ S15 ∷ S16 ∷ S17 ∷ S18 ∷ S19 ∷ []

-- the first rule that is broken
abbrev pub first_rule : (Rule → Bool) → Option Rule
first_rule breaks = find breaks shape_rules

-- the fault of a line that breaks this rule, and else another
abbrev pub fault_or : ℕ → Option Rule → Option Fault → Option Fault
fault_or line None later = later
fault_or line (Some R) later = Some (record { line = line; rule = R })

-- the first fault among lines, of which the first is number n of its kind
abbrev pub first_fault_in : {X : Type 0} → (X → ℕ) → (ℕ → X → Rule → Bool) → ℕ → List X → Option Fault
first_fault_in line breaks n [] = None
first_fault_in line breaks n (x ∷ xs) = fault_or (line x) (first_rule (breaks n x)) (first_fault_in line breaks (suc n) xs)

abbrev pub or_later : Option Fault → Option Fault → Option Fault
or_later None later = later
or_later (Some f) later = Some f

-- the first fault of the shape
abbrev pub shape_fault : Draft → Option Fault
shape_fault d = or_later (fault_or d.line (first_rule (text_breaks d)) None)
    (or_later (first_fault_in (λ c. c.line) (cache_breaks d) 0 d.caches)
    (or_later (first_fault_in (λ l. l.line) (dir_breaks d) 0 d.dirs)
    (or_later (first_fault_in (λ m. m.line) (message_breaks d) 0 d.messages)
    (or_later (first_fault_in (λ c. c.line) (core_breaks d) 0 d.cores)
    (or_later (first_fault_in (λ t. t.line) (take_breaks d) 0 d.takes)
    (first_fault_in (λ r. r.line) (row_breaks d) 0 d.rows))))))
