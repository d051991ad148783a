-- Lines that are read one after another up to an end line, under rules.
use Rattle.std.specs.Prelude.{ℕ, ◌≡◌, ◌+◌, ◌⊎◌, Bool, true, false, not, List, [], ◌∷◌, Option, Some, None, Result, Ok, Err, IsTrue, if◌then◌else◌}
use Rattle.pg_perm.specs.declared.fault.Fault.{Fault}
use Rattle.pg_perm.specs.declared.fault.Rule.{Rule}
use Rattle.pg_faults.specs.FirstFaults.{IsFirst, IsClean}

-- the rules of lines, each of which is judged by what those above it say
pub record LineRules (S : Type 0) : Type 0 where
  -- whether line n breaks a rule, below lines that say this
  pub breaks : S → ℕ → List ℕ → Rule → Bool
  -- what the lines say, with line n below them
  pub after : S → ℕ → List ℕ → S
  -- whether a line is the end line, after which no line is judged by these rules
  pub ends : List ℕ → Bool
  -- the rule that is broken after the last line where there is no end line
  pub missing : Rule
  -- the rule that is broken by a line after the end line, where one is
  pub past : Option Rule

-- line n, which stands after the end line, breaks this rule
abbrev pub BreaksPast : Option Rule → ℕ → List (List ℕ) → ℕ → Rule → Type 0
BreaksPast None n lines L R = ⊥
BreaksPast (Some Q) n [] L R = ⊥
BreaksPast (Some Q) n (line ∷ lines) L R = (L ≡ n) × (R ≡ Q)

-- line L breaks rule R, where these lines are numbered from n on and stand below others
abbrev pub BreaksIn : {S : Type 0} → LineRules S → S → ℕ → List (List ℕ) → ℕ → Rule → Type 0
BreaksIn rules above n [] L R = (L ≡ n) × (R ≡ rules.missing)
BreaksIn rules above n (line ∷ lines) L R = ((L ≡ n) × IsTrue (rules.breaks above n line R))
    ⊎ ((IsTrue (rules.ends line) × BreaksPast rules.past (n + 1) lines L R)
    ⊎ (IsTrue (not (rules.ends line)) × BreaksIn rules (rules.after above n line) (n + 1) lines L R))

-- what the lines up to the end line say, and its number
abbrev pub kept_to_end : {S : Type 0} → LineRules S → S → ℕ → List (List ℕ) → S × ℕ
kept_to_end rules above n [] = (above, n)
kept_to_end rules above n (line ∷ lines) = if rules.ends line then (rules.after above n line, n)
    else kept_to_end rules (rules.after above n line) (n + 1) lines

-- what is read of lines whose end line is line n, with these after it
abbrev pub reading_at_end : {Y : Type 0} → Option Rule → ℕ → Y → List (List ℕ) → Result Y Fault
reading_at_end None n whole lines = Ok whole
reading_at_end (Some Q) n whole [] = Ok whole
reading_at_end (Some Q) n whole (line ∷ lines) = Err (record { line = n + 1; rule = Q })

-- what reading gives once line n was judged
abbrev pub read_on : {S Y : Type 0} → Option Rule → (S → ℕ → Y) → ℕ → Bool → Result S Rule
    → List (List ℕ) → (S → Result Y Fault) → Result Y Fault
read_on past gist n is_last (Err R) lines go_on = Err (record { line = n; rule = R })
read_on past gist n true (Ok above) lines go_on = reading_at_end past n (gist above n) lines
read_on past gist n false (Ok above) lines go_on = go_on above

-- the gist of the lines from line n on, below others, each of which is judged in turn; or the first
-- fault
abbrev pub read_lines : {S Y : Type 0} → LineRules S → (S → ℕ → List ℕ → Result S Rule)
    → (S → ℕ → Y) → S → ℕ → List (List ℕ) → Result Y Fault
read_lines rules judge gist above n [] = Err (record { line = n; rule = rules.missing })
read_lines rules judge gist above n (line ∷ lines) =
    read_on rules.past gist n (rules.ends line) (judge above n line) lines
    (λ more. read_lines rules judge gist more (n + 1) lines)

-- a line is refused exactly by the first rule that it breaks, and else says what the rules say
pub record IsExact {S : Type 0} (rules : LineRules S) (judge : S → ℕ → List ℕ → Result S Rule)
    : Type 0 where
  pub first : (above : S) (n : ℕ) (line : List ℕ) (R : Rule) → judge above n line ≡ Err R
      → IsFirst (rules.breaks above n line) R
  pub clean : (above : S) (n : ℕ) (line : List ℕ) (more : S) → judge above n line ≡ Ok more
      → (more ≡ rules.after above n line) × IsClean (rules.breaks above n line)
