-- What a function answers, against what is to be answered: want of memory may come in its place.
use Rattle.std.specs.Prelude.{ℕ, ◌≡◌, Result, Ok, Err}
use Rattle.pg_perm.specs.declared.fault.Fault.{Fault}
use Rattle.pg_perm.specs.declared.fault.Rule.{Rule}
use Rattle.pg_faults.specs.declared.error.LineError.{LineError}
use Rattle.pg_faults.specs.declared.error.LineError.TheVariants as line
use Rattle.pg_text.specs.declared.error.TextError.{TextError}
use Rattle.pg_text.specs.declared.error.TextError.TheVariants as text

abbrev pub Gives : {A : Type 0} → Result A TextError → Result A Fault → Type 0
Gives (Ok x) wanted = wanted ≡ Ok x
Gives (Err (text.Form f)) wanted = wanted ≡ Err f
Gives (Err text.Memory) wanted = Unit {0}

-- the error of a text whose line n has this error
abbrev pub text_error : ℕ → LineError Rule → TextError
text_error n (line.Breaks R) = text.Form (record { line = n; rule = R })
text_error n line.Memory = text.Memory
