-- What a function answers, against what is to be answered: want of memory may come in its place.
use Rattle.std.specs.Prelude.{ℕ, ◌≡◌, Result, Ok, Err}
use Rattle.pg_perm.specs.declared.fault.Fault.{Fault}
use Rattle.pg_perm.specs.declared.fault.Rule.{Rule}
use Rattle.pg_faults.specs.declared.error.LineError.{LineError}
use Rattle.pg_faults.specs.declared.error.LineError.TheVariants as line
use Rattle.pg_script.specs.declared.error.ScriptError.{ScriptError}
use Rattle.pg_script.specs.declared.error.ScriptError.TheVariants as script

abbrev pub Gives : {A : Type 0} → Result A ScriptError → Result A Fault → Type 0
Gives (Ok x) wanted = wanted ≡ Ok x
Gives (Err (script.Fault f)) wanted = wanted ≡ Err f
Gives (Err script.Memory) wanted = Unit {0}

-- the error of a script whose line n has this error
abbrev pub script_error : ℕ → LineError Rule → ScriptError
script_error n (line.Breaks R) = script.Fault (record { line = n; rule = R })
script_error n line.Memory = script.Memory
