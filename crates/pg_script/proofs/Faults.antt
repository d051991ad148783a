-- What reading a script answers, against the rules that its lines break.
use Rattle.std.proofs.Common.{◌≡◌, ℕ, List, Result, Ok, Err, sym, ap, subst, ◌∙◌}
use Rattle.std.specs.Prelude.{IfOk}
use Rattle.pg_perm.specs.declared.fault.Fault.{Fault}
use Rattle.pg_lines.specs.Lines.{lines_of}
use Rattle.pg_faults.proofs.LineFaults.{read_fault, read_whole, only_fault as only_lines_fault, only_whole}
use Rattle.pg_script.specs.declared.error.ScriptError.{ScriptError}
use Rattle.pg_script.specs.declared.error.ScriptError.TheVariants as error
use Rattle.pg_script.specs.Answers.{Gives}
use Rattle.pg_script.specs.Scripts.{Operations}
use Rattle.pg_script.specs.ScriptFaults.{no_operations, script_rules, IsScriptFault}
use Rattle.pg_script.specs.Texts.{line_judgement, operations_at, reading, IsScript}
use Rattle.pg_script.proofs.Judging.{judge_exact}

-- a script that is refused has that first fault
pub reading_err_is_fault : (bytes : List ℕ) (f : Fault) → reading bytes ≡ Err f → IsScriptFault bytes f
reading_err_is_fault bytes f e = read_fault script_rules line_judgement operations_at judge_exact no_operations 1 (lines_of bytes) f e

-- a script that is taken breaks no rule, and says what is read
pub reading_ok_is_script : (bytes : List ℕ) (s : Operations) → reading bytes ≡ Ok s → IsScript bytes s
reading_ok_is_script bytes s e =
    let whole = read_whole script_rules line_judgement operations_at judge_exact no_operations 1 (lines_of bytes) s e in record { whole = whole.0; says = whole.1 }

-- the first fault is what reading gives
pub only_fault : (bytes : List ℕ) (f : Fault) → IsScriptFault bytes f → reading bytes ≡ Err f
only_fault bytes f first = only_lines_fault script_rules line_judgement operations_at judge_exact no_operations 1 (lines_of bytes) f first

-- what a script says is what reading gives
pub only_script : (bytes : List ℕ) (s : Operations) → IsScript bytes s → reading bytes ≡ Ok s
only_script bytes s is_script =
    only_whole script_rules line_judgement operations_at judge_exact no_operations 1 (lines_of bytes) is_script.whole ∙ ap Ok (sym is_script.says)

-- what a reader answered is the first fault
pub answered_fault : (bytes : List ℕ) (r : Result Operations ScriptError) → Gives r (reading bytes) → (f : Fault) → r ≡ Err (error.Fault f)
    → IsScriptFault bytes f
answered_fault bytes r reads f e = let P : Result Operations ScriptError → Type 0 = λ x. Gives x (reading bytes) in reading_err_is_fault bytes f (subst P e reads)

-- what holds of all that reading gives holds of what a reader answered
pub answered : (P : Operations → Type 0) (bytes : List ℕ) (r : Result Operations ScriptError) → Gives r (reading bytes)
    → ((s : Operations) → reading bytes ≡ Ok s → P s) → IfOk r P
answered P bytes (Ok s) reads each = each s reads
answered P bytes (Err e) reads each = tt
