-- What a script says, or its first fault.
use Rattle.std.specs.Prelude.{ℕ, ◌≡◌, ◌&&◌, ◌==◌, List, length, Option, Some, None, Result, Ok, Err, if◌then◌else◌}
use Rattle.pg_perm.specs.declared.fault.Fault.{Fault}
use Rattle.pg_perm.specs.declared.fault.Rule.{Rule}
use Rattle.pg_perm.specs.declared.fault.Rule.TheVariants.{C1, C2, C3}
use Rattle.pg_lines.specs.Lines.{lines_of}
use Rattle.pg_script.specs.declared.statement.Statement.{Statement}
use Rattle.pg_script.specs.Scripts.{Operations}
use Rattle.pg_faults.specs.FirstFaults.{AreClean}
use Rattle.pg_faults.specs.LineRules as faults
use Rattle.pg_faults.specs.LineRules.{kept_to_end}
use Rattle.pg_script.specs.ScriptFaults.{no_operations, is_op, is_bounded, with_statement, statement_at, script_rules, Breaks}

-- what the lines say with one more below them, or the first rule that it breaks
abbrev pub judgement : Operations → Option Statement → Result Operations Rule
judgement above None = Err C1
judgement above (Some s) = if is_bounded above s then (if is_op s && length above.ops == 16384 then Err C3 else Ok (with_statement above s)) else Err C2

abbrev pub line_judgement : Operations → ℕ → List ℕ → Result Operations Rule
line_judgement above n line = judgement above (statement_at n line)

-- what is read of a script whose `done` is line n
abbrev pub operations_at : Operations → ℕ → Operations
operations_at above n = above

-- what the lines from line n on say, below others, or the first fault
abbrev pub read_lines : Operations → ℕ → List (List ℕ) → Result Operations Fault
read_lines above n lines = faults.read_lines script_rules line_judgement operations_at above n lines

-- what a script says, or its first fault
abbrev pub reading : List ℕ → Result Operations Fault
reading bytes = read_lines no_operations 1 (lines_of bytes)

-- the script breaks no rule, and says this
pub record IsScript (bytes : List ℕ) (s : Operations) : Type 0 where
  pub whole : AreClean (Breaks bytes)
  pub says : s ≡ (kept_to_end script_rules no_operations 1 (lines_of bytes)).0
