-- The rules of a script, and its first fault.
use Rattle.std.specs.Prelude.{ℕ, Bool, true, false, not, ◌&&◌, ◌==◌, nat_lt, nat_le, List, [], ◌∷◌, ◌++◌, length, Option, Some, None, if◌then◌else◌}
use Rattle.std.specs.Option.{option_map_or}
use Rattle.pg_perm.specs.declared.fault.Fault.{Fault}
use Rattle.pg_perm.specs.declared.fault.Rule.{Rule}
use Rattle.pg_perm.specs.declared.fault.Rule.TheVariants.{C1, C2, C3, C4, C5}
use Rattle.pg_perm.specs.declared.kinds.Op.{Op as Operation}
use Rattle.pg_perm.specs.declared.kinds.Op.TheVariants as op
use Rattle.pg_lines.specs.Lines.{lines_of, words_of}
use Rattle.pg_faults.specs.FirstFaults.{IsFirstFault}
use Rattle.pg_faults.specs.LineRules.{LineRules, BreaksIn}
use Rattle.pg_script.specs.declared.statement.OpForm.{OpForm}
use Rattle.pg_script.specs.declared.statement.OpForm.TheVariants.{Load, Store, Evict}
use Rattle.pg_script.specs.declared.statement.Statement.{Statement}
use Rattle.pg_script.specs.declared.statement.Statement.TheVariants.{Cores, Blocks, Op, Done}
use Rattle.pg_script.specs.Reading.{statement_of}
use Rattle.pg_script.specs.Scripts.{Operations}

-- what no line says
abbrev pub no_operations : Operations
no_operations = record { cores = 0; blocks = 0; ops = [] }

-- the forms for a place: `cores` in line 1, `blocks` in line 2, and then operations and `done`
abbrev pub is_in_place : ℕ → Statement → Bool
is_in_place n (Cores count) = n == 1
is_in_place n (Blocks count) = n == 2
is_in_place n (Op core block form) = nat_lt 2 n
is_in_place n Done = nat_lt 2 n

abbrev pub is_op : Statement → Bool
is_op (Cores count) = false
is_op (Blocks count) = false
is_op (Op core block form) = true
is_op Done = false

-- the number is from 1 to a most
abbrev pub is_in_range : ℕ → ℕ → Bool
is_in_range most n = nat_le 1 n && nat_le n most

abbrev pub has_small_value : OpForm → Bool
has_small_value Load = true
has_small_value (Store value) = nat_le value 4294967295
has_small_value Evict = true

-- the numbers of a line are within their bounds, below lines that say how many cores and blocks there are
abbrev pub is_bounded : Operations → Statement → Bool
is_bounded above (Cores count) = is_in_range 32 count
is_bounded above (Blocks count) = is_in_range 64 count
is_bounded above (Op core block form) = nat_lt core above.cores && nat_lt block above.blocks && has_small_value form
is_bounded above Done = true

abbrev pub op_of : OpForm → Operation
op_of Load = op.Load
op_of (Store value) = op.Store value
op_of Evict = op.Evict

-- what lines say, with one more below them
abbrev pub with_statement : Operations → Statement → Operations
with_statement above (Cores count) = record above { cores = count }
with_statement above (Blocks count) = record above { blocks = count }
with_statement above (Op core block form) = record above { ops = above.ops ++ record { core = core; block = block; op = op_of form } ∷ [] }
with_statement above Done = above

-- a line that is in a form for its place, and what it says
abbrev pub statement_in_place : ℕ → Option Statement → Option Statement
statement_in_place n None = None
statement_in_place n (Some s) = if is_in_place n s then Some s else None

abbrev pub statement_at : ℕ → List ℕ → Option Statement
statement_at n line = statement_in_place n (statement_of (words_of line))

-- whether line n breaks a rule, below these lines
abbrev pub line_breaks : Operations → ℕ → List ℕ → Rule → Bool
line_breaks above n line C1 = option_map_or (λ s. false) (statement_at n line) true
line_breaks above n line C2 = option_map_or (λ s. not (is_bounded above s)) (statement_at n line) false
line_breaks above n line C3 = option_map_or (λ s. is_op s && length above.ops == 16384) (statement_at n line) false
line_breaks above n line R = false

-- what the lines say, with line n below them; one that isn't in a form for its place says nothing
abbrev pub operations_with_line : Operations → ℕ → List ℕ → Operations
operations_with_line above n line = option_map_or (with_statement above) (statement_at n line) above

-- whether a line is `done`
abbrev pub is_done : Statement → Bool
is_done (Cores count) = false
is_done (Blocks count) = false
is_done (Op core block form) = false
is_done Done = true

abbrev pub is_done_line : List ℕ → Bool
is_done_line line = option_map_or is_done (statement_of (words_of line)) false

-- the rules of the lines of a script. C4 is broken after the last line where there is no `done`, and C5 after `done` where there is anything
abbrev pub script_rules : LineRules Operations
script_rules = record { breaks = line_breaks; after = operations_with_line; ends = is_done_line; missing = C4; past = Some C5 }

-- line L of the script breaks rule R
abbrev pub Breaks : List ℕ → ℕ → Rule → Type 0
Breaks bytes L R = BreaksIn script_rules no_operations 1 (lines_of bytes) L R

-- the first fault of a script
abbrev pub IsScriptFault : List ℕ → Fault → Type 0
IsScriptFault bytes f = IsFirstFault (Breaks bytes) f
