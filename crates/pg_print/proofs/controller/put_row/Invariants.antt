use Rattle.std.proofs.Common.{◌≡◌, map, ◌++◌, length}
use Rattle.std.specs.String.{string_bytes}
use Rattle.pg_lines.specs.Lines.{text_of}
use Rattle.pg_print.specs.TableText as print
use Rattle.pg_print.proofs.controller.put_row.Given as goal

-- what is written so far, and what is left, is all
abbrev pub invariant-loop-input : goal.invariant-loop-input
invariant-loop-input g l = string_bytes l.text ++ text_of (map (print.input_line g.D.State.wording l.draft (map string_bytes l.names) l.name l.row) l.left)
    ≡ string_bytes l.initial.text ++ text_of (map (print.input_line g.D.State.wording l.draft (map string_bytes l.names) l.name l.row) l.initial.left)

abbrev pub decreases-loop-input : goal.decreases-loop-input
decreases-loop-input g l = length l.left
