use Rattle.std.proofs.Common.{◌≡◌, map, ◌++◌}
use Rattle.std.specs.String.{string_bytes}
use Rattle.pg_lines.specs.Lines.{text_of}
use Rattle.pg_print.proofs.Rows.{lines_before}
use Rattle.pg_print.proofs.controller.put_state.Given as goal

-- the lines of the rows so far are written
abbrev pub invariant-loop-place : goal.invariant-loop-place
invariant-loop-place g l = string_bytes l.text
    ≡ string_bytes l.initial.text ++ text_of (lines_before g.D.State.wording l.draft (map string_bytes l.names) l.table l.state l.place)
