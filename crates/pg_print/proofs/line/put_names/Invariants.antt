use Rattle.std.proofs.Common.{◌≡◌, map, ◌++◌, length}
use Rattle.std.specs.String.{string_bytes}
use Rattle.pg_lines.specs.Lines.{text_of}
use Rattle.pg_print.specs.TableText as print
use Rattle.pg_print.proofs.line.put_names.Given as goal

-- what is written so far, and what is left, is all
abbrev pub invariant-loop-name : goal.invariant-loop-name
invariant-loop-name l = string_bytes l.text ++ text_of (print.name_lines l.word (map string_bytes l.left))
    ≡ string_bytes l.initial.text ++ text_of (print.name_lines l.word (map string_bytes l.initial.left))

abbrev pub decreases-loop-name : goal.decreases-loop-name
decreases-loop-name l = length l.left
