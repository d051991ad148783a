use Rattle.std.proofs.Common.{◌≡◌, map, ◌++◌, take}
use Rattle.std.specs.String.{string_bytes}
use Rattle.pg_lines.specs.Lines.{text_of}
use Rattle.pg_script.specs.Forms.{spelling}
use Rattle.pg_script.specs.Printing.{op_line_of}
use Rattle.pg_script.proofs.printer.put_ops.Given as goal

abbrev pub invariant-loop-op : goal.invariant-loop-op
invariant-loop-op l = string_bytes l.text ≡ string_bytes l.initial.text ++ text_of (map (λ o. spelling (op_line_of o)) (take l.op-index l.ops))
