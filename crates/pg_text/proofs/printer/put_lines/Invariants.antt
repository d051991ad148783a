use Rattle.std.proofs.Common.{◌≡◌, map, ◌++◌, length}
use Rattle.std.specs.String.{string_bytes}
use Rattle.pg_lines.specs.Lines.{text_of}
use Rattle.pg_forms.specs.Forms.{spelling}
use Rattle.pg_text.proofs.printer.put_lines.Given as goal

abbrev pub invariant-loop-line : goal.invariant-loop-line
invariant-loop-line g l = string_bytes l.text ++ text_of (map (λ x. spelling (g.T.Spelled.line l.draft x)) l.left)
    ≡ string_bytes l.initial.text ++ text_of (map (λ x. spelling (g.T.Spelled.line l.draft x)) l.initial.left)

abbrev pub decreases-loop-line : goal.decreases-loop-line
decreases-loop-line g l = length l.left
