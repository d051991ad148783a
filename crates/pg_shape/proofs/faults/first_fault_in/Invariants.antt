use Rattle.std.proofs.Common.{◌≡◌, ◌+◌, length}
use Rattle.pg_shape.specs.FirstFaults as first
use Rattle.pg_shape.proofs.faults.first_fault_in.Given as goal

-- the first fault of what is left is that of all, and its first line has this number
abbrev pub invariant-loop-line : goal.invariant-loop-line
invariant-loop-line g l = (first.first_fault_in g.L.Judged.line (g.L.Judged.breaks l.draft) l.number l.left ≡ first.first_fault_in g.L.Judged.line (g.L.Judged.breaks l.draft) 0 l.lines)
    × (l.number + length l.left ≡ length l.lines)

abbrev pub decreases-loop-line : goal.decreases-loop-line
decreases-loop-line g l = length l.left
