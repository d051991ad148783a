use Rattle.std.proofs.Common.{◌≡◌, ◌≤◌, ◌-◌}
use Rattle.std.specs.Prelude.{vec_capacity}
use Rattle.pg_block.specs.Openings.{new_lines}
use Rattle.pg_block.proofs.opening.new_lines.Given as goal

abbrev pub invariant-loop-i : goal.invariant-loop-i
invariant-loop-i l =
    (l.lines.items ≡ new_lines l.t l.cores 0 l.i)
    × (vec_capacity l.lines ≡ l.cores)
    × (l.i ≤ l.cores)

abbrev pub decreases-loop-i : goal.decreases-loop-i
decreases-loop-i l = l.cores - l.i
