use Rattle.std.proofs.Common.{◌≡◌, ◌≤◌, ◌*◌, ◌-◌}
use Rattle.std.specs.Prelude.{map}
use Rattle.std.specs.List.{range_with_len}
use Rattle.pg_script.specs.Drills.{state_after, drill_op}
use Rattle.pg_script.proofs.drill.drill_script.Given as goal

-- the operations so far, each of which took three draws
abbrev pub invariant-loop-number : goal.invariant-loop-number
invariant-loop-number l =
    (l.drawn ≡ map (drill_op l.seed l.cores l.blocks) (range_with_len 1 l.number)) × (l.pick ≡ state_after l.seed (3 * l.number)) × (l.number ≤ l.ops)

abbrev pub decreases-loop-number : goal.decreases-loop-number
decreases-loop-number l = l.ops - l.number
