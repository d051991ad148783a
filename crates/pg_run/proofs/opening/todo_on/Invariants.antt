use Rattle.std.proofs.Common.{◌≡◌, ◌≤◌, ◌-◌}
use Rattle.std.specs.Prelude.{map}
use Rattle.std.specs.List.{range_with_len}
use Rattle.pg_script.specs.Scripts.{on_block}
use Rattle.pg_run.proofs.opening.todo_on.Given as goal

abbrev pub invariant-loop-core : goal.invariant-loop-core
invariant-loop-core l = (l.todo ≡ map (λ c. on_block l.script c l.block) (range_with_len 0 l.core)) × (l.core ≤ l.cores)

abbrev pub decreases-loop-core : goal.decreases-loop-core
decreases-loop-core l = l.cores - l.core
