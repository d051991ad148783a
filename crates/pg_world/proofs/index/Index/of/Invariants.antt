use Rattle.std.proofs.Common.{◌≡◌, ◌-◌, ◌≤◌}
use Rattle.pg_world.proofs.Follows.{index_below}
use Rattle.pg_world.proofs.index.Index.of.Given as goal

abbrev pub invariant-loop-core : goal.invariant-loop-core
invariant-loop-core l = (l.all ≡ index_below l.core l.block) × (l.core ≤ l.cores)

abbrev pub decreases-loop-core : goal.decreases-loop-core
decreases-loop-core l = l.cores - l.core
