use Rattle.std.proofs.Common.{◌≡◌, ◌-◌, ◌≤◌, ◌||◌, length}
use Rattle.pg_directory.specs.DirEntries.{is_among}
use Rattle.pg_world.specs.Indexed.{cores_where, can_take}
use Rattle.pg_world.proofs.CoresWhere.{below_and}
use Rattle.pg_world.proofs.index.Index.renew_heads.Given as goal

abbrev pub invariant-loop-core : goal.invariant-loop-core
invariant-loop-core l = (l.heads ≡ cores_where (below_and l.core (λ c. is_among l.fn.self.heads c || can_take l.block c)) (length l.block.lines)) × (l.core ≤ l.cores)

abbrev pub decreases-loop-core : goal.decreases-loop-core
decreases-loop-core l = l.cores - l.core
