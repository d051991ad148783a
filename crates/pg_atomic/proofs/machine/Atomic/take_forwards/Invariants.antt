use Rattle.std.proofs.Common.{length}
use Rattle.pg_atomic.specs.States.{next_by_forward}
use Rattle.pg_atomic.proofs.Each.{HasMoved}
use Rattle.pg_atomic.proofs.machine.Atomic.take_forwards.Given as goal

abbrev pub invariant-loop-to : goal.invariant-loop-to
invariant-loop-to l = HasMoved (next_by_forward l.draft l.initial.self.entry (record { core = l.core; event = l.event })) l.initial.self l.self l.left

abbrev pub decreases-loop-to : goal.decreases-loop-to
decreases-loop-to l = length l.left
