use Rattle.std.proofs.Common.{length}
use Rattle.pg_turn.proofs.Ends.{Gathered}
use Rattle.pg_turn.proofs.closing.gather.Given as goal

abbrev pub invariant-loop-other : goal.invariant-loop-other
invariant-loop-other g l = Gathered l.turn l.fn.passes.items l.passes.items l.whole

abbrev pub decreases-loop-other : goal.decreases-loop-other
decreases-loop-other g l = length l.passes.items
