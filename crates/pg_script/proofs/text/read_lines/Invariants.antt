use Rattle.std.proofs.Common.{length}
use Rattle.pg_script.proofs.Progress.{IsReadSoFar}
use Rattle.pg_script.proofs.text.read_lines.Given as goal

abbrev pub invariant-loop-line : goal.invariant-loop-line
invariant-loop-line l = IsReadSoFar l.bytes l.rest l.before l.reader

abbrev pub decreases-loop-line : goal.decreases-loop-line
decreases-loop-line l = length l.rest
