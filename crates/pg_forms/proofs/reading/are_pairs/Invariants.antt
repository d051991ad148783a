use Rattle.std.proofs.Common.{◌≡◌, length}
use Rattle.pg_forms.specs.Pairs.{are_pairs}
use Rattle.pg_forms.proofs.reading.are_pairs.Given as goal

-- what is left answers for all
abbrev pub invariant-loop-reply : goal.invariant-loop-reply
invariant-loop-reply l = are_pairs l.left ≡ are_pairs l.words

abbrev pub decreases-loop-reply : goal.decreases-loop-reply
decreases-loop-reply l = length l.left
