use Rattle.std.proofs.Common.{length}
use Rattle.pg_options.specs.Options.{given_in, word_bytes}
use Rattle.pg_options.proofs.Firsts.{Keeps}
use Rattle.pg_options.proofs.rule.is_given.Given as goal

abbrev pub invariant-loop-other : goal.invariant-loop-other
invariant-loop-other l = Keeps l.option (given_in (word_bytes l.words)) (given_in (word_bytes l.rest))

abbrev pub decreases-loop-other : goal.decreases-loop-other
decreases-loop-other l = length (word_bytes l.rest)
