use Rattle.std.proofs.Common.{length, ◌≡◌}
use Rattle.pg_options.specs.Options.{given_in, word_bytes, are_options}
use Rattle.pg_options.proofs.rule.are_options.Given as goal

abbrev pub invariant-loop-option : goal.invariant-loop-option
invariant-loop-option l = are_options l.command (given_in (word_bytes l.rest)) ≡ are_options l.command (given_in (word_bytes l.words))

abbrev pub decreases-loop-option : goal.decreases-loop-option
decreases-loop-option l = length (word_bytes l.rest)
