use Rattle.std.proofs.Common.{refl}
use Rattle.std.specs.Fmt.{digits}
use Rattle.pg_tally.proofs.laws.worked_summaries.Goals as goal

pub returns-clause-two_operations : goal.returns-clause-two_operations
unfolding digits
returns-clause-two_operations c = refl

pub returns-clause-large : goal.returns-clause-large
unfolding digits
returns-clause-large c = refl
