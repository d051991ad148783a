use Rattle.std.proofs.Common.{refl}
use Rattle.std.specs.Fmt.{digits}
use Rattle.pg_history.proofs.laws.worked_histories.Goals as goal

pub returns-clause-block : goal.returns-clause-block
unfolding digits
returns-clause-block c = refl

pub returns-clause-blocks : goal.returns-clause-blocks
unfolding digits
returns-clause-blocks c = refl

pub returns-clause-journal : goal.returns-clause-journal
unfolding digits
returns-clause-journal c = refl

pub returns-clause-nothing : goal.returns-clause-nothing
unfolding digits
returns-clause-nothing c = refl
