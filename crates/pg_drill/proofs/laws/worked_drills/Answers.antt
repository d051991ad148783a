use Rattle.std.proofs.Common.{refl}
use Rattle.std.specs.Fmt.{digits}
use Rattle.pg_drill.proofs.laws.worked_drills.Goals as goal

pub returns-clause-stalling : goal.returns-clause-stalling
unfolding digits
returns-clause-stalling c = refl

pub returns-clause-deferring : goal.returns-clause-deferring
unfolding digits
returns-clause-deferring c = refl

pub returns-clause-one_store : goal.returns-clause-one_store
unfolding digits
returns-clause-one_store c = refl
