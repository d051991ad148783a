use Rattle.std.proofs.Common.{refl}
use Rattle.pg_sched.proofs.laws.first_picks.Goals as goal

pub returns-clause-zero : goal.returns-clause-zero
returns-clause-zero c = refl

pub returns-clause-one : goal.returns-clause-one
returns-clause-one c = refl

pub returns-clause-third : goal.returns-clause-third
returns-clause-third c = refl
