use Rattle.std.proofs.Common.{refl}
use Rattle.std.specs.Fmt.{digits}
use Rattle.pg_script.proofs.laws.worked_drills.Goals as goal

pub returns-clause-small : goal.returns-clause-small
unfolding digits
returns-clause-small c = refl
