use Rattle.pg_reached.proofs.Reached.{through_stays}
use Rattle.pg_reached.proofs.laws.cores_that_are_through_stay_so.Goals as goal

pub returns : goal.returns
returns c = through_stays
