use Rattle.pg_reached.proofs.Reached.{openings_reached}
use Rattle.pg_reached.proofs.laws.openings_are_reached.Goals as goal

pub returns : goal.returns
returns c = openings_reached
