use Rattle.pg_reached.proofs.Reached.{can_happen_there}
use Rattle.pg_reached.proofs.laws.enabled_events_can_happen.Goals as goal

pub returns : goal.returns
returns c = can_happen_there
