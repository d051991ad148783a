use Rattle.pg_reached.proofs.Reached.{steps_reach}
use Rattle.pg_reached.proofs.laws.steps_lead_to_reached_worlds.Goals as goal

pub returns : goal.returns
returns c = steps_reach
