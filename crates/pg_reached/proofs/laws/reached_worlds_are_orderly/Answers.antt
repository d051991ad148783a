use Rattle.pg_reached.proofs.Reached.{sound_world}
use Rattle.pg_reached.proofs.laws.reached_worlds_are_orderly.Goals as goal

pub returns : goal.returns
returns c = sound_world
