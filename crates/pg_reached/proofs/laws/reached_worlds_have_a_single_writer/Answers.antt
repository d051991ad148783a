use Rattle.pg_reached.proofs.Reached.{one_writer}
use Rattle.pg_reached.proofs.laws.reached_worlds_have_a_single_writer.Goals as goal

pub returns : goal.returns
returns c = one_writer
