use Rattle.pg_reached.proofs.Waiting.{outstanding_until_stable}
use Rattle.pg_reached.proofs.laws.lines_are_stable_when_done.Goals as goal

pub returns : goal.returns
returns c = outstanding_until_stable
