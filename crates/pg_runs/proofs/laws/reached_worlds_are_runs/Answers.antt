use Rattle.pg_runs.proofs.Headline.{reached_runs}
use Rattle.pg_runs.proofs.laws.reached_worlds_are_runs.Goals as goal

pub returns : goal.returns
returns c = reached_runs
