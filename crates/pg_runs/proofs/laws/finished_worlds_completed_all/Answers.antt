use Rattle.pg_runs.proofs.Headline.{finished_runs}
use Rattle.pg_runs.proofs.laws.finished_worlds_completed_all.Goals as goal

pub returns : goal.returns
returns c = finished_runs
