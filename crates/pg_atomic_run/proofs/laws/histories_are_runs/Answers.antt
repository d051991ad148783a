use Rattle.pg_atomic_run.proofs.Runs.{block_run}
use Rattle.pg_atomic_run.proofs.laws.histories_are_runs.Goals as goal

pub returns : goal.returns
returns c = block_run
