use Rattle.pg_atomic.proofs.laws.operations_are_runs.Goals as goal
use Rattle.pg_atomic.proofs.Operations.{runs_of}

pub returns : goal.returns
returns c = runs_of
