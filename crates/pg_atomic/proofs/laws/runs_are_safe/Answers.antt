use Rattle.pg_atomic.proofs.laws.runs_are_safe.Goals as goal
use Rattle.pg_atomic.proofs.Reached.{runs_safely}

pub returns : goal.returns
returns c = runs_safely
