use Rattle.pg_atomic.proofs.Reached.{safe_runs_safely}
use Rattle.pg_atomic.proofs.laws.safe_states_run_safely.Goals as goal

pub returns : goal.returns
returns c = safe_runs_safely
