use Rattle.pg_atomic.proofs.WorkedRuns.{mesi_may_run, mesi_leads, passing_may_run, passing_leads}
use Rattle.pg_atomic.proofs.laws.worked_runs.Goals as goal

pub returns-clause-mesi : goal.returns-clause-mesi
returns-clause-mesi c = mesi_may_run

pub returns-clause-mesi_states : goal.returns-clause-mesi_states
returns-clause-mesi_states c = mesi_leads

pub returns-clause-passing : goal.returns-clause-passing
returns-clause-passing c = passing_may_run

pub returns-clause-passing_states : goal.returns-clause-passing_states
returns-clause-passing_states c = passing_leads
