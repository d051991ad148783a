use Rattle.pg_atomic.proofs.LegalRuns.{run_is_legal}
use Rattle.pg_atomic.proofs.laws.runs_make_legal_requests.Goals as goal

pub returns : goal.returns
returns c = run_is_legal
