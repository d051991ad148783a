use Rattle.pg_atomic.proofs.Entries.{entry_after_steps}
use Rattle.pg_atomic.proofs.laws.entries_follow_requests.Goals as goal

pub returns : goal.returns
returns c = entry_after_steps
