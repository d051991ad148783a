use Rattle.pg_atomic.proofs.Operations.{allowed-append, after-append}
use Rattle.pg_atomic.proofs.Parts.{parts_allowed}
use Rattle.pg_atomic.proofs.Runs.{reached_more}
use Rattle.pg_atomic.proofs.laws.runs_in_parts.Goals as goal

pub returns-clause-joined : goal.returns-clause-joined
returns-clause-joined c = allowed-append

pub returns-clause-parts : goal.returns-clause-parts
returns-clause-parts c = parts_allowed

pub returns-clause-leads : goal.returns-clause-leads
returns-clause-leads c = after-append

pub returns-clause-more : goal.returns-clause-more
returns-clause-more c = reached_more
