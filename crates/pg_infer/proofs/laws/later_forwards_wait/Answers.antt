use Rattle.pg_infer.proofs.Moved.{later_stalls, later_is_taken}
use Rattle.pg_infer.proofs.laws.later_forwards_wait.Goals as goal

pub returns-clause-stalls : goal.returns-clause-stalls
returns-clause-stalls c = later_stalls

pub returns-clause-taken : goal.returns-clause-taken
returns-clause-taken c = later_is_taken
