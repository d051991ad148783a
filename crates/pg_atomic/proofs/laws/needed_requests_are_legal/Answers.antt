use Rattle.pg_atomic.proofs.CoresAfter.{needed_is_legal}
use Rattle.pg_atomic.proofs.laws.needed_requests_are_legal.Goals as goal

pub returns : goal.returns
returns c = needed_is_legal
