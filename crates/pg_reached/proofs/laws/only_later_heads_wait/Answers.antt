use Rattle.pg_reached.proofs.Reached.{head_is_later}
use Rattle.pg_reached.proofs.Waiting.{operations_go_on, replies_go_on}
use Rattle.pg_reached.proofs.laws.only_later_heads_wait.Goals as goal

pub returns-clause-operation : goal.returns-clause-operation
returns-clause-operation c = operations_go_on

pub returns-clause-reply : goal.returns-clause-reply
returns-clause-reply c = replies_go_on

pub returns-clause-head : goal.returns-clause-head
returns-clause-head c = head_is_later
