use Rattle.pg_atomic.proofs.CoresAfter.{requestor_moves, other_moves, transaction_grants}
use Rattle.pg_atomic.proofs.laws.transactions_move_each_core.Goals as goal

pub returns-clause-requestor : goal.returns-clause-requestor
returns-clause-requestor c = requestor_moves

pub returns-clause-others : goal.returns-clause-others
returns-clause-others c = other_moves

pub returns-clause-granted : goal.returns-clause-granted
returns-clause-granted c = transaction_grants
