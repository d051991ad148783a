use Rattle.pg_ready.proofs.Counts.{orders_given, dones_given}
use Rattle.pg_ready.proofs.laws.lists_are_no_longer_than_the_operations.Goals as goal

pub returns-clause-order : goal.returns-clause-order
returns-clause-order c = orders_given

pub returns-clause-done : goal.returns-clause-done
returns-clause-done c = dones_given
