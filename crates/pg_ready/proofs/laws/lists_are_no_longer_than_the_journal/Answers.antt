use Rattle.pg_ready.proofs.Lists.{order_short, done_short, last_stamp}
use Rattle.pg_ready.proofs.laws.lists_are_no_longer_than_the_journal.Goals as goal

pub returns-clause-order : goal.returns-clause-order
returns-clause-order c = order_short

pub returns-clause-done : goal.returns-clause-done
returns-clause-done c = done_short

pub returns-clause-stamp : goal.returns-clause-stamp
returns-clause-stamp c = last_stamp
