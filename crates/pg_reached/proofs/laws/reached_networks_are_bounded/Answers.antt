use Rattle.pg_reached.proofs.Reached.{messages_bounded, deferred_bound}
use Rattle.pg_reached.proofs.laws.reached_networks_are_bounded.Goals as goal

pub returns-clause-messages : goal.returns-clause-messages
returns-clause-messages c = messages_bounded

pub returns-clause-deferred : goal.returns-clause-deferred
returns-clause-deferred c = deferred_bound
