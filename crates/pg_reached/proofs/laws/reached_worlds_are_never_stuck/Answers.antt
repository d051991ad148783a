use Rattle.pg_reached.proofs.Reached.{delivery_can_happen, event_can_happen}
use Rattle.pg_reached.proofs.laws.reached_worlds_are_never_stuck.Goals as goal

pub returns-clause-unsettled : goal.returns-clause-unsettled
returns-clause-unsettled c = delivery_can_happen

pub returns-clause-unfinished : goal.returns-clause-unfinished
returns-clause-unfinished c = event_can_happen
