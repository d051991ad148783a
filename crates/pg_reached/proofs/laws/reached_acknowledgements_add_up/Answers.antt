use Rattle.pg_reached.proofs.Reached.{pending_has_entry, acknowledgements_sum, acknowledgements_none}
use Rattle.pg_reached.proofs.laws.reached_acknowledgements_add_up.Goals as goal

pub returns-clause-entry : goal.returns-clause-entry
returns-clause-entry c = pending_has_entry

pub returns-clause-sum : goal.returns-clause-sum
returns-clause-sum c = acknowledgements_sum

pub returns-clause-none : goal.returns-clause-none
returns-clause-none c = acknowledgements_none
