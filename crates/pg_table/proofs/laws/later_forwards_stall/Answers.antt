use Rattle.pg_table.proofs.Stalls.{both_choices, later_is_forward, stalls_at_later, others_go_on, none_waits}
use Rattle.pg_table.proofs.OneChoice.{single_choice}
use Rattle.pg_table.proofs.laws.later_forwards_stall.Goals as goal

pub returns-clause-both : goal.returns-clause-both
returns-clause-both c = both_choices

pub returns-clause-forwards : goal.returns-clause-forwards
returns-clause-forwards c = later_is_forward

pub returns-clause-one : goal.returns-clause-one
returns-clause-one c = single_choice

pub returns-clause-stalls : goal.returns-clause-stalls
returns-clause-stalls c = stalls_at_later

pub returns-clause-others : goal.returns-clause-others
returns-clause-others c = others_go_on

pub returns-clause-put_off : goal.returns-clause-put_off
returns-clause-put_off c = none_waits
