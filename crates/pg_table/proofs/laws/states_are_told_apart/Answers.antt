use Rattle.pg_table.proofs.Distinct.{descs_distinct}
use Rattle.pg_table.proofs.laws.states_are_told_apart.Goals as goal

pub returns : goal.returns
returns c = descs_distinct
