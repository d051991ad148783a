use Rattle.pg_table.proofs.Inputs.{choices_input}
use Rattle.pg_table.proofs.InputsApart.{inputs_distinct}
use Rattle.pg_table.proofs.laws.inputs_are_listed_once.Goals as goal

pub returns-clause-listed : goal.returns-clause-listed
returns-clause-listed c = choices_input

pub returns-clause-apart : goal.returns-clause-apart
returns-clause-apart c = inputs_distinct
