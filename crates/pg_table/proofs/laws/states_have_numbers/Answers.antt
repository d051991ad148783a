use Rattle.pg_table.proofs.Same.{same_desc_is, same_desc_self}
use Rattle.pg_table.proofs.Numbers.{number_of_at}
use Rattle.pg_table.proofs.laws.states_have_numbers.Goals as goal

pub returns-clause-same : goal.returns-clause-same
returns-clause-same c = same_desc_is

pub returns-clause-itself : goal.returns-clause-itself
returns-clause-itself c = same_desc_self

pub returns-clause-number : goal.returns-clause-number
returns-clause-number c = number_of_at
