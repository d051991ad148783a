use Rattle.pg_table.proofs.Modes.{stall_among, among_defer}
use Rattle.pg_table.proofs.laws.states_of_both_modes.Goals as goal

pub returns-clause-needed : goal.returns-clause-needed
returns-clause-needed c = stall_among

pub returns-clause-known : goal.returns-clause-known
returns-clause-known c = among_defer
