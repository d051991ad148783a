use Rattle.pg_table.proofs.DirStalls.{busy_only}
use Rattle.pg_table.proofs.directory_laws.busy_states_have_rows.Goals as goal

pub returns-clause-no_other : goal.returns-clause-no_other
returns-clause-no_other c = busy_only
