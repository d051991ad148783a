use Rattle.pg_table.proofs.DirTables.{busy_has_stall, busy_stalls}
use Rattle.pg_table.proofs.table_laws.directory_tables_stall_when_busy.Goals as goal

pub returns-clause-stalls : goal.returns-clause-stalls
returns-clause-stalls c = busy_has_stall

pub returns-clause-alone : goal.returns-clause-alone
returns-clause-alone c = busy_stalls
