use Rattle.pg_table.proofs.DirTables.{one_row, no_row, one_input}
use Rattle.pg_table.proofs.table_laws.directory_tables_have_one_row.Goals as goal

pub returns-clause-some : goal.returns-clause-some
returns-clause-some c = one_row

pub returns-clause-none : goal.returns-clause-none
returns-clause-none c = no_row

pub returns-clause-single : goal.returns-clause-single
returns-clause-single c = one_input
