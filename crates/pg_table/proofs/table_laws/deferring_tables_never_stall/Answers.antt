use Rattle.pg_table.proofs.TableRows.{none_stalls}
use Rattle.pg_table.proofs.table_laws.deferring_tables_never_stall.Goals as goal

pub returns : goal.returns
returns c = none_stalls
