use Rattle.pg_table.proofs.TableRows.{later_stalls, others_no_stall, later_has_row}
use Rattle.pg_table.proofs.table_laws.stalling_tables_stall_later_forwards.Goals as goal

pub returns-clause-stalls : goal.returns-clause-stalls
returns-clause-stalls c = later_stalls

pub returns-clause-others : goal.returns-clause-others
returns-clause-others c = others_no_stall

pub returns-clause-row : goal.returns-clause-row
returns-clause-row c = later_has_row
