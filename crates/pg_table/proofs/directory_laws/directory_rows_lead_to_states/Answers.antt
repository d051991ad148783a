use Rattle.pg_table.proofs.DirRows.{dir_row_leads_to_state}
use Rattle.pg_table.proofs.directory_laws.directory_rows_lead_to_states.Goals as goal

pub returns : goal.returns
returns c = dir_row_leads_to_state
