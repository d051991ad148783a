use Rattle.pg_table.proofs.Ends.{ack_ends_as_data, ack_ends_as_count}
use Rattle.pg_table.proofs.end_laws.last_acknowledgements_end_as_data.Goals as goal

pub returns-clause-data : goal.returns-clause-data
returns-clause-data c = ack_ends_as_data

pub returns-clause-count : goal.returns-clause-count
returns-clause-count c = ack_ends_as_count
