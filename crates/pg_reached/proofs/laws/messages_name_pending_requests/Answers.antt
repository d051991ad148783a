use Rattle.pg_reached.proofs.Naming.{acknowledgement_names, data_names, ordered_names}
use Rattle.pg_reached.proofs.laws.messages_name_pending_requests.Goals as goal

pub returns-clause-ordered : goal.returns-clause-ordered
returns-clause-ordered c = ordered_names

pub returns-clause-data : goal.returns-clause-data
returns-clause-data c = data_names

pub returns-clause-acknowledgement : goal.returns-clause-acknowledgement
returns-clause-acknowledgement c = acknowledgement_names
