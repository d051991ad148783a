use Rattle.pg_reached.proofs.Reached.{entry_of_requests, busy_with_share}
use Rattle.pg_reached.proofs.laws.the_directory_is_that_of_its_requests.Goals as goal

pub returns-clause-entry : goal.returns-clause-entry
returns-clause-entry c = entry_of_requests

pub returns-clause-busy : goal.returns-clause-busy
returns-clause-busy c = busy_with_share
