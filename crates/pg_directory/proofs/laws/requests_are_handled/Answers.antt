use Rattle.pg_directory.proofs.Handled.{legal_request_is_handled}
use Rattle.pg_directory.proofs.laws.requests_are_handled.Goals as goal

pub returns : goal.returns
returns c = legal_request_is_handled
