use Rattle.pg_serial.proofs.laws.entries_follow_the_order.Goals as goal
use Rattle.pg_serial.proofs.Runs.{directory_at}

pub returns : goal.returns
returns c = directory_at
