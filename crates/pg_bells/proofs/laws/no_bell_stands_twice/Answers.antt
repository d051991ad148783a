use Rattle.std.proofs.Common.{[]}
use Rattle.pg_bells.proofs.Ends.{numbered_once}
use Rattle.pg_bells.proofs.laws.no_bell_stands_twice.Goals as goal

pub returns : goal.returns
returns c bells n core serial = (numbered_once [] bells n core serial).0
