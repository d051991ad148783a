use Rattle.std.proofs.Common.{[]}
use Rattle.pg_bells.proofs.Told.{stand_all}
use Rattle.pg_bells.proofs.laws.bells_stand.Goals as goal

pub returns : goal.returns
returns c bells n = stand_all [] bells n
