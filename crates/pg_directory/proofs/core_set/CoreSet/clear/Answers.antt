use Rattle.pg_directory.proofs.CoreBits.{cores_of-zero}
use Rattle.pg_directory.proofs.core_set.CoreSet.clear.Goals as goal

pub returns : goal.returns
returns c = cores_of-zero
