use Rattle.pg_perm.proofs.Short.{name_is_short}
use Rattle.pg_perm.proofs.laws.names_are_short.Goals as goal

pub returns : goal.returns
returns c = name_is_short
