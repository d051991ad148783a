use Rattle.pg_directory.proofs.OneKind.{of_one_kind}
use Rattle.pg_directory.proofs.laws.kinds_are_told_apart.Goals as goal

pub returns : goal.returns
returns c = of_one_kind
