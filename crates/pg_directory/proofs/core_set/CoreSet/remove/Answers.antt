use Rattle.std.proofs.Common.{ap, ◌∙◌}
use Rattle.pg_directory.specs.DirEntries.{without_core}
use Rattle.pg_directory.proofs.CoreBits.{cores_of-clear}
use Rattle.pg_directory.proofs.core_set.CoreSet.remove.Goals as goal

pub returns : goal.returns
returns c = cores_of-clear c.self.inside.bits c.args.core c.requires ∙ ap (without_core c.args.core) c.self.view_is
