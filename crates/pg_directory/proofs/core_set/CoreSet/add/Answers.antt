use Rattle.std.proofs.Common.{ap, ◌∙◌}
use Rattle.pg_directory.specs.DirEntries.{with_core}
use Rattle.pg_directory.proofs.CoreBits.{cores_of-set}
use Rattle.pg_directory.proofs.core_set.CoreSet.add.Goals as goal

pub returns : goal.returns
returns c = cores_of-set c.self.inside.bits c.args.core c.requires ∙ ap (with_core c.args.core) c.self.view_is
