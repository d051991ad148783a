use Rattle.std.proofs.Common.{◌∙◌}
use Rattle.pg_world.proofs.Worlds.{core_count}
use Rattle.pg_world.proofs.world.World.cores.Goals as goal

pub returns-clause-cores : goal.returns-clause-cores
returns-clause-cores c = c.cores.ensures ∙ core_count c.self.inside.block c.args.self.now c.self.invariant.0 c.self.view_is
