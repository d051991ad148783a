use Rattle.std.proofs.Common.{◌∙◌}
use Rattle.pg_world.proofs.Worlds.{tells, shown_enabled}
use Rattle.pg_world.proofs.world.World.enabled.Goals as goal

pub is_enabled-requires : goal.is_enabled-requires
is_enabled-requires c = tells c.self.inside.block c.self.invariant.0

pub returns : goal.returns
returns c = c.is_enabled.ensures ∙ shown_enabled c.self.inside.block c.args.self.now c.args.e c.self.invariant.0 c.self.view_is
