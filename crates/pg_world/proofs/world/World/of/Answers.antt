use Rattle.pg_world.proofs.Worlds.{tells}
use Rattle.pg_world.proofs.world.World.of.Goals as goal

pub of-index-requires-clause-few : goal.of-index-requires-clause-few
of-index-requires-clause-few c = c.requires.fitted.few

pub of-index-requires-clause-tells : goal.of-index-requires-clause-tells
of-index-requires-clause-tells c = tells c.args.block c.requires
