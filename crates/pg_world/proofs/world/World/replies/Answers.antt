use Rattle.pg_world.proofs.Worlds.{replies_few}
use Rattle.pg_world.proofs.world.World.replies.Goals as goal

pub returns-clause-few : goal.returns-clause-few
returns-clause-few c = rw c.replies.ensures (replies_few c.self.inside.block c.self.invariant.0)
