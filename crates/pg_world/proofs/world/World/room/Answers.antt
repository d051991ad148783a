use Rattle.std.proofs.Common.{arith}
use Rattle.pg_world.proofs.Worlds.{room_left}
use Rattle.pg_world.proofs.world.World.room.Goals as goal

pub returns-clause-some : goal.returns-clause-some
returns-clause-some c unfinished =
    let some = room_left c.self.inside.block c.args.self.now c.self.invariant.0 c.self.view_is unfinished in
    let all = c.room.ensures in
    omega (arith, some, all)
