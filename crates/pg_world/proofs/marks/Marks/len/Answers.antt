use Rattle.std.proofs.Common.{arith}
use Rattle.pg_world.proofs.CoresWhere.{few}
use Rattle.pg_world.proofs.marks.Marks.len.Goals as goal

pub returns-clause-few : goal.returns-clause-few
returns-clause-few c =
    let most = few 64 c.self.inside.cores c.self.invariant.rising c.self.invariant.below in
    let size = c.self.invariant.size in
    omega (arith, most, size)
