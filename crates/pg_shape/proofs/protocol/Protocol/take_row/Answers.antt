use Rattle.std.proofs.Common.{subst}
use Rattle.pg_shape.specs.ShapeFaults.{HasShape}
use Rattle.pg_shape.proofs.MissingTakes.{take_answered}
use Rattle.pg_shape.proofs.protocol.Protocol.take_row.Goals as goal

pub returns-clause-none : goal.returns-clause-none
returns-clause-none c =
    take_answered c.args.self.now (subst HasShape c.self.view_is c.self.invariant.shape) c.args.state c.args.forward c.take_row.result
    (cc (c.take_row.ensures, c.self.view_is))
