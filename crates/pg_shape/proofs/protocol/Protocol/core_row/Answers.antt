use Rattle.std.proofs.Common.{subst}
use Rattle.pg_shape.specs.ShapeFaults.{HasShape}
use Rattle.pg_shape.proofs.Shaped.{core_answered}
use Rattle.pg_shape.proofs.protocol.Protocol.core_row.Goals as goal

pub unwrap-requires : goal.unwrap-requires
unwrap-requires c =
    core_answered c.args.self.now (subst HasShape c.self.view_is c.self.invariant.shape) c.args.state c.args.event c.requires.state c.requires.event c.core_row.result
    (cc (c.core_row.ensures, c.self.view_is))
