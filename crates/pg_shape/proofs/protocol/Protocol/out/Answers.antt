use Rattle.std.proofs.Common.{subst}
use Rattle.pg_shape.specs.ShapeFaults.{HasShape}
use Rattle.pg_shape.proofs.Shaped.{out_answered}
use Rattle.pg_shape.proofs.protocol.Protocol.out.Goals as goal

pub unwrap-requires : goal.unwrap-requires
unwrap-requires c = out_answered c.args.self.now (subst HasShape c.self.view_is c.self.invariant.shape) c.out.result (cc (c.out.ensures, c.self.view_is))
