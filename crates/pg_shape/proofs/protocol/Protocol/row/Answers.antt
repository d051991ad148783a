use Rattle.std.proofs.Common.{subst}
use Rattle.pg_shape.specs.ShapeFaults.{HasShape}
use Rattle.pg_shape.proofs.Shaped.{row_answered}
use Rattle.pg_shape.proofs.protocol.Protocol.row.Goals as goal

pub returns-clause-none : goal.returns-clause-none
returns-clause-none c =
    row_answered c.args.self.now (subst HasShape c.self.view_is c.self.invariant.shape) c.args.dir c.args.at c.dir_row.result (cc (c.dir_row.ensures, c.self.view_is))
