use Rattle.pg_block.proofs.Happens.{happened_is}
use Rattle.pg_block.proofs.block.Block.happen.Goals as goal

pub returns : goal.returns
returns c = let is = happened_is c.args.e c.args.self.now c.carry_out.new.self c.requires.fitted c.requires.can c.carry_out.ensures in record { world = is.0; rest = is.1 }
