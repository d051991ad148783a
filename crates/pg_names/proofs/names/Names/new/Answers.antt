use Rattle.pg_names.proofs.Texts.{AreNames-nil}
use Rattle.pg_names.proofs.names.Names.new.Goals as goal

pub invariant_of-result : goal.invariant_of-result
invariant_of-result c = AreNames-nil c.new.result.keys c.new.ensures.len
