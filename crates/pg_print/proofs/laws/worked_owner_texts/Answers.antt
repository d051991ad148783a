use Rattle.std.proofs.Common.{refl}
use Rattle.pg_print.proofs.laws.worked_owner_texts.Goals as goal

pub returns-clause-mesi_stall : goal.returns-clause-mesi_stall
returns-clause-mesi_stall c = refl

pub returns-clause-mesi_defer : goal.returns-clause-mesi_defer
returns-clause-mesi_defer c = refl

pub returns-clause-moesi_stall : goal.returns-clause-moesi_stall
returns-clause-moesi_stall c = refl

pub returns-clause-moesi_defer : goal.returns-clause-moesi_defer
returns-clause-moesi_defer c = refl
