use Rattle.std.proofs.Common.{refl}
use Rattle.pg_print.proofs.laws.worked_texts.Goals as goal

pub returns-clause-mi_stall : goal.returns-clause-mi_stall
returns-clause-mi_stall c = refl

pub returns-clause-mi_defer : goal.returns-clause-mi_defer
returns-clause-mi_defer c = refl

pub returns-clause-msi_stall : goal.returns-clause-msi_stall
returns-clause-msi_stall c = refl

pub returns-clause-msi_defer : goal.returns-clause-msi_defer
returns-clause-msi_defer c = refl
