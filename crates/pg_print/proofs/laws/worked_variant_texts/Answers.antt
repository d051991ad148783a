use Rattle.std.proofs.Common.{refl}
use Rattle.pg_print.proofs.laws.worked_variant_texts.Goals as goal

pub returns-clause-two_shares : goal.returns-clause-two_shares
returns-clause-two_shares c = refl

pub returns-clause-owned_reader : goal.returns-clause-owned_reader
returns-clause-owned_reader c = refl

pub returns-clause-stall : goal.returns-clause-stall
returns-clause-stall c = refl

pub returns-clause-defer : goal.returns-clause-defer
returns-clause-defer c = refl
