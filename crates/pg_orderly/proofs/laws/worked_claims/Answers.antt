use Rattle.std.proofs.Common.{refl}
use Rattle.pg_orderly.proofs.laws.worked_claims.Goals as goal

pub returns-clause-tags : goal.returns-clause-tags
returns-clause-tags c = (refl, refl, refl, refl, refl, refl)

pub returns-clause-data : goal.returns-clause-data
returns-clause-data c = (refl, refl, refl, refl)

pub returns-clause-busy : goal.returns-clause-busy
returns-clause-busy c = ((refl, refl), (refl, refl))
