use Rattle.std.proofs.Common.{refl}
use Rattle.pg_refined.proofs.laws.worked_histories.Goals as goal

pub returns-clause-two_cores : goal.returns-clause-two_cores
returns-clause-two_cores c = (refl, refl, refl)

pub returns-clause-three_cores : goal.returns-clause-three_cores
returns-clause-three_cores c = (refl, refl)

pub returns-clause-evicts : goal.returns-clause-evicts
returns-clause-evicts c = (refl, refl, refl, refl, (refl, ((9, refl), refl)))

pub returns-clause-claims : goal.returns-clause-claims
returns-clause-claims c = (refl, refl, refl, refl, refl, refl, refl)
