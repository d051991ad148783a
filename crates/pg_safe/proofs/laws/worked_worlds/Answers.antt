use Rattle.std.proofs.Common.{refl}
use Rattle.pg_safe.proofs.laws.worked_worlds.Goals as goal

pub returns-clause-events : goal.returns-clause-events
returns-clause-events c = (refl, refl, refl, refl)

pub returns-clause-put_off : goal.returns-clause-put_off
returns-clause-put_off c = (refl, refl)

pub returns-clause-invalidations : goal.returns-clause-invalidations
returns-clause-invalidations c = (refl, refl, refl)
