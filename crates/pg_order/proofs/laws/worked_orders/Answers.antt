use Rattle.std.proofs.Common.{refl}
use Rattle.pg_order.proofs.laws.worked_orders.Goals as goal

pub returns-clause-upgrade : goal.returns-clause-upgrade
returns-clause-upgrade c = (refl, refl, refl, refl, refl)

pub returns-clause-owner_stores : goal.returns-clause-owner_stores
returns-clause-owner_stores c = (refl, refl, refl, refl)

pub returns-clause-other_stores : goal.returns-clause-other_stores
returns-clause-other_stores c = (refl, refl)

pub returns-clause-lost_evict : goal.returns-clause-lost_evict
returns-clause-lost_evict c = (refl, refl, refl)

pub returns-clause-put_off : goal.returns-clause-put_off
returns-clause-put_off c = (refl, refl)
