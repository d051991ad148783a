use Rattle.pg_atomic.proofs.CoresAfter.{store_leaves_dirty_owner, others_stay_at_store}
use Rattle.pg_atomic.proofs.laws.stores_leave_dirty_owners.Goals as goal

pub returns-clause-dirty : goal.returns-clause-dirty
returns-clause-dirty c = store_leaves_dirty_owner

pub returns-clause-others : goal.returns-clause-others
returns-clause-others c = others_stay_at_store
