use Rattle.pg_shape.proofs.Cores.{evict_clean, out_stays}
use Rattle.pg_shape.proofs.laws.evicts_are_clean_or_dirty.Goals as goal

pub returns-clause-clean_owner : goal.returns-clause-clean_owner
returns-clause-clean_owner c = λ d s m l x w h. evict_clean d w h s m x l

pub returns-clause-out : goal.returns-clause-out
returns-clause-out c = λ d s h. out_stays d h s
