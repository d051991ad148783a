use Rattle.pg_shape.proofs.NoneTwice.{inv_has_shared}
use Rattle.pg_shape.proofs.laws.invalidations_need_a_shared_state.Goals as goal

pub returns : goal.returns
returns c = λ d f h. inv_has_shared d h f
