use Rattle.pg_atomic.proofs.Reached.{safe_step}
use Rattle.pg_atomic.proofs.laws.steps_keep_safety.Goals as goal

pub returns : goal.returns
returns c = λ d a x whole s safe allowed. safe_step d whole s a x safe allowed
