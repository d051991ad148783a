use Rattle.pg_infer.proofs.Moved.{moved_start, moved_is_not_granted}
use Rattle.pg_infer.proofs.laws.earlier_forwards_move_the_start.Goals as goal

pub returns-clause-start : goal.returns-clause-start
returns-clause-start c = moved_start

pub returns-clause-granted : goal.returns-clause-granted
returns-clause-granted c = moved_is_not_granted
