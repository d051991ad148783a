use Rattle.pg_shape.proofs.Shaped.{take_is_due}
use Rattle.pg_shape.proofs.DueForwards.{inv_at_shared, other_at_owner, due_has_class}
use Rattle.pg_shape.proofs.laws.take_rows_are_due.Goals as goal

pub returns-clause-only_due : goal.returns-clause-only_due
returns-clause-only_due c = λ d s f t h. take_is_due d h s f t

pub returns-clause-class : goal.returns-clause-class
returns-clause-class c = due_has_class

pub returns-clause-inv : goal.returns-clause-inv
returns-clause-inv c = inv_at_shared

pub returns-clause-other : goal.returns-clause-other
returns-clause-other c = other_at_owner
