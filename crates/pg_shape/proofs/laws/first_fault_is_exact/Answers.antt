use Rattle.pg_shape.proofs.Exact.{shape_fault_is_first, no_fault_is_shape, only_fault, shape_has_no_fault}
use Rattle.pg_shape.proofs.laws.first_fault_is_exact.Goals as goal

pub returns-clause-fault : goal.returns-clause-fault
returns-clause-fault c = λ d f h. (shape_fault_is_first d f h, only_fault d f h)

pub returns-clause-none : goal.returns-clause-none
returns-clause-none c = λ d h. (no_fault_is_shape d h, shape_has_no_fault d h)
