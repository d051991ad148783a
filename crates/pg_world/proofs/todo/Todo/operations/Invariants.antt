use Rattle.std.proofs.Common.{◌≡◌, ◌+◌, length}
use Rattle.pg_block.specs.Blocks.{given_of}
use Rattle.pg_world.specs.Kept.{operation_count}
use Rattle.pg_world.proofs.todo.Todo.operations.Given as goal

abbrev pub invariant-loop-program : goal.invariant-loop-program
invariant-loop-program l = l.count + operation_count (given_of l.left) ≡ operation_count l.self

abbrev pub decreases-loop-program : goal.decreases-loop-program
decreases-loop-program l = length l.left
