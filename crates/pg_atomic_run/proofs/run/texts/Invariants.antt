use Rattle.std.proofs.Common.{◌≡◌, ◌+◌, ◌++◌, length}
use Rattle.pg_atomic_run.specs.Blocks.{texts_of}
use Rattle.pg_atomic_run.proofs.run.texts.Given as goal

-- the texts so far, and those of the blocks that are left, are the texts of all
abbrev pub invariant-loop-block : goal.invariant-loop-block
invariant-loop-block l = (l.text.items ++ texts_of l.number l.left ≡ texts_of 0 l.initial.left) × (l.number + length l.left ≡ length l.initial.left)

abbrev pub decreases-loop-block : goal.decreases-loop-block
decreases-loop-block l = length l.left
