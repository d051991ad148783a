use Rattle.std.proofs.Common.{◌≡◌, ℕ, List, length, true}
use Rattle.std.specs.List.{list_all}
use Rattle.pg_perm.specs.declared.step.Step.{Step}
use Rattle.pg_script.specs.Scripts.{is_inside}
use Rattle.pg_atomic_run.specs.Blocks.{AreReached, AreStepsSoFar}
use Rattle.pg_atomic_run.proofs.run.perform_all.Given as goal

-- there are as many blocks, and each of them stands where the operations that are left lead to what all of them do
abbrev pub invariant-loop-op : goal.invariant-loop-op
invariant-loop-op l = (length l.blocks.items ≡ length l.initial.blocks.items)
    × (list_all (is_inside l.cores (length l.initial.blocks.items)) l.left ≡ true)
    × AreReached l.protocol l.cores l.blocks.items
    × ((all : ℕ → List Step) → AreStepsSoFar l.protocol all l.initial.left l.initial.blocks.items → AreStepsSoFar l.protocol all l.left l.blocks.items)

abbrev pub decreases-loop-op : goal.decreases-loop-op
decreases-loop-op l = length l.left
