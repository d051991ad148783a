-- Where the blocks stand, while operations are left.
use Rattle.std.specs.Prelude.{ℕ, ◌≡◌, ◌+◌, List, [], ◌∷◌, ◌++◌, length, slice_get, Some}
use Rattle.pg_perm.specs.declared.kinds.Op.{Op}
use Rattle.pg_perm.specs.declared.step.Step.{Step}
use Rattle.pg_perm.specs.declared.draft.Draft.{Draft}
use Rattle.pg_script.specs.declared.script.ScriptOp.{ScriptOp}
use Rattle.pg_atomic.specs.States.{initial_state}
use Rattle.pg_atomic.specs.Steps.{IsReached, after_step as atomic_step, after_steps}
use Rattle.pg_atomic.specs.Scripts.{op_steps, steps_of}
use Rattle.pg_history.specs.HistoryText.{block_text}
use Rattle.pg_atomic_run.specs.declared.block.Block.{Block}
use Rattle.pg_atomic_run.specs.Histories.{ops_on}

-- the block with one more step
abbrev pub block_after_step : Draft → Step → Block → Block
block_after_step d step x = record { atomic = atomic_step d x.atomic step; steps = x.steps ++ step ∷ [] }

-- the block once a core has made an operation on it
abbrev pub block_after_op : Draft → ℕ → Op → Block → Block
block_after_op d c o x = record { atomic = after_steps d x.atomic (op_steps d x.atomic c o); steps = x.steps ++ op_steps d x.atomic c o }

-- each block is in a state that a run of n cores reaches
abbrev pub AreReached : Draft → ℕ → List Block → Type 0
AreReached d n blocks = (b : ℕ) (x : Block) → slice_get blocks b ≡ Some x → IsReached d n x.atomic × (length x.atomic.states ≡ n)

-- the steps of each block, and those of the operations that are left, are all of its steps
abbrev pub AreStepsSoFar : Draft → (ℕ → List Step) → List ScriptOp → List Block → Type 0
AreStepsSoFar d all left blocks = (b : ℕ) (x : Block) → slice_get blocks b ≡ Some x → x.steps ++ steps_of d x.atomic (ops_on left b) ≡ all b

-- nothing was done on any block
abbrev pub AreOpen : Draft → ℕ → List Block → Type 0
AreOpen d n blocks = (b : ℕ) (x : Block) → slice_get blocks b ≡ Some x → x ≡ record { atomic = initial_state d n; steps = [] }

-- the texts of blocks, of which the first has number b
abbrev pub texts_of : ℕ → List Block → List ℕ
texts_of b [] = []
texts_of b (x ∷ xs) = block_text b x.steps ++ texts_of (b + 1) xs
