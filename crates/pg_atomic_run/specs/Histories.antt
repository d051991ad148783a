-- The histories of a script's blocks on the atomic machine.
use Rattle.std.specs.Prelude.{ℕ, ◌==◌, List, map, filter}
use Rattle.pg_perm.specs.declared.kinds.Op.{Op}
use Rattle.pg_perm.specs.declared.step.Step.{Step}
use Rattle.pg_perm.specs.declared.draft.Draft.{Draft}
use Rattle.pg_script.specs.declared.script.ScriptOp.{ScriptOp}
use Rattle.pg_script.specs.Scripts.{Operations}
use Rattle.pg_history.specs.HistoryText.{histories_text}
use Rattle.pg_atomic.specs.States.{initial_state}
use Rattle.pg_atomic.specs.Scripts.{steps_of}

-- the operations on a block, each with its core, in the order of their lines
abbrev pub ops_on : List ScriptOp → ℕ → List (ℕ × Op)
ops_on ops b = map (λ o. (o.core, o.op)) (filter (λ o. o.block == b) ops)

-- the steps of the operations on a block, one after another
abbrev pub block_steps : Draft → Operations → ℕ → List Step
block_steps d s b = steps_of d (initial_state d s.cores) (ops_on s.ops b)

-- the text of all blocks
abbrev pub histories : Draft → Operations → List ℕ
histories d s = histories_text (block_steps d s) s.blocks
