-- The text of a block's history: a line for each step.
use Rattle.std.specs.Prelude.{ℕ, zero, suc, ◌+◌, Bool, true, false, if◌then◌else◌, List, [], ◌∷◌, ◌++◌, codes}
use Rattle.std.specs.Fmt.{decimal}
use Rattle.pg_perm.specs.declared.kinds.Event.{Event}
use Rattle.pg_perm.specs.declared.step.Step.{Step}
use Rattle.pg_perm.specs.declared.step.Step.TheVariants.{Txn, Stale, Load, Store}
use Rattle.pg_perm.specs.Words.{event_word}

abbrev pub txn_line : ℕ → ℕ → Event → List ℕ
txn_line k c e = codes "txn " ++ decimal k ++ codes " c" ++ decimal c ++ codes " " ++ event_word e ++ codes "\n"

abbrev pub stale_line : ℕ → ℕ → List ℕ
stale_line k c = codes "stale " ++ decimal k ++ codes " c" ++ decimal c ++ codes "\n"

abbrev pub load_line : ℕ → ℕ → ℕ → List ℕ
load_line k c v = codes "acc " ++ decimal k ++ codes " c" ++ decimal c ++ codes " load " ++ decimal v ++ codes "\n"

abbrev pub store_line : ℕ → ℕ → ℕ → List ℕ
store_line k c v = codes "acc " ++ decimal k ++ codes " c" ++ decimal c ++ codes " store " ++ decimal v ++ codes "\n"

-- the line of a step, where this many transactions and stale evicts have been made, this step included
abbrev pub step_line : ℕ → Step → List ℕ
step_line k (Txn c e) = txn_line k c e
step_line k (Stale c) = stale_line k c
step_line k (Load c v) = load_line k c v
step_line k (Store c v) = store_line k c v

-- a transaction or a stale evict, and no access
abbrev pub is_entry : Step → Bool
is_entry (Txn c e) = true
is_entry (Stale c) = true
is_entry (Load c v) = false
is_entry (Store c v) = false

-- how many transactions and stale evicts there are with one step more
abbrev pub with_step : ℕ → Step → ℕ
with_step k x = if is_entry x then k + 1 else k

-- the lines of steps, after this many transactions and stale evicts
abbrev pub step_lines : ℕ → List Step → List ℕ
step_lines k [] = []
step_lines k (x ∷ xs) = step_line (with_step k x) x ++ step_lines (with_step k x) xs

-- the line that names the block
abbrev pub block_line : ℕ → List ℕ
block_line block = codes "block " ++ decimal block ++ codes "\n"

-- the line that names the block, and the lines of its steps
abbrev pub block_text : ℕ → List Step → List ℕ
block_text block steps = block_line block ++ step_lines 0 steps

-- the texts of k blocks, of which the first has number b
abbrev pub block_texts : (ℕ → List Step) → ℕ → ℕ → List ℕ
block_texts steps b zero = []
block_texts steps b (suc k) = block_text b (steps b) ++ block_texts steps (b + 1) k

-- the texts of n blocks, and a last line
abbrev pub histories_text : (ℕ → List Step) → ℕ → List ℕ
histories_text steps n = block_texts steps 0 n ++ codes "end\n"
