use Rattle.std.proofs.Common.{◌≡◌, ◌-◌, ◌≤◌, ◌++◌}
use Rattle.pg_history.specs.HistoryText.{block_texts}
use Rattle.pg_controller_run.specs.Histories.{serial_steps}
use Rattle.pg_controller_run.proofs.run.histories_text.Given as goal

-- the texts so far, and those of the blocks from here on, are the texts of all
abbrev pub invariant-loop-block : goal.invariant-loop-block
invariant-loop-block l = (l.text.items ++ block_texts (serial_steps l.system) l.block (l.count - l.block) ≡ block_texts (serial_steps l.system) 0 l.count) × (l.block ≤ l.count)

abbrev pub decreases-loop-block : goal.decreases-loop-block
decreases-loop-block l = l.count - l.block
