use Rattle.std.proofs.Common.{◌≡◌, ◌++◌, ◌≤◌, ◌+◌, length}
use Rattle.pg_history.specs.HistoryText.{step_lines, block_text}
use Rattle.pg_history.proofs.history.write_history.Given as goal

-- what was written so far, and then the lines of the steps left, are the text of all after what there was; no more entries were made than steps
abbrev pub invariant-loop-step : goal.invariant-loop-step
invariant-loop-step l = (l.buffer.items ++ step_lines l.entries l.left ≡ l.fn.buffer.items ++ block_text l.fn.block l.fn.steps)
    × (l.entries + length l.left ≤ length l.initial.left)

abbrev pub decreases-loop-step : goal.decreases-loop-step
decreases-loop-step l = length l.left
