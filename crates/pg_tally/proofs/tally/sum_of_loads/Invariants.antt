use Rattle.std.proofs.Common.{◌≡◌, ◌≤◌, ◌*◌, take}
use Rattle.std.specs.List.{sum_by}
use Rattle.pg_tally.specs.Tallies.{word_loaded}
use Rattle.pg_tally.proofs.tally.sum_of_loads.Given as goal

-- the sum so far, to which each step adds a word at most
abbrev pub invariant-loop-step : goal.invariant-loop-step
invariant-loop-step l = (l.sum ≡ sum_by word_loaded (take l.step-index l.steps)) × (l.sum ≤ l.step-index * 4294967295)
