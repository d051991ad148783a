use Rattle.std.proofs.Common.{◌≡◌, ◌*◌, ◌-◌, ◌≤◌, take}
use Rattle.pg_tally.specs.Tallies.{IsAtMost}
use Rattle.pg_drill.specs.Drills.{tally_of_blocks}
use Rattle.pg_drill.proofs.counting.tally_of_blocks.Given as goal

-- the tally of the blocks so far, and how large it can be
abbrev pub invariant-loop-block : goal.invariant-loop-block
invariant-loop-block l =
    (l.tally ≡ tally_of_blocks l.script.cores (take l.block l.system.worlds))
    × IsAtMost (l.block * (4194304 * 4294967295)) l.tally
    × (l.block ≤ l.count)

abbrev pub decreases-loop-block : goal.decreases-loop-block
decreases-loop-block l = l.count - l.block
