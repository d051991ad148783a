use Rattle.std.proofs.Common.{◌≡◌, ◌≤◌, ◌-◌}
use Rattle.std.specs.Prelude.{vec_capacity}
use Rattle.pg_run.specs.Systems.{AreOpened}
use Rattle.pg_run.proofs.opening.all_opened.Given as goal

abbrev pub invariant-loop-block : goal.invariant-loop-block
invariant-loop-block l =
    AreOpened l.tables.value l.script l.block l.blocks.items
    × (vec_capacity l.blocks ≡ l.count)
    × (l.block ≤ l.count)

abbrev pub decreases-loop-block : goal.decreases-loop-block
decreases-loop-block l = l.count - l.block
