use Rattle.std.proofs.Common.{◌-◌, ◌≡◌}
use Rattle.std.specs.List.{find, range_with_len}
use Rattle.pg_run.specs.Systems.{active_at}
use Rattle.pg_run.proofs.system.System.first_active.Given as goal

abbrev pub invariant-loop-i : goal.invariant-loop-i
invariant-loop-i l = (find (active_at l.self) (range_with_len l.from (l.to - l.from)) ≡ find (active_at l.self) (range_with_len l.i (l.to - l.i)))

abbrev pub decreases-loop-i : goal.decreases-loop-i
decreases-loop-i l = l.to - l.i
