use Rattle.std.proofs.Common.{◌≡◌}
use Rattle.pg_run.specs.Schedules.{draws_of, work_of}
use Rattle.pg_run.proofs.Drains.{drained_system}
use Rattle.pg_run.proofs.system.System.drain.Given as goal

-- what is left to happen is what is left of the schedule
abbrev pub invariant-loop-draws : goal.invariant-loop-draws
invariant-loop-draws l = (drained_system l.draws l.self ≡ drained_system (draws_of l.seed) l.fn.self)

abbrev pub decreases-loop-draws : goal.decreases-loop-draws
decreases-loop-draws l = work_of l.self.tables.protocol l.self.worlds
