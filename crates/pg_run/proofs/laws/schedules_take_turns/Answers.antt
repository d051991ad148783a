use Rattle.pg_run.specs.Schedules.{work_of}
use Rattle.pg_run.proofs.Ends.{drained_after, turns_end}
use Rattle.pg_run.proofs.laws.schedules_take_turns.Goals as goal

pub returns-clause-turn : goal.returns-clause-turn
returns-clause-turn c = drained_after

pub returns-clause-end : goal.returns-clause-end
returns-clause-end c d p ws x none = turns_end d p (work_of d ws) x ws none
