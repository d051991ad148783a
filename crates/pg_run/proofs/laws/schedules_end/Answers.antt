use Rattle.std.proofs.Common.{arith}
use Rattle.pg_table.specs.Pick.{pick}
use Rattle.pg_run.specs.Schedules.{draws_of, work_of, scheduled}
use Rattle.pg_run.proofs.Ends.{all_reached, all_quiet, all_of_quiet, all_finished}
use Rattle.pg_run.proofs.laws.schedules_end.Goals as goal

pub returns-clause-events : goal.returns-clause-events
returns-clause-events c d t given ws seed each = all_of_quiet d (pick t) (scheduled d (pick t) seed ws) (all_quiet d t given (work_of d ws) (draws_of seed) ws each (omega arith))

pub returns-clause-finished : goal.returns-clause-finished
returns-clause-finished c d t given ws seed each =
    all_finished d t given (scheduled d (pick t) seed ws) (all_reached d t given (work_of d ws) (draws_of seed) ws each)
    (all_of_quiet d (pick t) (scheduled d (pick t) seed ws) (all_quiet d t given (work_of d ws) (draws_of seed) ws each (omega arith)))
