use Rattle.pg_run.specs.Schedules.{draws_of, work_of}
use Rattle.pg_run.proofs.Ends.{all_reached}
use Rattle.pg_run.proofs.laws.schedules_keep_blocks_reached.Goals as goal

pub returns : goal.returns
returns c d t given ws seed each = all_reached d t given (work_of d ws) (draws_of seed) ws each
