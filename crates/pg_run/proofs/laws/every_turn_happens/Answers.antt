use Rattle.pg_run.proofs.Turns.{turn_is, no_turn}
use Rattle.pg_run.proofs.Ends.{next_reached, next_work, all_of_quiet}
use Rattle.pg_run.proofs.laws.every_turn_happens.Goals as goal

pub returns-clause-enabled : goal.returns-clause-enabled
returns-clause-enabled c = turn_is

pub returns-clause-reached : goal.returns-clause-reached
returns-clause-reached c = next_reached

pub returns-clause-work : goal.returns-clause-work
returns-clause-work c = next_work

pub returns-clause-none : goal.returns-clause-none
returns-clause-none c d p ws k none = all_of_quiet d p ws (λ i lt. no_turn d p ws k i none lt)
