use Rattle.pg_tally.proofs.Sums.{counted_once}
use Rattle.pg_tally.proofs.laws.each_step_is_counted_once.Goals as goal

pub returns : goal.returns
returns c = λ steps done journal. counted_once steps
