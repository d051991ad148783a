use Rattle.pg_bells.proofs.Told.{rising_more}
use Rattle.pg_bells.proofs.laws.answers_rise.Goals as goal

pub returns-clause-more : goal.returns-clause-more
returns-clause-more c = rising_more
