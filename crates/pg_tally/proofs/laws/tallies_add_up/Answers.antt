use Rattle.pg_tally.proofs.Sums.{tally_adds}
use Rattle.pg_tally.proofs.laws.tallies_add_up.Goals as goal

pub returns : goal.returns
returns c = tally_adds
