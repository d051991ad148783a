use Rattle.pg_orderly.proofs.Opening.{opens}
use Rattle.pg_orderly.proofs.laws.openings_are_orderly.Goals as goal

pub returns : goal.returns
returns c = opens
