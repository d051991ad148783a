use Rattle.pg_infer.proofs.Race.{race_decides_all}
use Rattle.pg_infer.proofs.laws.the_race_order_decides.Goals as goal

pub returns : goal.returns
returns c = race_decides_all
