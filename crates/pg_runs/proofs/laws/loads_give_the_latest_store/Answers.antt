use Rattle.pg_runs.proofs.Headline.{latest_store}
use Rattle.pg_runs.proofs.laws.loads_give_the_latest_store.Goals as goal

pub returns : goal.returns
returns c = latest_store
