use Rattle.pg_atomic.proofs.laws.loads_give_the_last_store.Goals as goal
use Rattle.pg_atomic.proofs.Parts.{load_gives_last_store}

pub returns : goal.returns
returns c = load_gives_last_store
