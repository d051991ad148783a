use Rattle.pg_runs.proofs.Headline.{event_true}
use Rattle.pg_runs.proofs.laws.events_keep_worlds_refined.Goals as goal

pub returns : goal.returns
returns c = event_true
