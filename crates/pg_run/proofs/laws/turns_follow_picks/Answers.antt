use Rattle.std.proofs.Common.{refl}
use Rattle.pg_run.proofs.Cycles.{turn_event, turn_block}
use Rattle.pg_run.proofs.laws.turns_follow_picks.Goals as goal

pub returns-clause-zero : goal.returns-clause-zero
returns-clause-zero c = (refl, refl)

pub returns-clause-one : goal.returns-clause-one
returns-clause-one c = refl

pub returns-clause-event : goal.returns-clause-event
returns-clause-event c = turn_event

pub returns-clause-block : goal.returns-clause-block
returns-clause-block c = turn_block
