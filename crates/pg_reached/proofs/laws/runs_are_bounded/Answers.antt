use Rattle.pg_reached.proofs.Reached.{journal_bounded, work_lowered}
use Rattle.pg_reached.proofs.laws.runs_are_bounded.Goals as goal

pub returns-clause-journal : goal.returns-clause-journal
returns-clause-journal c = journal_bounded

pub returns-clause-event : goal.returns-clause-event
returns-clause-event c = work_lowered
