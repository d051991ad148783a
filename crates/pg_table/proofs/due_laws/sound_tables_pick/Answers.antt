use Rattle.pg_table.proofs.Picked.{picks_choice, picks_onward, picks_some, picks_none}
use Rattle.pg_table.proofs.due_laws.sound_tables_pick.Goals as goal

pub returns-clause-choice : goal.returns-clause-choice
returns-clause-choice c = picks_choice

pub returns-clause-onward : goal.returns-clause-onward
returns-clause-onward c = picks_onward

pub returns-clause-some : goal.returns-clause-some
returns-clause-some c = picks_some

pub returns-clause-none : goal.returns-clause-none
returns-clause-none c = picks_none
