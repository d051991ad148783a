use Rattle.pg_table.proofs.Found.{sound_finds, sound_finds_none}
use Rattle.pg_table.proofs.laws.sound_tables_answer.Goals as goal

pub returns-clause-some : goal.returns-clause-some
returns-clause-some c = sound_finds

pub returns-clause-none : goal.returns-clause-none
returns-clause-none c = sound_finds_none
