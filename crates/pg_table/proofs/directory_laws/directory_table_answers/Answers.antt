use Rattle.pg_table.proofs.DirFound.{dir_finds, dir_finds_none}
use Rattle.pg_table.proofs.directory_laws.directory_table_answers.Goals as goal

pub returns-clause-some : goal.returns-clause-some
returns-clause-some c = dir_finds

pub returns-clause-none : goal.returns-clause-none
returns-clause-none c = dir_finds_none
