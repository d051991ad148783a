use Rattle.pg_script.proofs.Spellings.{statement_of-some, statement_of-spelling}
use Rattle.pg_script.proofs.laws.forms_are_exact.Goals as goal

pub returns-clause-found : goal.returns-clause-found
returns-clause-found c = statement_of-some

pub returns-clause-spelled : goal.returns-clause-spelled
returns-clause-spelled c = statement_of-spelling
