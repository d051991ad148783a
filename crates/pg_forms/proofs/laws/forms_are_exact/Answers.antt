use Rattle.pg_forms.proofs.Spellings.{line_of-some, line_of-spelling}
use Rattle.pg_forms.proofs.laws.forms_are_exact.Goals as goal

pub returns-clause-found : goal.returns-clause-found
returns-clause-found c = line_of-some

pub returns-clause-spelled : goal.returns-clause-spelled
returns-clause-spelled c = line_of-spelling
