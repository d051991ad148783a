use Rattle.pg_lines.proofs.Cuts.{first_of_left}
use Rattle.pg_lines.proofs.words.Words.first.Goals as goal

pub returns-in-None : goal.returns-in-None
returns-in-None c = first_of_left c.self.inside.rest c.args.self.now c.in_ok-rest.rest _ c.self.view_is c.in_ok-rest.was c.in-None.ensures

pub returns-in-Some : goal.returns-in-Some
returns-in-Some c = first_of_left c.self.inside.rest c.args.self.now c.in_ok-rest.rest _ c.self.view_is c.in_ok-rest.was c.in-Some.ensures
