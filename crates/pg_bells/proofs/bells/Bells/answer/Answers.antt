use Rattle.pg_bells.proofs.Steps.{answers, shows}
use Rattle.pg_bells.proofs.bells.Bells.answer.Goals as goal

pub pop_as-requires-clause-rule : goal.pop_as-requires-clause-rule
pop_as-requires-clause-rule g c = let is = c.requires.1 in (answers _ _ is.0.0, shows _ _ is.0.0)
