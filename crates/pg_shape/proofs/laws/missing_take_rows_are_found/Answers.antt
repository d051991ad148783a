use Rattle.pg_shape.proofs.MissingTakes.{lacks_due_pair}
use Rattle.pg_shape.proofs.laws.missing_take_rows_are_found.Goals as goal

pub returns : goal.returns
returns c = lacks_due_pair
