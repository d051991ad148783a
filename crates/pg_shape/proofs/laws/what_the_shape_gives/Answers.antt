use Rattle.pg_shape.proofs.ShapeGives.{shape_gives_all}
use Rattle.pg_shape.proofs.laws.what_the_shape_gives.Goals as goal

pub returns : goal.returns
returns c = record { given = shape_gives_all }
