use Rattle.pg_shape.proofs.OwnerCount.{twelve_owners}
use Rattle.pg_shape.proofs.laws.owners_are_few.Goals as goal

pub returns : goal.returns
returns c = twelve_owners
