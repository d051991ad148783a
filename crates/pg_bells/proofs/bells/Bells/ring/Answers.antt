use Rattle.std.proofs.Common.{sym}
use Rattle.pg_bells.proofs.Steps.{rings, shows}
use Rattle.pg_bells.proofs.bells.Bells.ring.Goals as goal

pub push_as-requires-clause-rule : goal.push_as-requires-clause-rule
push_as-requires-clause-rule g c = let is = c.requires.pass.1 in (rings _ _ _ _ is.0.0 (sym is.1) (sym is.2), shows _ _ is.0.0)
