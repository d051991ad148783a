use Rattle.std.proofs.Common.{refl}
use Rattle.pg_world.specs.Enabled.{enabled_events}
use Rattle.pg_world.proofs.Enabled.{contains_of_in, in_of_contains, enabled_in, in_enabled}
use Rattle.pg_world.proofs.laws.enabled_events_are_all.Goals as goal

pub returns-clause-order : goal.returns-clause-order
returns-clause-order c = refl

pub returns-clause-member : goal.returns-clause-member
returns-clause-member c p w e = (λ on. contains_of_in (enabled_events p w) e (enabled_in p w e on), λ there. in_enabled p w e (in_of_contains (enabled_events p w) e there))
