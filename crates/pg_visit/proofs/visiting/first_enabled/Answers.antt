use Rattle.pg_table.specs.Pick.{pick}
use Rattle.pg_visit.proofs.Steps.{first_enabled, some_enabled}
use Rattle.pg_visit.proofs.visiting.first_enabled.Goals as goal

pub nth_enabled-requires : goal.nth_enabled-requires
nth_enabled-requires c =
    some_enabled c.args.world.now.tables.protocol c.args.world.now.tables.cache c.args.world.now.given c.args.world.now.world c.finished.result c.journal-journal.ensures.reached c.finished.ensures c.if-finished.false

pub returns-else-finished-clause-some : goal.returns-else-finished-clause-some
returns-else-finished-clause-some c = first_enabled (pick c.args.world.now.tables.cache) c.args.world.now.world 0 c.nth_enabled.result c.nth_enabled.ensures
