use Rattle.std.proofs.Common.{ap, ◌∙◌}
use Rattle.pg_table.specs.Pick.{pick}
use Rattle.pg_world.specs.Kept.{WorldView}
use Rattle.pg_run.specs.Schedules.{event_at}
use Rattle.pg_run.proofs.Blocks.{events_in, event_enabled}
use Rattle.pg_run.proofs.counted.Counted.advance.Goals as goal

pub step-requires : goal.step-requires
step-requires c =
    let w = c.self.inside.world in
    event_enabled (pick w.tables.cache) w.world c.args.k c.event_at-e.result (ap (λ (v : WorldView). event_at c.args.k (events_in v)) c.self.view_is ∙ c.event_at-e.ensures)
