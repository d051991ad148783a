use Rattle.std.proofs.Common.{length, ap, ◌∙◌}
use Rattle.pg_controllers.specs.Directories.{is_busy}
use Rattle.pg_world.proofs.Follows.{shown_events}
use Rattle.pg_world.proofs.world.World.count_enabled.Goals as goal

pub returns : goal.returns
returns c =
    c.count.ensures
    ∙ ap length (shown_events c.self.inside.block c.args.self.now c.self.inside.index c.busy.result c.replies.result c.self.invariant.0 c.self.view_is c.self.invariant.1 (c.busy.ensures ∙ ap (λ h. is_busy h.desc) c.home.ensures) c.replies.ensures.replies)
