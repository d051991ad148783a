use Rattle.std.proofs.Common.{◌≡◌, ◌<◌, List, length, Some, sym, ap, subst, ◌∙◌}
use Rattle.std.specs.Prelude.{slice_get}
use Rattle.pg_messages.specs.declared.messages.WorldEvent.{WorldEvent}
use Rattle.pg_controllers.specs.Directories.{is_busy}
use Rattle.pg_world.proofs.Follows.{shown_events}
use Rattle.pg_world.proofs.world.World.nth_enabled.Goals as goal

pub nth-requires-clause-within : goal.nth-requires-clause-within
nth-requires-clause-within c =
    let same = shown_events c.self.inside.block c.args.self.now c.self.inside.index c.busy.result c.replies.result c.self.invariant.0 c.self.view_is c.self.invariant.1 (c.busy.ensures ∙ ap (λ h. is_busy h.desc) c.home.ensures) c.replies.ensures.replies in
    subst (λ (es : List WorldEvent). c.args.i < length es) (sym same) c.requires

pub returns : goal.returns
returns c =
    let same = shown_events c.self.inside.block c.args.self.now c.self.inside.index c.busy.result c.replies.result c.self.invariant.0 c.self.view_is c.self.invariant.1 (c.busy.ensures ∙ ap (λ h. is_busy h.desc) c.home.ensures) c.replies.ensures.replies in
    subst (λ (es : List WorldEvent). slice_get es c.args.i ≡ Some c.nth.result) same c.nth.ensures
