use Rattle.std.proofs.Common.{Bool, ◌∙◌, sym, ap}
use Rattle.pg_perm.specs.declared.kinds.Role.{Role}
use Rattle.pg_perm.specs.declared.kinds.Event.TheVariants.{Store}
use Rattle.pg_race.specs.Sides.{side}
use Rattle.pg_infer.specs.Race.{is_before, role_of_start}
use Rattle.pg_infer.proofs.Race.{race_decides, no_forward_before}
use Rattle.pg_infer.proofs.forwards.is_earlier.Goals as goal

pub returns-in-Some : goal.returns-in-Some
returns-in-Some c =
    let d = c.args.protocol.now in
    c.is_before.ensures ∙ ap is_before c.order.ensures
    ∙ ap (λ (r : Role). is_before (side r Store c.is_tagged.result c.in-Some.class)) c.role_of_start.ensures
    ∙ ap (λ (b : Bool). is_before (side (role_of_start d c.args.start) Store b c.in-Some.class)) c.is_tagged.ensures
    ∙ sym (race_decides d c.args.start c.args.tag c.args.forward c.in-Some.class (sym c.class_of.ensures ∙ c.in-Some.is))

pub returns-in-None : goal.returns-in-None
returns-in-None c = sym (no_forward_before c.args.protocol.now c.args.start c.args.tag c.args.forward (sym c.class_of.ensures ∙ c.in-None.is))
