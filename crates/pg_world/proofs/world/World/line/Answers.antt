use Rattle.std.proofs.Common.{sym, ap, ◌∙◌, arith}
use Rattle.pg_controllers.specs.Worlds.{core}
use Rattle.pg_world.specs.Kept.{WorldView}
use Rattle.pg_world.proofs.Ready.{line_in}
use Rattle.pg_world.proofs.Worlds.{core_count}
use Rattle.pg_world.proofs.world.World.line.Goals as goal

pub line-requires : goal.line-requires
line-requires c =
    let many = core_count c.self.inside.block c.args.self.now c.self.invariant.0 c.self.view_is in
    omega (arith, many, c.requires)

pub returns : goal.returns
returns c =
    ap (λ l. l.line) c.line.ensures
    ∙ sym (line_in c.self.inside.block c.args.core c.self.invariant.0.fitted.sized)
    ∙ ap (λ (v : WorldView). (core v.world c.args.core).line) c.self.view_is
