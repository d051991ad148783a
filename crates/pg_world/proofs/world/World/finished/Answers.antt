use Rattle.std.proofs.Common.{ℕ, ap, ◌∙◌, nat_eq}
use Rattle.pg_world.proofs.Worlds.{finished_count}
use Rattle.pg_world.proofs.world.World.finished.Goals as goal

pub returns : goal.returns
returns c = ap (λ (n : ℕ). nat_eq n 0) c.count_enabled.ensures ∙ finished_count c.self.inside.block c.args.self.now c.self.invariant.0 c.self.view_is
