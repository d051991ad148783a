use Rattle.std.proofs.Common.{List, None, ap, ◌∙◌}
use Rattle.pg_table.specs.declared.cache.Act.{Act}
use Rattle.pg_cache.specs.contracts.registers.Registers.{the_view}
use Rattle.pg_cache.specs.Acts.{LineView, progress, after_acts}
use Rattle.pg_cache.proofs.Settles.{settles}
use Rattle.pg_cache.proofs.registers.Registers.follow.Goals as goal

pub returns : goal.returns
returns c =
    let acts = ap (λ (xs : List Act). after_acts c.args.draft.now c.args.met.now xs (progress c.args.self.now c.args.wires.now None)) c.as_slice.ensures in
    let all = ap (λ (x : LineView). progress x c.carry_out.new.wires c.carry_out.new.done) c.self.view_is ∙ c.carry_out.ensures ∙ acts in
    settles c.args.draft.now c.args.met.now c.args.row.now.acts c.args.desc c.args.row.now.next c.args.self.now (the_view c.self.inside) c.args.wires.now c.carry_out.new.wires c.carry_out.new.done all
