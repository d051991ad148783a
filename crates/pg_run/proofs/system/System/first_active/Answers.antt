use Rattle.std.proofs.Common.{◌<◌, length, sym, ◌∙◌, arith}
use Rattle.pg_run.specs.Systems.{active_at}
use Rattle.pg_run.proofs.Blocks.{shown_active, shown_length, search_here, search_more}
use Rattle.pg_run.proofs.system.System.first_active.Goals as goal

pub returns-then-is_active : goal.returns-then-is_active
returns-then-is_active c =
    let size = shown_length c.self.inside.tables.value c.self.inside.blocks.items c.args.self.now c.self.view_is in
    let below = c.loop-i-test.true in
    let within = c.requires.within in
    let low : c.loop-i.i < length c.self.inside.blocks.items = omega (arith, size, below, within) in
    let shown = shown_active c.self.inside.tables.value c.self.inside.blocks.items c.args.self.now c.loop-i.i c.index.result.now c.self.invariant c.self.view_is low c.index.ensures in
    sym (c.loop-i.invariant ∙ search_here (active_at c.args.self.now) c.loop-i.i c.args.to below (sym shown ∙ sym c.is_active.ensures ∙ c.if-is_active.true))

pub loop-i-preserved : goal.loop-i-preserved
loop-i-preserved c =
    let size = shown_length c.self.inside.tables.value c.self.inside.blocks.items c.args.self.now c.self.view_is in
    let below = c.loop-i-test.true in
    let within = c.requires.within in
    let low : c.loop-i.i < length c.self.inside.blocks.items = omega (arith, size, below, within) in
    let shown = shown_active c.self.inside.tables.value c.self.inside.blocks.items c.args.self.now c.loop-i.i c.index.result.now c.self.invariant c.self.view_is low c.index.ensures in
    c.loop-i.invariant ∙ search_more (active_at c.args.self.now) c.loop-i.i c.args.to below (sym shown ∙ sym c.is_active.ensures ∙ c.if-is_active.false)
