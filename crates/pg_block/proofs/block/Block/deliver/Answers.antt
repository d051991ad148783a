use Rattle.std.proofs.Common.{◌<◌, length, refl, sym, ap, subst, ◌∙◌}
use Rattle.pg_controllers.specs.Lines.{ordered_input, received_ordered}
use Rattle.pg_block.specs.Blocks.{Block, meet_ordered}
use Rattle.pg_block.proofs.Rows.{index_is, row_here, from}
use Rattle.pg_block.proofs.block.Block.deliver.Goals as goal

pub returns : goal.returns
returns c =
    c.note_done.ensures
    ∙ row_here (from c.self.view_is) c.args.core (λ t l. ordered_input l c.args.m) (λ t l. received_ordered l c.args.m) c.deref.result.now c.index_mut.result.now c.self.inside.wires
    (record { line = c.take_ordered-done.new.self; nets = c.take_ordered-done.new.w; done = c.take_ordered-done.result }) c.self.inside.wires c.deref.ensures
    (index_is c.self.inside.lines.items c.args.core c.index_mut.result.now (subst (λ (b : Block). c.args.core < length b.lines) (sym c.self.view_is) c.requires.core) c.index_mut.ensures.value)
    refl c.take_ordered-done.ensures
    ∙ ap (meet_ordered c.args.core c.args.m) c.self.view_is
