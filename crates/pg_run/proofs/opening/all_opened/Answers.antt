use Rattle.std.proofs.Common.{◌∙◌, arith}
use Rattle.pg_run.proofs.Openings.{opened_last, opened_length}
use Rattle.pg_run.proofs.opening.all_opened.Goals as goal

pub push_reserved-requires : goal.push_reserved-requires
push_reserved-requires c =
    let (are, room, low) = c.loop-block.invariant in
    let size = opened_length c.args.tables.now.value c.args.script.now c.loop-block.block c.loop-block.blocks.items are in
    let below = c.loop-block-test.true in omega (arith, size, room, below)

pub loop-block-preserved : goal.loop-block-preserved
loop-block-preserved c =
    let (are, room, low) = c.loop-block.invariant in
    let below = c.loop-block-test.true in (
      opened_last c.args.tables.now.value c.in_ok-clone.field-0.value c.args.script.now c.loop-block.block c.loop-block.blocks.items c.push_reserved.new.self.items c.in_ok-world.world are c.in_ok-clone.ensures.cases c.in_ok-world.ensures c.push_reserved.ensures.items,
      c.push_reserved.ensures.capacity ∙ room,
      omega (arith, below),
    )
