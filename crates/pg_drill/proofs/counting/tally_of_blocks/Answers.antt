use Rattle.std.proofs.Common.{◌-◌, ◌*◌, ◌+◌, ◌^◌, arith}
use Rattle.pg_drill.proofs.Counts.{next_tally, next_low, at_most_more, block_given, block_size, block_few}
use Rattle.pg_drill.proofs.counting.tally_of_blocks.Goals as goal

pub tally_of_block-requires : goal.tally_of_block-requires
tally_of_block-requires c =
    let is = block_given c.args.script.now c.loop-block.block c.args.system.now.given c.world.result.now.given c.requires c.world.ensures.given in
    block_few c.args.script.now c.loop-block.block c.world.result.now.given c.ops-ops.ensures.within is.1

pub plus-tally-requires-clause-first : goal.plus-tally-requires-clause-first
plus-tally-requires-clause-first c =
    let is = block_given c.args.script.now c.loop-block.block c.args.system.now.given c.world.result.now.given c.requires c.world.ensures.given in
    let few = c.ops-ops.ensures.within.few_blocks in
    let low = is.0 in
    at_most_more (c.loop-block.block * (4194304 * 4294967295)) (2 ^ 63 - 1) c.loop-block.tally c.loop-block.invariant.1 (omega (arith, few, low))

pub plus-tally-requires-clause-second : goal.plus-tally-requires-clause-second
plus-tally-requires-clause-second c = at_most_more (4194304 * 4294967295) (2 ^ 63 - 1) c.in_ok-tally_of_block.field-0 c.in_ok-tally_of_block.ensures.low (omega arith)

pub loop-block-preserved : goal.loop-block-preserved
loop-block-preserved c =
    let (before, low, inside) = c.loop-block.invariant in
    let below = c.loop-block-test.true in
    let is = block_given c.args.script.now c.loop-block.block c.args.system.now.given c.world.result.now.given c.requires c.world.ensures.given in
    let size = block_size c.args.script.now c.loop-block.block c.world.result.now.given is.1 in (
      next_tally c.args.script.now.cores c.loop-block.block c.world.result.now.given c.args.system.now.worlds c.world.result.now.world c.loop-block.tally c.in_ok-tally_of_block.field-0 c.plus-tally.result
          c.world.ensures.world size before c.in_ok-tally_of_block.ensures.exact c.plus-tally.ensures,
      next_low (c.loop-block.block * (4194304 * 4294967295)) (4194304 * 4294967295) ((c.loop-block.block + 1) * (4194304 * 4294967295)) c.loop-block.tally c.in_ok-tally_of_block.field-0 c.plus-tally.result
          low c.in_ok-tally_of_block.ensures.low (omega arith) c.plus-tally.ensures,
      omega (arith, below),
    )
