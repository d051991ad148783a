use Rattle.std.proofs.Common.{arith}
use Rattle.pg_run.proofs.Blocks.{shown_length, found_first, found_second}
use Rattle.pg_run.proofs.system.System.active_block.Goals as goal

pub returns-in-Some : goal.returns-in-Some
returns-in-Some c =
    let size = shown_length c.self.inside.tables.value c.self.inside.blocks.items c.args.self.now c.self.view_is in
    let len = c.len-blocks.ensures in
    found_first c.args.self.now c.args.k c.len-blocks.result c.in-Some.block c.first_active.result (omega (arith, size, len)) c.first_active.ensures c.in-Some.is

pub returns-in-None : goal.returns-in-None
returns-in-None c =
    let size = shown_length c.self.inside.tables.value c.self.inside.blocks.items c.args.self.now c.self.view_is in
    let len = c.len-blocks.ensures in
    found_second c.args.self.now c.args.k c.len-blocks.result c.first_active.result c.first_active-in-None.result (omega (arith, size, len)) c.first_active.ensures c.in-None.is c.first_active-in-None.ensures
