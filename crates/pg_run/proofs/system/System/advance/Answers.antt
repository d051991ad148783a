use Rattle.std.proofs.Common.{sym, ◌∙◌, arith}
use Rattle.pg_run.proofs.Blocks.{shown_active, shown_length, shown_reached, found_active, some_turn, turn_shows, turn_keeps}
use Rattle.pg_run.proofs.system.System.advance.Goals as goal

pub index_mut-requires : goal.index_mut-requires
index_mut-requires c =
    let low = (found_active c.args.self.now c.args.k c.in-Some.block (sym c.in-Some.is ∙ c.active_block.ensures)).0 in
    let size = shown_length c.self.inside.tables.value c.self.inside.blocks.items c.args.self.now c.self.view_is in omega (arith, low, size)

pub advance-requires : goal.advance-requires
advance-requires c =
    let (low, on) = found_active c.args.self.now c.args.k c.in-Some.block (sym c.in-Some.is ∙ c.active_block.ensures) in
    let size = shown_length c.self.inside.tables.value c.self.inside.blocks.items c.args.self.now c.self.view_is in
    shown_active c.self.inside.tables.value c.self.inside.blocks.items c.args.self.now c.in-Some.block c.index_mut.result.now c.self.invariant c.self.view_is (omega (arith, low, size)) c.index_mut.ensures.value ∙ on

pub invariant_of-self : goal.invariant_of-self
invariant_of-self c =
    let low = (found_active c.args.self.now c.args.k c.in-Some.block (sym c.in-Some.is ∙ c.active_block.ensures)).0 in
    let size = shown_length c.self.inside.tables.value c.self.inside.blocks.items c.args.self.now c.self.view_is in
    turn_keeps c.self.inside.tables.value c.self.inside.blocks.items c.args.k c.in-Some.block c.index_mut.result.now c.advance.new.self c.self.invariant (omega (arith, low, size)) c.index_mut.ensures.value c.advance.ensures

pub returns-in-None-clause-reached : goal.returns-in-None-clause-reached
returns-in-None-clause-reached c = shown_reached c.self.inside.tables.value c.self.inside.blocks.items c.args.self.now c.self.invariant c.self.view_is

pub returns-in-Some-clause-turn : goal.returns-in-Some-clause-turn
returns-in-Some-clause-turn c =
    let found = sym c.in-Some.is ∙ c.active_block.ensures in
    let low = (found_active c.args.self.now c.args.k c.in-Some.block found).0 in
    let size = shown_length c.self.inside.tables.value c.self.inside.blocks.items c.args.self.now c.self.view_is in
    turn_shows c.self.inside.tables.value c.self.inside.blocks.items c.args.self.now c.args.k c.in-Some.block c.index_mut.result.now c.advance.new.self c.self.invariant c.self.view_is found (omega (arith, low, size)) c.index_mut.ensures.value
    c.advance.ensures

pub returns-in-Some-clause-any : goal.returns-in-Some-clause-any
returns-in-Some-clause-any c = some_turn c.args.self.now c.args.k c.in-Some.block (sym c.in-Some.is ∙ c.active_block.ensures)

pub returns-in-Some-clause-reached : goal.returns-in-Some-clause-reached
returns-in-Some-clause-reached c = shown_reached c.self.inside.tables.value c.self.inside.blocks.items c.args.self.now c.self.invariant c.self.view_is
