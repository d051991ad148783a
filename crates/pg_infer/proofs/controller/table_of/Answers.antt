use Rattle.std.proofs.Common.{Some, sym, ap, ◌∙◌, arith}
use Rattle.std.proofs.lemmas.Option.{slice_get-get_or}
use Rattle.pg_infer.proofs.Steps.{state_put}
use Rattle.pg_infer.proofs.controller.table_of.Goals as goal

pub add_state-requires-clause-onward : goal.add_state-requires-clause-onward
add_state-requires-clause-onward g c i x =
    let there = slice_get-get_or c.args.states.now c.loop-state.state-index c.state-item.result (omega (arith, c.loop-state-test.true)) in
    c.requires.onward c.loop-state.state-index c.state-item.result i x (there ∙ ap Some (sym c.state-item.is))

pub loop-state-preserved : goal.loop-state-preserved
loop-state-preserved g c =
    state_put g.D.PartialEq.eq c.args.states.now (g.D.State.choice c.args.protocol.now c.args.mode) c.args.inputs.now _ _ c.loop-state.state-index c.state-item.result
    c.loop-state-test.true c.state-item.is c.loop-state.invariant c.in_ok-add_state.ensures
