use Rattle.std.proofs.Common.{map, arith}
use Rattle.std.specs.String.{string_bytes}
use Rattle.pg_print.proofs.Rows.{state_written}
use Rattle.pg_print.proofs.controller.put_states.Goals as goal

pub loop-state-preserved : goal.loop-state-preserved
loop-state-preserved g c =
    state_written g.D.State.wording c.args.draft.now (map string_bytes c.args.names.now) c.args.table.now c.loop-state.state _ _ _
    (omega (arith, c.loop-state-test.true, c.states-state-end.ensures)) c.loop-state.invariant c.in_ok-put_state.ensures
