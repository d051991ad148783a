use Rattle.std.proofs.Common.{sym, ap, ◌∙◌}
use Rattle.pg_infer.specs.Steps.{row_at}
use Rattle.pg_infer.proofs.Steps.{put_row, row_put}
use Rattle.pg_infer.proofs.controller.add_state.Goals as goal
use Rattle.pg_infer.proofs.controller.add_state.Goals.{in-Some+in_ok-add_row, in_default}

pub row_at-requires-clause-onward : goal.row_at-requires-clause-onward
row_at-requires-clause-onward g c = c.requires.onward c.input-item.result

pub loop-input-preserved : goal.loop-input-preserved
loop-input-preserved g c =
    let choose = g.D.State.choice c.args.protocol.now c.args.mode c.args.state in
    row_put g.D.PartialEq.eq c.args.states.now choose c.args.table.now _ _ c.args.inputs.now c.args.state c.loop-input.input-index c.input-item.result _
    c.loop-input-test.true c.loop-input.invariant (c.in_ok-row.ensures ∙ ap (row_at g.D.PartialEq.eq c.args.states.now choose) c.input-item.is)
    (elim c.match-branch-3.branch [
      | in-Some+in_ok-add_row w ↦ w.table-is ∙ (w.in_ok-add_row.ensures.added ∙ ap (put_row c.loop-input.table) (sym w.in-Some.is))
      | in_default w ↦ w.table-is ∙ ap (put_row c.loop-input.table) (sym w.in_default.is)
    ])
