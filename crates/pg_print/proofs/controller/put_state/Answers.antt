use Rattle.std.proofs.Common.{map, ◌∙◌}
use Rattle.std.specs.String.{string_bytes}
use Rattle.pg_print.proofs.Rows.{row_written}
use Rattle.pg_print.proofs.controller.put_state.Goals as goal

pub loop-place-preserved : goal.loop-place-preserved
loop-place-preserved g c =
    row_written g.D.State.wording c.args.draft.now (map string_bytes c.args.names.now) c.args.table.now c.args.state c.loop-place.place c.desc.result _
    c.row_at-row.result.now _ _ _ c.desc.ensures (c.as_str.ensures.value ∙ c.in_ok-name.ensures) c.row_at-row.ensures c.loop-place.invariant c.in_ok-put_row.ensures
