use Rattle.std.proofs.Common.{sym}
use Rattle.pg_script.proofs.Progress.{error_at, end_at, past_at, next_at}
use Rattle.pg_script.proofs.Taken.{within_bounds}
use Rattle.pg_script.proofs.text.read_lines.Goals as goal

pub returns-in-Err : goal.returns-in-Err
returns-in-Err c =
    rw c.at.ensures (error_at _ _ _ _ _ _ _ _ c.loop-line.invariant
    (record { is_first = c.in-Some.ensures; says = c.statement_at-statement.ensures }) c.in-Err.ensures)

pub into_script-requires : goal.into_script-requires
into_script-requires c =
    within_bounds c.args.bytes.now _ (end_at _ _ _ _ _ _ _ _ c.loop-line.invariant
    (record { is_first = c.in-Some.ensures; says = c.statement_at-statement.ensures }) c.in-Ok.ensures (sym c.if-is_done.ensures) (sym c.if-is_empty.ensures))

pub returns-then-is_empty : goal.returns-then-is_empty
returns-then-is_empty c =
    rw c.into_script.ensures (end_at _ _ _ _ _ _ _ _ c.loop-line.invariant
    (record { is_first = c.in-Some.ensures; says = c.statement_at-statement.ensures }) c.in-Ok.ensures (sym c.if-is_done.ensures) (sym c.if-is_empty.ensures))

pub returns-then-is_done : goal.returns-then-is_done
returns-then-is_done c =
    past_at _ _ _ _ _ _ _ _ c.loop-line.invariant
    (record { is_first = c.in-Some.ensures; says = c.statement_at-statement.ensures }) c.in-Ok.ensures (sym c.if-is_done.ensures) (sym c.if-is_empty.ensures)

pub loop-line-preserved : goal.loop-line-preserved
loop-line-preserved c =
    next_at _ _ _ _ _ _ _ _ c.loop-line.invariant
    (record { is_first = c.in-Some.ensures; says = c.statement_at-statement.ensures }) c.in-Ok.ensures (sym c.if-is_done.ensures)
