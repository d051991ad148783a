use Rattle.std.proofs.Common.{sym, arith}
use Rattle.pg_text.proofs.Progress.{error_at, end_at, next_at}
use Rattle.pg_lines.proofs.Steps.{length-rest}
use Rattle.pg_text.proofs.text.read_lines.Goals as goal

pub returns-in-Err : goal.returns-in-Err
returns-in-Err c = rw c.at.ensures (record { exact = error_at _ _ _ _ _ _ _ c.loop-line.invariant c.in-Some.ensures c.in-Err.ensures })

pub overflow_sub-place : goal.overflow_sub-place
overflow_sub-place c = omega (arith, length-rest c.loop-line.rest.now c.in-Some.line.now c.in-Some.behind.now c.in-Some.ensures, c.loop-line.invariant.few)

pub returns-then-has_ended : goal.returns-then-has_ended
returns-then-has_ended c = rw c.into_draft.ensures (record { exact = end_at _ _ _ _ _ _ _ c.loop-line.invariant c.in-Some.ensures c.in-Ok.ensures (sym c.if-has_ended.ensures) })

pub loop-line-preserved : goal.loop-line-preserved
loop-line-preserved c = next_at _ _ _ _ _ _ _ c.loop-line.invariant c.in-Some.ensures c.in-Ok.ensures (sym c.if-has_ended.ensures)
