use Rattle.std.proofs.Common.{arith}
use Rattle.pg_script.proofs.Digits.{digit_read}
use Rattle.pg_script.proofs.numbers.value_of.Goals as goal

pub overflow_mul-value : goal.overflow_mul-value
overflow_mul-value c = let read = digit_read _ _ _ c.requires c.loop-digit-test.true c.loop-digit.invariant in omega (arith, read.fits)

pub overflow_add-value : goal.overflow_add-value
overflow_add-value c = let read = digit_read _ _ _ c.requires c.loop-digit-test.true c.loop-digit.invariant in omega (arith, read.fits, c.from.ensures)

pub loop-digit-preserved : goal.loop-digit-preserved
loop-digit-preserved c = let read = digit_read _ _ _ c.requires c.loop-digit-test.true c.loop-digit.invariant in omega (arith, read.more, c.from.ensures)
