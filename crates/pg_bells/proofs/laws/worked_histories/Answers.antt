use Rattle.std.proofs.Common.{refl, arith}
use Rattle.pg_bells.specs.Worked.{bell}
use Rattle.pg_bells.proofs.laws.worked_histories.Goals as goal

pub returns-clause-first : goal.returns-clause-first
returns-clause-first c = refl

pub returns-clause-second : goal.returns-clause-second
returns-clause-second c = refl

pub returns-clause-numbered : goal.returns-clause-numbered
returns-clause-numbered c = (refl, (refl, (refl, tt)))

pub returns-clause-from_zero : goal.returns-clause-from_zero
returns-clause-from_zero c = λ n. omega (arith, n.0)

pub returns-clause-no_gap : goal.returns-clause-no_gap
returns-clause-no_gap c = λ n. omega (arith, n.1.0)

pub returns-clause-stands : goal.returns-clause-stands
returns-clause-stands c = refl

pub returns-clause-other_block : goal.returns-clause-other_block
returns-clause-other_block c = λ e. cc

pub returns-clause-other_core : goal.returns-clause-other_core
returns-clause-other_core c = λ e. cc

pub returns-clause-equal_serial : goal.returns-clause-equal_serial
returns-clause-equal_serial c = λ h. let x = h 0 (bell 0 1 4) (omega arith) refl in omega (arith, x)

pub returns-clause-twice : goal.returns-clause-twice
returns-clause-twice c = λ h. let x = h 0 0 in omega (arith, x)
