use Rattle.pg_bells.specs.Passes.{IsAnswerPassOf}
use Rattle.pg_bells.proofs.tests.answer_some.Given as goal

abbrev pub invariant-loop : goal.invariant-loop
invariant-loop g l = IsAnswerPassOf l.bells l.pass
