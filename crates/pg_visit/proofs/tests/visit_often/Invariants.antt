use Rattle.std.proofs.Common.{◌≡◌, false}
use Rattle.pg_turn.specs.Passes.{IsOf, is_holding}
use Rattle.pg_visit.proofs.tests.visit_often.Given as goal

abbrev pub invariant-loop : goal.invariant-loop
invariant-loop g l = IsOf l.turn l.pass × (is_holding l.pass ≡ false) × (l.pass.number ≡ l.initial.pass.number)
