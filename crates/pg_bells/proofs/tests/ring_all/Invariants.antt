use Rattle.std.proofs.Common.{◌≤◌, length}
use Rattle.pg_bells.specs.Passes.{IsRingPassOf, rung_by}
use Rattle.pg_bells.proofs.tests.ring_all.Given as goal

abbrev pub invariant-loop-block : goal.invariant-loop-block
invariant-loop-block g l = record {
  of : IsRingPassOf l.bells l.pass;
  count : length (rung_by l.pass) ≤ l.block;
}
