use Rattle.std.proofs.Common.{◌≡◌, ◌+◌, All, vec_len}
use Rattle.crossbeam_queue.specs.Passes.{view, IsPassOf}
use Rattle.pg_bells.specs.Rule.{newcomer}
use Rattle.pg_bells.specs.Dealing.{AreNewRingers}
use Rattle.pg_bells.proofs.dealing.later_ring_passes.Given as goal

abbrev pub invariant-loop-core : goal.invariant-loop-core
invariant-loop-core l = record {
  of : IsPassOf l.queue l.first;
  first : view l.first ≡ newcomer 0 l.core;
  count : vec_len l.passes + 1 ≡ l.core;
  queue : All (λ p. IsPassOf l.queue p.pass) l.passes.items;
  each : AreNewRingers l.passes.items;
}
