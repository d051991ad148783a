use Rattle.std.proofs.Common.{◌≡◌, ◌+◌, All, vec_len}
use Rattle.crossbeam_queue.specs.Passes.{view, IsPassOf}
use Rattle.pg_bells.specs.Rule.{newcomer}
use Rattle.pg_bells.specs.Dealing.{AreNewAnswerers}
use Rattle.pg_bells.proofs.dealing.later_answer_passes.Given as goal

abbrev pub invariant-loop : goal.invariant-loop
invariant-loop l = record {
  of : IsPassOf l.queue l.first;
  first : view l.first ≡ newcomer 0 ((view l.fn.first).own.passes + l.counter);
  count : vec_len l.passes ≡ l.counter;
  queue : All (λ p. IsPassOf l.queue p.pass) l.passes.items;
  each : AreNewAnswerers (view l.fn.first).own.passes l.passes.items;
}
