use Rattle.std.proofs.Common.{◌≡◌, ◌++◌, true, All, vec_len}
use Rattle.crossbeam_queue.specs.Passes.{view, IsPassOf}
use Rattle.pg_bells.specs.Closing.{all_taken}
use Rattle.pg_bells.specs.Gathering.{answer_view, told_by_answers}
use Rattle.pg_bells.proofs.gathering.take_in_answers.Given as goal

abbrev pub invariant-loop-pass : goal.invariant-loop-pass
invariant-loop-pass l = record {
  of : IsPassOf l.queue l.closer;
  live : (view l.closer).live ≡ true;
  own : (view l.closer).own ≡ (view l.fn.closer).own;
  took : all_taken l.answers.items ++ (view l.closer).took ≡ all_taken l.fn.answers.items ++ (view l.fn.closer).took;
  joined : told_by_answers l.answers.items ++ (view l.closer).joined ≡ told_by_answers l.fn.answers.items ++ (view l.fn.closer).joined;
  answers : All (λ p. IsPassOf l.queue p.pass × ((answer_view p).live ≡ true)) l.answers.items;
}

abbrev pub decreases-loop-pass : goal.decreases-loop-pass
decreases-loop-pass l = vec_len l.answers
