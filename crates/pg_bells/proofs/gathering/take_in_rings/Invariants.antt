use Rattle.std.proofs.Common.{◌≡◌, ◌++◌, [], true, All, vec_len}
use Rattle.crossbeam_queue.specs.Passes.{view, IsPassOf}
use Rattle.pg_bells.specs.Gathering.{ring_view, told_by_rings}
use Rattle.pg_bells.proofs.gathering.take_in_rings.Given as goal

abbrev pub invariant-loop-pass : goal.invariant-loop-pass
invariant-loop-pass l = record {
  of : IsPassOf l.queue l.closer;
  live : (view l.closer).live ≡ true;
  own : (view l.closer).own ≡ (view l.fn.closer).own;
  took : (view l.closer).took ≡ (view l.fn.closer).took;
  joined : told_by_rings l.rings.items ++ (view l.closer).joined ≡ told_by_rings l.fn.rings.items ++ (view l.fn.closer).joined;
  rings : All (λ p. IsPassOf l.queue p.pass × ((ring_view p).live ≡ true) × ((ring_view p).took ≡ [])) l.rings.items;
}

abbrev pub decreases-loop-pass : goal.decreases-loop-pass
decreases-loop-pass l = vec_len l.rings
