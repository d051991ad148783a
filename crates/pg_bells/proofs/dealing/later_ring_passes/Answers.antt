use Rattle.std.proofs.Common.{ap, sym, subst, ℕ, ◌<◌, lit<, arith}
use Rattle.pg_bells.specs.declared.view.View.{View}
use Rattle.pg_bells.proofs.Steps.{forks}
use Rattle.pg_bells.proofs.dealing.later_ring_passes.Goals as goal

pub another-pass-requires-clause-rule : goal.another-pass-requires-clause-rule
another-pass-requires-clause-rule c = let is = c.loop-core.invariant.first in
    let own : View → ℕ = λ v. v.own.passes in
    let some : 0 < c.loop-core.core = omega arith in
    forks _ _ (ap (λ (v : View). v.live) is) (subst (λ (v : View). 0 < v.own.passes) (sym is) some)
