use Rattle.std.proofs.Common.{ap, sym, subst, ℕ, ◌<◌, ◌+◌, arith}
use Rattle.crossbeam_queue.specs.Passes.{view}
use Rattle.pg_bells.specs.declared.view.View.{View}
use Rattle.pg_bells.proofs.Steps.{forks}
use Rattle.pg_bells.proofs.dealing.later_answer_passes.Goals as goal

pub another-pass-requires-clause-rule : goal.another-pass-requires-clause-rule
another-pass-requires-clause-rule c = let is = c.loop.invariant.first in
    let low = c.requires.some in
    let some : 0 < (view c.args.first.now).own.passes + c.loop.counter = omega (arith, low) in
    forks _ _ (ap (λ (v : View). v.live) is) (subst (λ (v : View). 0 < v.own.passes) (sym is) some)
