use Rattle.std.proofs.Common.{◌≡◌, true, length, sym, subst, ap, ◌∙◌}
use Rattle.pg_perm.specs.declared.step.Step.TheVariants as step
use Rattle.pg_atomic.specs.States.{state_of}
use Rattle.pg_atomic.specs.Steps.{may, after_step, IsReached}
use Rattle.pg_atomic.specs.Accesses.{event_of}
use Rattle.pg_atomic.proofs.Runs.{reached_more}
use Rattle.pg_atomic.proofs.machine.Atomic.access.Goals as goal

pub returns-in-Store-clause-reached : goal.returns-in-Store-clause-reached
returns-in-Store-clause-reached c =
    let may_store = subst (λ x. may c.args.protocol.now (state_of c.args.self.now c.args.core) (event_of x) ≡ true) c.in-Store.is c.requires.may in
    subst (IsReached c.args.protocol.now (length c.args.self.now.states))
    (sym (c.hit.ensures ∙ ap (λ d. after_step d c.args.self.now (step.Store c.args.core c.in-Store.word)) c.draft.ensures.exact))
    (reached_more c.args.protocol.now (length c.args.self.now.states) c.args.self.now (step.Store c.args.core c.in-Store.word) c.requires.reached
    (c.requires.core, may_store))
