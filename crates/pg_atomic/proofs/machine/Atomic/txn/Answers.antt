use Rattle.std.proofs.Common.{length, sym, subst, ap, ◌∙◌}
use Rattle.pg_directory.specs.DirEntries.{Request}
use Rattle.pg_perm.specs.declared.step.Step.TheVariants as step
use Rattle.pg_atomic.specs.States.{State, state_of, after_transaction}
use Rattle.pg_atomic.specs.Steps.{may, IsReached}
use Rattle.pg_atomic.proofs.Operations.{permits}
use Rattle.pg_atomic.proofs.Runs.{reached_more}
use Rattle.pg_atomic.proofs.Each.{length-after_transaction, requestor_ends}
use Rattle.pg_atomic.proofs.machine.Atomic.txn.Goals as goal

pub returns-clause-reached : goal.returns-clause-reached
returns-clause-reached c =
    let request : Request = record { core = c.args.core; event = c.args.event } in
    subst (IsReached c.args.protocol.now (length c.args.self.now.states))
    (sym (c.transact-state.ensures.step ∙ ap (λ d. after_transaction d c.args.self.now request) c.draft.ensures.exact))
    (reached_more c.args.protocol.now (length c.args.self.now.states) c.args.self.now (step.Txn c.args.core c.args.event) c.requires.reached
    (c.requires.core, c.requires.needs))

pub returns-clause-cores : goal.returns-clause-cores
returns-clause-cores c =
    let request : Request = record { core = c.args.core; event = c.args.event } in
    ap (λ (a : State). length a.states) c.transact-state.ensures.step ∙ length-after_transaction c.draft.result.now c.args.self.now request

pub returns-clause-state : goal.returns-clause-state
returns-clause-state c =
    let request : Request = record { core = c.args.core; event = c.args.event } in
    c.transact-state.ensures.state ∙ sym (requestor_ends c.draft.result.now c.args.self.now request c.requires.core)
    ∙ ap (λ (a : State). state_of a c.args.core) (sym c.transact-state.ensures.step)

pub returns-clause-permits : goal.returns-clause-permits
returns-clause-permits c =
    let request : Request = record { core = c.args.core; event = c.args.event } in
    λ asks. ap (λ (a : State). may c.args.protocol.now (state_of a c.args.core) c.args.event)
    (c.transact-state.ensures.step ∙ ap (λ d. after_transaction d c.args.self.now request) c.draft.ensures.exact)
    ∙ permits c.args.protocol.now c.args.self.now c.args.core c.args.event c.draft.ensures.well_formed
    c.draft.ensures.shaped c.requires.reached c.requires.core c.requires.needs asks
