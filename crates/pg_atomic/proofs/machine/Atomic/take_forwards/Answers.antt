use Rattle.std.proofs.Common.{ℕ, List, length, sym, subst, ◌∙◌}
use Rattle.pg_directory.specs.DirEntries.{Request}
use Rattle.pg_atomic.specs.States.{next_by_forward}
use Rattle.pg_atomic.specs.Receivers.{receivers}
use Rattle.pg_atomic.specs.contracts.machine.Atomic.{the_view}
use Rattle.pg_atomic.proofs.Each.{HasMoved, none_moved, one_moves, all_moved, leads_as_first, has_its_row, first_among}
use Rattle.pg_atomic.proofs.Received.{stays, receivers_below}
use Rattle.pg_atomic.proofs.machine.Atomic.take_forwards.Goals as goal

pub loop-to-init : goal.loop-to-init
loop-to-init c =
    let request : Request = record { core = c.args.core; event = c.args.event } in
    let moved : ℕ → ℕ → ℕ = next_by_forward c.args.draft.now c.args.self.now.entry request in
    subst (λ (xs : List ℕ). HasMoved moved c.args.self.now c.args.self.now xs) (sym c.receivers-left.ensures)
    (none_moved moved c.args.self.now (receivers c.args.self.now.entry request) (λ k h. stays c.args.draft.now c.args.self.now.entry request k _ h)
    (receivers_below (length c.args.self.now.states) c.args.self.now.entry request c.requires.owner c.requires.sharers))

pub next_by_forward-next-requires-clause-take : goal.next_by_forward-next-requires-clause-take
next_by_forward-next-requires-clause-take c =
    let among = first_among c.in-Some.to c.loop-to.left c.pop_first.new.self c.in-Some.ensures.first in
    has_its_row c.args.draft.now (record { core = c.args.core; event = c.args.event }) _ c.args.self.now c.loop-to.self c.in-Some.to c.loop-to.left c.requires.rows c.loop-to.invariant among

pub loop-to-preserved : goal.loop-to-preserved
loop-to-preserved c =
    let request : Request = record { core = c.args.core; event = c.args.event } in
    let moved : ℕ → ℕ → ℕ = next_by_forward c.args.draft.now c.args.self.now.entry request in
    let before : HasMoved moved c.args.self.now (the_view c.self.inside) c.loop-to.left =
    subst (λ b. HasMoved moved c.args.self.now b c.loop-to.left) (sym c.self.view_is) c.loop-to.invariant in
    let among = first_among c.in-Some.to c.loop-to.left c.pop_first.new.self c.in-Some.ensures.first in
    one_moves moved c.args.self.now (the_view c.self.inside) c.in-Some.to c.next_by_forward-next.result c.loop-to.left c.pop_first.new.self before
    c.in-Some.ensures.first c.in-Some.ensures.left
    (c.next_by_forward-next.ensures ∙ leads_as_first c.args.draft.now request moved c.args.self.now c.loop-to.self c.in-Some.to c.loop-to.left c.loop-to.invariant among)

pub returns : goal.returns
returns c =
    let request : Request = record { core = c.args.core; event = c.args.event } in
    let moved : ℕ → ℕ → ℕ = next_by_forward c.args.draft.now c.args.self.now.entry request in
    all_moved moved c.args.self.now c.loop-to.self (subst (λ (xs : List ℕ). HasMoved moved c.args.self.now c.loop-to.self xs) c.in_default.ensures.none c.loop-to.invariant)
