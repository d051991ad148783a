use Rattle.std.proofs.Common.{ℕ, List, length, set, ap, ◌∙◌, arith}
use Rattle.pg_directory.specs.DirEntries.{Request}
use Rattle.pg_atomic.specs.States.{State, next_by_forward, each_from}
use Rattle.pg_atomic.proofs.Each.{length-each, requestor_moves}
use Rattle.pg_atomic.proofs.machine.Atomic.move_cores.Goals as goal

pub index_mut-requires : goal.index_mut-requires
index_mut-requires c =
    let request : Request = record { core = c.args.core; event = c.args.event } in
    omega (
      arith,
      ap (λ (a : State). length a.states) (c.self.view_is ∙ c.take_forwards.ensures),
      length-each (next_by_forward c.args.draft.now c.args.self.now.entry request) 0 c.args.self.now.states,
    )

pub returns : goal.returns
returns c =
    let request : Request = record { core = c.args.core; event = c.args.event } in
    let others : List ℕ = each_from (next_by_forward c.args.draft.now c.args.self.now.entry request) 0 c.args.self.now.states in
    ap (λ (a : State). record a { states = set a.states c.args.core c.args.end }) (c.self.view_is ∙ c.take_forwards.ensures)
    ∙ ap (λ xs. record c.args.self.now { states = xs })
    (ap (set others c.args.core) c.requires.end ∙ requestor_moves c.args.draft.now c.args.self.now request c.requires.core)
