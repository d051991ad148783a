use Rattle.std.proofs.Common.{length, sym, ap, ◌∙◌}
use Rattle.pg_queue.proofs.Rooms.{lists_length}
use Rattle.pg_queue.proofs.wires.Wires.spare.Goals as goal

pub returns-clause-lists : goal.returns-clause-lists
returns-clause-lists c =
    ap (λ w. length w.lists) (sym c.self.view_is) ∙ lists_length c.self.inside.queues.items ∙ c.self.invariant.cores ∙ ap (λ w. length w.slots) c.self.view_is
