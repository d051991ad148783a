use Rattle.std.proofs.Common.{◌≡◌, ◌<◌, arith, List, [], length, get_or, slice_get, sym, ap, ◌∙◌}
use Rattle.pg_messages.specs.declared.messages.Ordered.{Ordered}
use Rattle.pg_queue.specs.Nets as nets
use Rattle.pg_queue.proofs.Rooms.{lists_get}
use Rattle.pg_queue.proofs.wires.Wires.head.Goals as goal

pub returns : goal.returns
returns c =
    let now : length c.self.inside.slots.items ≡ length c.args.self.now.slots = ap (λ w. length w.slots) c.self.view_is in
    let core : c.args.core < length c.self.inside.queues.items = omega (arith, now, c.self.invariant.cores, c.requires) in
    let got : get_or (nets.lists_of c.self.inside.queues.items) c.args.core [] ≡ c.index.result.now.items =
    lists_get _ c.args.core c.index.result.now core ∙ sym (ap (λ q. q.items) c.index.ensures) in
    let all : get_or c.args.self.now.lists c.args.core [] ≡ c.index.result.now.items = ap (λ w. get_or w.lists c.args.core []) (sym c.self.view_is) ∙ got in
    c.copied.ensures ∙ c.head.ensures ∙ ap (λ (xs : List Ordered). slice_get xs 0) (sym all)
