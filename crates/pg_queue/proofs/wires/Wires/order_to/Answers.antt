use Rattle.std.proofs.Common.{◌≡◌, ◌<◌, length, ◌+◌, ◌≤◌, arith, [], refl, sym, ap, ◌∙◌, set, get_or}
use Rattle.std.proofs.Common.{subst}
use Rattle.std.proofs.lemmas.List.{length-set}
use Rattle.pg_queue.specs.contracts.wires.Wires.{the_view}
use Rattle.pg_queue.specs.Nets as nets
use Rattle.pg_queue.proofs.Rooms.{room_at, count_at, set_room, set_count, lists_set, lists_get, length_one_more}
use Rattle.pg_queue.proofs.wires.Wires.order_to.Goals as goal

pub index_mut-requires : goal.index_mut-requires
index_mut-requires c =
    let now : length c.self.inside.slots.items ≡ length c.args.self.now.slots = ap (λ w. length w.slots) c.self.view_is in
    omega (arith, now, c.self.invariant.cores, c.self.inside.queues.ok.0, c.requires.core)

pub push-requires : goal.push-requires
push-requires c =
    let now : length c.self.inside.slots.items ≡ length c.args.self.now.slots = ap (λ w. length w.slots) c.self.view_is in
    let spare : 0 < nets.spare (the_view c.self.inside) = subst (λ (w : nets.Nets). 0 < nets.spare w) (sym c.self.view_is) c.requires.spare in
    let core : c.args.core < length c.self.inside.queues.items = omega (arith, now, c.self.invariant.cores, c.requires.core) in
    let room : c.index_mut.result.now.room ≡ nets.message_limit (length c.self.inside.slots.items) =
    ap (λ q. q.room) c.index_mut.ensures.value ∙ room_at _ _ c.args.core c.index_mut.result.now c.self.invariant.each core in
    let size : length c.index_mut.result.now.items ≤ nets.ordered_count (nets.lists_of c.self.inside.queues.items) =
    rw c.index_mut.ensures.value (count_at _ c.args.core c.index_mut.result.now core) in
    omega (arith, room, size, spare, c.self.invariant.sum)

pub invariant_of-self : goal.invariant_of-self
invariant_of-self c =
    let now : length c.self.inside.slots.items ≡ length c.args.self.now.slots = ap (λ w. length w.slots) c.self.view_is in
    let spare : 0 < nets.spare (the_view c.self.inside) = subst (λ (w : nets.Nets). 0 < nets.spare w) (sym c.self.view_is) c.requires.spare in
    let core : c.args.core < length c.self.inside.queues.items = omega (arith, now, c.self.invariant.cores, c.requires.core) in
    let room : c.push.new.self.room ≡ nets.message_limit (length c.self.inside.slots.items) =
    ap (λ q. q.room) c.push.ensures ∙ ap (λ q. q.room) c.index_mut.ensures.value ∙ room_at _ _ c.args.core c.index_mut.result.now c.self.invariant.each core in
    let longer : length c.push.new.self.items ≡ length (get_or c.self.inside.queues.items c.args.core c.index_mut.result.now).items + 1 =
    rw (c.push.ensures, ← c.index_mut.ensures.value) (length_one_more c.index_mut.result.now.items c.args.m) in
    let sum : nets.ordered_count (nets.lists_of (set c.self.inside.queues.items c.args.core c.push.new.self)) ≡ nets.ordered_count (nets.lists_of c.self.inside.queues.items) + 1 =
    set_count _ c.args.core c.index_mut.result.now c.push.new.self core longer in
    record { cores = length-set _ c.args.core c.push.new.self ∙ c.self.invariant.cores; few = c.self.invariant.few; each = set_room _ _ c.args.core c.push.new.self c.self.invariant.each room; last = c.self.invariant.last; sum = omega (arith, sum, spare, c.self.invariant.sum) }

pub returns : goal.returns
returns c =
    let now : length c.self.inside.slots.items ≡ length c.args.self.now.slots = ap (λ w. length w.slots) c.self.view_is in
    let core : c.args.core < length c.self.inside.queues.items = omega (arith, now, c.self.invariant.cores, c.requires.core) in
    let got : get_or (nets.lists_of c.self.inside.queues.items) c.args.core [] ≡ c.index_mut.result.now.items =
    lists_get _ c.args.core c.index_mut.result.now core ∙ sym (ap (λ q. q.items) c.index_mut.ensures.value) in
    rw (← c.self.view_is) (rw (lists_set, c.push.ensures, got) refl)
