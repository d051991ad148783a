use Rattle.std.proofs.Common.{◌≡◌, ◌<◌, ◌+◌, arith, List, [], ◌∷◌, length, drop, get_or, set, slice_get, refl, sym, ap, subst, ◌∙◌}
use Rattle.std.proofs.lemmas.List.{length-set}
use Rattle.pg_messages.specs.declared.messages.Ordered.{Ordered}
use Rattle.pg_queue.specs.Nets as nets
use Rattle.pg_queue.proofs.Rooms.{room_at, set_room, set_count_less, lists_set, lists_get}
use Rattle.pg_queue.proofs.wires.Wires.take_head.Goals as goal

pub pop-message-requires : goal.pop-message-requires
pop-message-requires c =
    let now : length c.self.inside.slots.items ≡ length c.args.self.now.slots = ap (λ w. length w.slots) c.self.view_is in
    let core : c.args.core < length c.self.inside.queues.items = omega (arith, now, c.self.invariant.cores, c.requires.core) in
    let got : get_or (nets.lists_of c.self.inside.queues.items) c.args.core [] ≡ c.index_mut.result.now.items =
    lists_get _ c.args.core c.index_mut.result.now core ∙ sym (ap (λ q. q.items) c.index_mut.ensures.value) in
    let all : get_or c.args.self.now.lists c.args.core [] ≡ c.index_mut.result.now.items = ap (λ w. get_or w.lists c.args.core []) (sym c.self.view_is) ∙ got in
    subst (λ (xs : List Ordered). 0 < length xs) all c.requires.some

pub invariant_of-self : goal.invariant_of-self
invariant_of-self c =
    let now : length c.self.inside.slots.items ≡ length c.args.self.now.slots = ap (λ w. length w.slots) c.self.view_is in
    let core : c.args.core < length c.self.inside.queues.items = omega (arith, now, c.self.invariant.cores, c.requires.core) in
    let room : c.pop-message.new.self.room ≡ nets.message_limit (length c.self.inside.slots.items) =
    c.pop-message.ensures.room ∙ ap (λ q. q.room) c.index_mut.ensures.value ∙ room_at _ _ c.args.core c.index_mut.result.now c.self.invariant.each core in
    let longer : length (get_or c.self.inside.queues.items c.args.core c.index_mut.result.now).items ≡ length c.pop-message.new.self.items + 1 =
    ap (λ q. length q.items) (sym c.index_mut.ensures.value) ∙ (let l : length c.index_mut.result.now.items ≡ length (c.pop-message.result ∷ c.pop-message.new.self.items) = ap length c.pop-message.ensures.items in omega (arith, l)) in
    let sum : nets.ordered_count (nets.lists_of c.self.inside.queues.items) ≡ nets.ordered_count (nets.lists_of (set c.self.inside.queues.items c.args.core c.pop-message.new.self)) + 1 =
    set_count_less _ c.args.core c.index_mut.result.now c.pop-message.new.self core longer in
    record {
      cores = length-set _ c.args.core c.pop-message.new.self ∙ c.self.invariant.cores;
      few = c.self.invariant.few;
      each = set_room _ _ c.args.core c.pop-message.new.self c.self.invariant.each room;
      last = c.self.invariant.last;
      sum = omega (arith, sum, c.self.invariant.sum);
    }

pub returns-clause-first : goal.returns-clause-first
returns-clause-first c =
    let now : length c.self.inside.slots.items ≡ length c.args.self.now.slots = ap (λ w. length w.slots) c.self.view_is in
    let core : c.args.core < length c.self.inside.queues.items = omega (arith, now, c.self.invariant.cores, c.requires.core) in
    let got : get_or (nets.lists_of c.self.inside.queues.items) c.args.core [] ≡ c.index_mut.result.now.items =
    lists_get _ c.args.core c.index_mut.result.now core ∙ sym (ap (λ q. q.items) c.index_mut.ensures.value) in
    let all : get_or c.args.self.now.lists c.args.core [] ≡ c.index_mut.result.now.items = ap (λ w. get_or w.lists c.args.core []) (sym c.self.view_is) ∙ got in
    ap (λ (xs : List Ordered). slice_get xs 0) (all ∙ c.pop-message.ensures.items)

pub returns-clause-rest : goal.returns-clause-rest
returns-clause-rest c =
    let now : length c.self.inside.slots.items ≡ length c.args.self.now.slots = ap (λ w. length w.slots) c.self.view_is in
    let core : c.args.core < length c.self.inside.queues.items = omega (arith, now, c.self.invariant.cores, c.requires.core) in
    let got : get_or (nets.lists_of c.self.inside.queues.items) c.args.core [] ≡ c.index_mut.result.now.items =
    lists_get _ c.args.core c.index_mut.result.now core ∙ sym (ap (λ q. q.items) c.index_mut.ensures.value) in
    let rest : drop 1 (get_or (nets.lists_of c.self.inside.queues.items) c.args.core []) ≡ c.pop-message.new.self.items =
    ap (λ (xs : List Ordered). drop 1 xs) (got ∙ c.pop-message.ensures.items) in
    rw (← c.self.view_is) (rw (lists_set, rest) refl)
