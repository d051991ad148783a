use Rattle.std.proofs.Common.{◌≡◌, ◌≤◌, ◌-◌, length, replicate, []}
use Rattle.std.specs.Prelude.{vec_capacity}
use Rattle.pg_queue.specs.Nets as nets
use Rattle.pg_queue.proofs.wires.Wires.make.Given as goal

abbrev pub invariant-loop-i : goal.invariant-loop-i
invariant-loop-i l =
    (nets.lists_of l.queues.items ≡ replicate l.i [])
    × nets.HaveRoom (nets.message_limit l.cores) l.queues.items
    × (length l.queues.items ≡ l.i)
    × (vec_capacity l.queues ≡ l.cores)
    × (l.i ≤ l.cores)

abbrev pub decreases-loop-i : goal.decreases-loop-i
decreases-loop-i l = l.cores - l.i
