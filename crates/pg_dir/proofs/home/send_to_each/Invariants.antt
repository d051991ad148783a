use Rattle.std.proofs.Common.{◌≡◌, ◌≤◌, ◌+◌, length}
use Rattle.pg_queue.specs.Nets as nets
use Rattle.pg_dir.specs.Effects as effect
use Rattle.pg_dir.specs.Numbers as numbers
use Rattle.pg_dir.proofs.home.send_to_each.Given as goal

abbrev pub invariant-loop-core : goal.invariant-loop-core
invariant-loop-core l =
    (effect.send_to_each l.message l.left l.w ≡ effect.send_to_each l.message l.initial.left l.initial.w)
    × (length l.left ≤ nets.spare l.w) × numbers.AreBelow (length l.w.slots) l.left × (length l.w.slots ≡ length l.initial.w.slots)
    × (l.sent + length l.left ≡ length l.initial.left) × (length l.initial.left ≤ l.room)

abbrev pub decreases-loop-core : goal.decreases-loop-core
decreases-loop-core l = length l.left
