-- A line gets fewer than 64 acknowledgements.
use Rattle.std.proofs.Common.{◌≡◌, ℕ, zero, suc, ◌<◌, ◌≤◌, arith, Bool, true, false, ◌&&◌, length, refl}
use Rattle.pg_perm.specs.declared.kinds.Event.{Event}
use Rattle.pg_perm.specs.declared.kinds.Event.TheVariants.{Load, Store, Evict}
use Rattle.pg_perm.specs.declared.draft.Draft.{Draft}
use Rattle.pg_perm.specs.Drafts.{IsWellFormed}
use Rattle.pg_shape.specs.Shaped.{IsShaped}
use Rattle.pg_directory.specs.DirEntries.{without_core}
use Rattle.pg_order.specs.Messages.{tally}
use Rattle.pg_order.specs.Orders.{DirOrder, acks_needed, acks_by_event}
use Rattle.pg_order.proofs.Known.{known}
use Rattle.pg_controllers.specs.Worlds.{World, core, order_of}
use Rattle.pg_orderly.specs.Orderly.{Mark, view_of, is_pending, is_storing, is_ack_to, AcksAre, IsOrderly}
use Rattle.pg_safe.proofs.Counting.{without_length}

needs_most : (e : Event) (k : ℕ) → acks_by_event e k ≤ k
needs_most Load k = omega arith
needs_most Store k = omega arith
needs_most Evict k = omega arith

pub got_few : (d : Draft) (n : ℕ) (w : World) (m : ℕ → Mark) (c : ℕ) → IsWellFormed d → IsShaped d → n ≤ 64 → IsOrderly d n w m → c < n → (core w c).line.got < 64
got_few d n w m c wf sh few o low = by (is_pending (core w c) && is_storing (core w c).line.desc) (m c).last refl (o.answered c low).acks
  where
    p : DirOrder
    p = order_of d w

    by : (b : Bool) (last : ℕ) → (m c).last ≡ last → AcksAre p (view_of w m) (core w c) (tally (is_ack_to c) w.replies) last b → (core w c).line.got < 64
    by false last is h = let none = h.0 in omega (arith, none)
    by true zero is h = absurd h
    by true (suc j) is h =
        let low_last = (o.placed c low).last_low in
        let inside : j < p.top = omega (arith, is, low_last) in
        let so = (known d n p wf sh o.past).sound j (omega (arith, inside)) in
        let short = without_length n (p.at j).core (p.dir_entry j).sharers (o.past.inside j inside) so.rising so.inside in
        let most : acks_needed (p.dir_entry j) (p.at j) ≤ length (without_core (p.at j).core (p.dir_entry j).sharers) = needs_most (p.at j).event (length (without_core (p.at j).core (p.dir_entry j).sharers)) in
        omega (arith, h, most, short, few)
