-- Completions with all that was put off, acknowledgements of early invalidations, and runs.
use Rattle.std.proofs.Common.{◌≡◌, ℕ, zero, suc, ◌<◌, ◌≤◌, arith, Bool, true, false, cond, List, [], ◌∷◌, ◌++◌, length, Some, None, refl, ap, ◌⊎◌, inl, inr}
use Rattle.std.specs.Prelude.{filter, get_or, map}
use Rattle.std.specs.List.{remove}
use Rattle.pg_perm.specs.declared.kinds.Event.TheVariants as event
use Rattle.pg_perm.specs.declared.kinds.Op.{Op}
use Rattle.pg_perm.specs.declared.kinds.Who.TheVariants.{Other}
use Rattle.pg_perm.specs.declared.draft.Draft.{Draft}
use Rattle.pg_directory.specs.DirEntries.{who}
use Rattle.pg_table.specs.declared.cache.Desc.TheVariants.{Ask}
use Rattle.pg_table.specs.declared.cache.Phase.{Phase}
use Rattle.pg_table.specs.declared.cache.Phase.TheVariants.{D}
use Rattle.pg_table.specs.declared.cache.Tag.{Tag}
use Rattle.pg_table.specs.declared.cache.Tag.TheVariants.{Plain, Gone}
use Rattle.pg_messages.specs.declared.messages.Ordered.{Ordered}
use Rattle.pg_messages.specs.declared.messages.Ordered.TheVariants.{Forward}
use Rattle.pg_order.specs.Orders.{DirOrder}
use Rattle.pg_order.proofs.Quiet.{IsSent, forward_is, unchanged}
use Rattle.pg_order.proofs.Race.{sent_is}
use Rattle.pg_messages.specs.declared.messages.Finished.TheVariants as finish
use Rattle.pg_controllers.specs.Networks as net
use Rattle.pg_messages.specs.declared.messages.Reply.TheVariants.{InvAck}
use Rattle.pg_controllers.specs.Networks.{idle_core}
use Rattle.pg_messages.specs.declared.messages.DoneEntry.{DoneEntry}
use Rattle.pg_controllers.specs.Worlds.{World, core, order_of}
use Rattle.pg_controllers.specs.Runs.{opening, opening_core}
use Rattle.pg_orderly.specs.Orderly.{Mark, is_deferred, IsOrderly}
use Rattle.pg_orderly.proofs.Keeping.{core_same, marked, moved}
use Rattle.pg_orderly.proofs.Filled.{IsFilling, at_rest, fills_kept}
use Rattle.pg_orderly.proofs.Serving.{ArePutOff, Serves}
use Rattle.pg_safe.proofs.Ends.{none_before}
use Rattle.pg_safe.proofs.Heads.{IsHead}
use Rattle.pg_serial.specs.Faithful.{IsFaithful}
use Rattle.pg_refined.specs.Shown.{HasFlags, shown}
use Rattle.pg_refined.specs.Ordering.{HasSlots}
use Rattle.pg_refined.proofs.Granted.{IsJoined}
use Rattle.pg_refined.proofs.Counts.{IsCountedLast, count_told}
use Rattle.pg_refined.proofs.Fills.{fill_load_told, fill_store_told}
use Rattle.pg_refined.proofs.Moves.{flags_stay}
use Rattle.pg_refined.proofs.Rest.{acks_more, put_off_told}
use Rattle.pg_refined.proofs.Serves.{serves_told}

-- Completions with what was put off

pub put_off_all : (d : Draft) (ms : List Ordered) → ArePutOff d (filter (is_deferred d) ms)
put_off_all d [] = tt
put_off_all d (m ∷ ms) = at (is_deferred d m) refl (put_off_all d ms)
  where
    at : (b : Bool) → is_deferred d m ≡ b → ArePutOff d (filter (is_deferred d) ms) → ArePutOff d (cond b (m ∷ filter (is_deferred d) ms) (filter (is_deferred d) ms))
    at true is rest = (is, rest)
    at false is rest = rest

-- where a completion and all that was put off lead
abbrev pub IsServedTo : Draft → ℕ → ℕ → List Ordered → World → List Ordered → Type 0
IsServedTo d n c q w ms = (z : World) × (marks : ℕ → Mark) × Serves d c q w ms z × IsOrderly d n z marks × HasFlags d z × IsFaithful d n (shown d z marks)

pub store_served : (d : Draft) (n : ℕ) (w : World) (m : ℕ → Mark) (c s : ℕ) (ph : Phase) (t : Tag) (i a wd cnt k f v : ℕ) (late : Bool) → IsJoined d n w m → c < n → IsFilling d w m c event.Store s ph t i a wd cnt k f
    → ArePutOff d (core w c).line.deferred → IsFaithful d n (shown d w m)
    → IsServedTo d n c (core w c).queue (moved c (at_rest (core w c) f v k) (remove w.replies i) (w.done ++ record { stamp = k; core = c; fin = finish.Store v; late = late } ∷ []) w) (core w c).line.deferred
store_served d n w m c s ph t i a wd cnt k f v late b there h off faithful =
    let dn : List DoneEntry = w.done ++ record { stamp = k; core = c; fin = finish.Store v; late = late } ∷ [] in
    let inside : c < length w.cores = (let same = b.orderly.cores in omega (arith, same, there)) in
    let at = core_same c (at_rest (core w c) f v k) (remove w.replies i) dn w inside in
    serves_told d n c (core w c).queue (core w c).line.deferred (moved c (at_rest (core w c) f v k) (remove w.replies i) dn w) (marked c (record { seen = (m c).last; last = (m c).last }) m) f b.whole b.shaped there
    (fills_kept d n w m c event.Store s ph t i a wd cnt k f v dn b.whole b.shaped there b.orderly h) (flags_stay d w c (at_rest (core w c) f v k) (remove w.replies i) dn b.flags)
    (fill_store_told d n w m c s ph t i a wd cnt k f v late b there h faithful) (ap (λ (x : net.Core). x.line.desc) at) (ap (λ (x : net.Core). x.queue) at) off

pub load_served : (d : Draft) (n : ℕ) (w : World) (m : ℕ → Mark) (c s : ℕ) (ph : Phase) (t : Tag) (i a wd cnt k f : ℕ) (late : Bool) → IsJoined d n w m → c < n → IsFilling d w m c event.Load s ph t i a wd cnt k f
    → ArePutOff d (core w c).line.deferred → IsFaithful d n (shown d w m)
    → IsServedTo d n c (core w c).queue (moved c (at_rest (core w c) f wd k) (remove w.replies i) (w.done ++ record { stamp = k; core = c; fin = finish.Load wd; late = late } ∷ []) w) (core w c).line.deferred
load_served d n w m c s ph t i a wd cnt k f late b there h off faithful =
    let dn : List DoneEntry = w.done ++ record { stamp = k; core = c; fin = finish.Load wd; late = late } ∷ [] in
    let inside : c < length w.cores = (let same = b.orderly.cores in omega (arith, same, there)) in
    let at = core_same c (at_rest (core w c) f wd k) (remove w.replies i) dn w inside in
    serves_told d n c (core w c).queue (core w c).line.deferred (moved c (at_rest (core w c) f wd k) (remove w.replies i) dn w) (marked c (record { seen = (m c).last; last = (m c).last }) m) f b.whole b.shaped there
    (fills_kept d n w m c event.Load s ph t i a wd cnt k f wd dn b.whole b.shaped there b.orderly h) (flags_stay d w c (at_rest (core w c) f wd k) (remove w.replies i) dn b.flags)
    (fill_load_told d n w m c s ph t i a wd cnt k f late b there h faithful) (ap (λ (x : net.Core). x.line.desc) at) (ap (λ (x : net.Core). x.queue) at) off

-- with the last acknowledgement; that the completion keeps the world orderly is a premise here
pub count_served : (d : Draft) (n : ℕ) (w : World) (m : ℕ → Mark) (c s : ℕ) (t : Tag) (i k f v : ℕ) (late : Bool) → IsJoined d n w m → c < n → IsCountedLast d w m c s t i k f → ArePutOff d (core w c).line.deferred
    → let x : World = moved c (at_rest (core w c) f v (core w c).line.stamp) (remove w.replies i) (w.done ++ record { stamp = (core w c).line.stamp; core = c; fin = finish.Store v; late = late } ∷ []) w in
    IsOrderly d n x (marked c (record { seen = (m c).last; last = (m c).last }) m) → IsFaithful d n (shown d w m) → IsServedTo d n c (core w c).queue x (core w c).line.deferred
count_served d n w m c s t i k f v late b there h off next faithful =
    let dn : List DoneEntry = w.done ++ record { stamp = (core w c).line.stamp; core = c; fin = finish.Store v; late = late } ∷ [] in
    let inside : c < length w.cores = (let same = b.orderly.cores in omega (arith, same, there)) in
    let at = core_same c (at_rest (core w c) f v (core w c).line.stamp) (remove w.replies i) dn w inside in
    serves_told d n c (core w c).queue (core w c).line.deferred (moved c (at_rest (core w c) f v (core w c).line.stamp) (remove w.replies i) dn w) (marked c (record { seen = (m c).last; last = (m c).last }) m) f b.whole b.shaped there
    next (flags_stay d w c (at_rest (core w c) f v (core w c).line.stamp) (remove w.replies i) dn b.flags)
    (count_told d n w m c s t i k f v late b there h faithful) (ap (λ (x : net.Core). x.line.desc) at) (ap (λ (x : net.Core). x.queue) at) off

-- An invalidation that a load acknowledges early

abbrev pub acked : net.Core → ℕ → ℕ → List Ordered → net.Core
acked x s k ms = record { line = record x.line { desc = Ask event.Load s D Gone; stamp = k }; left = x.left; slot = None; queue = ms }

-- to a core that holds nothing nothing is sent, so it comes after its own entry
pub early_after : (d : Draft) (n : ℕ) (w : World) (m : ℕ → Mark) (c g s f r i k : ℕ) → IsJoined d n w m → c < n → (core w c).line.desc ≡ Ask event.Load s D Plain → (core w c).slot ≡ None → IsHead d (order_of d w) c (m c) g (Forward f r i k)
    → who ((order_of d w).dir_entry (m c).seen) c ≡ Other → (m c).last < suc g
early_after d n w m c g s f r i k b there desc slot hd none =
    elim (let split : ((m c).last < suc g) ⊎ (suc g ≤ (m c).last) = either (m c).last g in split) [ inl late ↦ late | inr early ↦ absurd (never early) ]
  where
    p : DirOrder
    p = order_of d w

    either : (a b : ℕ) → (a < suc b) ⊎ (suc b ≤ a)
    either a b = search arith

    fw : IsSent d p c g f r i k
    fw = forward_is d p c g f r i k hd.sends

    never : suc g ≤ (m c).last → ⊥
    never early =
        let inside = hd.inside in
        let same = (unchanged d n p b.known c (m c).seen g hd.from (omega (arith, inside)) (none_before d p c (core w c) (m c) (b.orderly.placed c there) g (omega (arith, inside)) (inr early)) hd.quiet).who in
        elim (sent_is d n (p.dir_entry g) (p.at g) c f (b.known.handled g inside) fw.other fw.sends) [
          | inl owns ↦ cc (owns, same, none)
          | inr (shares, inv) ↦ cc (shares, same, none)
        ]

pub acked_told : (d : Draft) (n : ℕ) (w : World) (m : ℕ → Mark) (c g s f r i k : ℕ) (ms : List Ordered) → IsJoined d n w m → c < n → (core w c).line.desc ≡ Ask event.Load s D Plain → (core w c).slot ≡ None
    → IsHead d (order_of d w) c (m c) g (Forward f r i k) → who ((order_of d w).dir_entry (m c).seen) c ≡ Other → IsFaithful d n (shown d w m)
    → IsFaithful d n (shown d (moved c (acked (core w c) s k ms) (w.replies ++ InvAck r k ∷ []) w.done w) (marked c (record { seen = suc g; last = (m c).last }) m))
acked_told d n w m c g s f r i k ms b there desc slot hd none faithful =
    put_off_told d n w m c g event.Load s D Plain Gone (Forward f r i k) (acked (core w c) s k ms) (w.replies ++ InvAck r k ∷ []) b there
    (record { desc = desc; slot = slot; head = hd; first = λ q. early_after d n w m c g s f r i k b there desc slot hd none; line = refl; ahead = refl; granted = refl; word = refl; stamp = λ q. cc; empty = refl })
    (acks_more d w.replies r k) faithful

-- Runs

pub opening_slots : (d : Draft) (given : List (List Op)) → HasSlots (length given) (opening d given)
opening_slots d given c v a low slot word = absurd (none given c slot)
  where
    none : (given : List (List Op)) (c : ℕ) → (get_or (map (opening_core d) given) c idle_core).slot ≡ Some a → ⊥
    none [] zero e = cc
    none [] (suc c) e = cc
    none (ops ∷ given) zero e = cc
    none (ops ∷ given) (suc c) e = none given c e
