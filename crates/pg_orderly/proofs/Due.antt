-- A forward at the head of the queue of a level line is due there: it has its row.
use Rattle.std.proofs.Common.{◌≡◌, ℕ, suc, ◌<◌, ◌≤◌, arith, Bool, true, false, List, ◌∷◌, Some, None, refl, sym, ◌∙◌}
use Rattle.std.specs.Prelude.{◌==◌}
use Rattle.std.proofs.lemmas.Bool.{eqb-true}
use Rattle.pg_perm.specs.declared.kinds.Event.TheVariants.{Store}
use Rattle.pg_perm.specs.declared.kinds.Who.{Who}
use Rattle.pg_perm.specs.declared.kinds.Who.TheVariants.{Other, Sharer, Owner}
use Rattle.pg_perm.specs.declared.kinds.FwdClass.TheVariants.{Inv}
use Rattle.pg_perm.specs.declared.draft.Draft.{Draft}
use Rattle.pg_perm.specs.declared.draft.TakeLine.{TakeLine}
use Rattle.pg_perm.specs.Drafts.{IsWellFormed}
use Rattle.pg_terms.specs.Terms.{has_class, cache_is, take_row, is_write_owner}
use Rattle.pg_terms.specs.Rows.{allows}
use Rattle.pg_shape.specs.Shaped.{IsShaped}
use Rattle.pg_directory.specs.DirEntries.{who, entry_after}
use Rattle.pg_directory.specs.Sound.{fits, fits_as}
use Rattle.pg_directory.proofs.Holders.{who_of_owner}
use Rattle.pg_atomic.proofs.Fits.{out_stores, shared_stores, owner_writes}
use Rattle.pg_messages.specs.declared.messages.Ordered.{Ordered}
use Rattle.pg_messages.specs.declared.messages.Ordered.TheVariants.{Forward}
use Rattle.pg_order.specs.Orders.{DirOrder, entry_message}
use Rattle.pg_order.proofs.Known.{IsKnown, known}
use Rattle.pg_order.proofs.Between.{Head, head}
use Rattle.pg_order.proofs.Quiet.{IsSame, unchanged, IsSent, forward_is}
use Rattle.pg_order.proofs.Passed.{IsPassedOn, passed_on}
use Rattle.pg_atomic.proofs.Transactions as txn
use Rattle.pg_controllers.specs.Networks.{Core}
use Rattle.pg_controllers.specs.Worlds.{World, core, order_of}
use Rattle.pg_orderly.specs.Orderly.{Mark, is_pending, IsPlaced, IsOrderly}
use Rattle.pg_orderly.proofs.Answer.{base, is_level, level_of, level_behind}

-- who may not write as an owner may not write at all
denied : (d : Draft) → IsShaped d → (n : ℕ) (w : Who) (x : ℕ) → fits_as d n w x ≡ true → cache_is is_write_owner d x ≡ false → cache_is (allows Store) d x ≡ false
denied d sh n Other x fit h = out_stores d sh x fit
denied d sh n Sharer x fit h = shared_stores d sh x fit
denied d sh n Owner x fit h = at (cache_is (allows Store) d x) refl
  where
    at : (b : Bool) → cache_is (allows Store) d x ≡ b → cache_is (allows Store) d x ≡ false
    at true e = absurd (let writes = owner_writes d sh n x fit e in cc (writes, h))
    at false e = e

-- a row for a forward that isn't an invalidation has a reply
pub record HasAnswer (d : Draft) (x f : ℕ) : Type 0 where
  pub take : TakeLine
  pub reply : ℕ
  pub row : take_row d x f ≡ Some take
  pub gives : take.reply ≡ Some reply
  pub denies : cache_is (allows Store) d take.next ≡ false

-- entry g's forward at a core that is level
pub level_head : (d : Draft) (n : ℕ) (p : DirOrder) → IsKnown d n p → (c : ℕ) (x : Core) (m : Mark) (g : ℕ) → IsPlaced d p c x m → is_level x.line.desc ≡ true → m.seen ≤ g → g < p.top
    → ((j : ℕ) → m.seen ≤ j → j < g → entry_message d p c j ≡ None) → (is_pending x ≡ true → suc g < m.last) → fits d (p.dir_entry g) c (base x.line.desc) ≡ true
level_head d n p k0 c x m g pl level from inside quiet ahead = at_g.fits (base x.line.desc) (level_of d p c x.line m x.line.desc x.slot level pl.line).state
  where
    apart : (j : ℕ) → m.seen ≤ j → j < g → (b : Bool) → ((p.at j).core == c) ≡ b → (q : Bool) → is_pending x ≡ q → ((p.at j).core == c) ≡ false
    apart j lo hi false ne q is = ne
    apart j lo hi true own true is =
        let lt = ahead is in
        let viewed = pl.gap j (omega (arith, hi, lt)) (eqb-true (p.at j).core c own) in absurd (omega (arith, viewed, lo))
    apart j lo hi true own false is =
        let behind = level_behind d p c x.line m x.line.desc x.slot level pl.line is in
        let last = pl.last_is j (omega (arith, hi, inside)) (eqb-true (p.at j).core c own) in absurd (omega (arith, behind, last, lo))

    at_g : IsSame d p c m.seen g
    at_g = unchanged d n p k0 c m.seen g from (omega (arith, inside)) (λ j lo hi. apart j lo hi ((p.at j).core == c) refl (is_pending x) refl) quiet

-- such a forward that isn't an invalidation has its row, with a reply
pub answer_there : (d : Draft) (n : ℕ) (w : World) (m : ℕ → Mark) (c f r i k : ℕ) (ms : List Ordered) → IsWellFormed d → IsShaped d → c < n → IsOrderly d n w m
    → is_level (core w c).line.desc ≡ true → (core w c).queue ≡ Forward f r i k ∷ ms → has_class Inv d f ≡ false → (is_pending (core w c) ≡ true → k < (m c).last)
    → HasAnswer d (base (core w c).line.desc) f
answer_there d n w m c f r i k ms wf sh low o level queue not_inv before =
    let (t, row, fits_now, deny) = (k0.handled g inside).applies c f x fw.sends fit in
    let listed = rw (who_of_owner (p.dir_entry g) c on.owner) at fit in
    let (a, reply) = txn.answers d sh (p.dir_entry g).dir x f listed (txn.due_of d sh (p.dir_entry g) (p.at g) x f listed on.action) in
    record { take = t; reply = a; row = row; gives = sym (rw row refl) ∙ reply; denies = denied d sh (entry_after d (p.dir_entry g) (p.at g)).dir (who (entry_after d (p.dir_entry g) (p.at g)) c) t.next fits_now deny }
  where
    p : DirOrder
    p = order_of d w

    pl : IsPlaced d p c (core w c) (m c)
    pl = o.placed c low

    x : ℕ
    x = base (core w c).line.desc

    k0 : IsKnown d n p
    k0 = known d n p wf sh o.past

    hd : Head (entry_message d p c) (m c).seen pl.rest (Forward f r i k) ms
    hd = head (entry_message d p c) (m c).seen pl.rest (Forward f r i k) ms (sym queue ∙ pl.queue)

    g : ℕ
    g = hd.at

    fw : IsSent d p c g f r i k
    fw = forward_is d p c g f r i k hd.sends

    inside : g < p.top
    inside = let a = hd.upto in let b = pl.upto in omega (arith, a, b)

    on : IsPassedOn d (p.dir_entry g) (p.at g) c f
    on = passed_on d (p.dir_entry g) (p.at g) c f fw.sends not_inv

    fit : fits d (p.dir_entry g) c x ≡ true
    fit = level_head d n p k0 c (core w c) (m c) g pl level hd.from inside hd.quiet (λ b. let lt = before b in let stamp = fw.stamp in omega (arith, lt, stamp))
