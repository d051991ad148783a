-- An invalidation that is later than the load of a core is acknowledged before the load has its data.
use Rattle.std.proofs.Common.{◌≡◌, ℕ, zero, suc, ◌+◌, ◌-◌, ◌<◌, ◌≤◌, arith, Bool, true, false, ◌&&◌, not, cond, List, [], ◌∷◌, ◌++◌, Option, Some, None, refl, sym, ap, subst, ◌∙◌, ◌⊎◌, inl, inr}
use Rattle.std.specs.Prelude.{◌==◌, filter, is_none, is_some}
use Rattle.std.proofs.lemmas.Bool.{eqb-true, eqb-false, eq-eqb}
use Rattle.pg_perm.specs.declared.kinds.Event.TheVariants.{Load, Store, Evict}
use Rattle.pg_perm.specs.declared.kinds.Who.TheVariants.{Owner, Sharer}
use Rattle.pg_perm.specs.declared.kinds.FwdClass.TheVariants.{Inv}
use Rattle.pg_perm.specs.declared.draft.Draft.{Draft}
use Rattle.pg_perm.specs.Drafts.{IsWellFormed}
use Rattle.pg_terms.specs.Terms.{out, has_class}
use Rattle.pg_shape.specs.Shaped.{IsShaped}
use Rattle.pg_directory.specs.DirEntries.{who}
use Rattle.pg_directory.proofs.Cores.{same_core}
use Rattle.pg_directory.proofs.Holders.{who_of_owner, is_same}
use Rattle.pg_table.specs.declared.cache.Desc.{Desc}
use Rattle.pg_table.specs.declared.cache.Desc.TheVariants.{Stable, Ask, Leave}
use Rattle.pg_table.specs.declared.cache.Phase.TheVariants.{D}
use Rattle.pg_table.specs.declared.cache.Tag.{Tag}
use Rattle.pg_table.specs.declared.cache.Tag.TheVariants.{Plain, Gone}
use Rattle.pg_messages.specs.declared.messages.Ordered.{Ordered}
use Rattle.pg_messages.specs.declared.messages.Ordered.TheVariants.{Forward}
use Rattle.pg_order.specs.Messages.{put, sent_between, tally}
use Rattle.pg_order.specs.Orders.{DirOrder, passed_forward, entry_message}
use Rattle.pg_order.specs.Views.{View, is_open_at, is_unserved, acks_owed}
use Rattle.pg_order.proofs.Known.{IsKnown, known}
use Rattle.pg_order.proofs.Between.{between-append, between-quiet, Head, head}
use Rattle.pg_order.proofs.Quiet.{IsSent, forward_is}
use Rattle.pg_order.proofs.Steps.{IsStep, open_other, all_unserved_same, owed_same}
use Rattle.pg_order.proofs.Invs.{who_sharer, inv_shares, inv_of_store}
use Rattle.pg_order.proofs.Owed.{owed_less}
use Rattle.pg_messages.specs.declared.messages.Ask.{Ask as SentRequest}
use Rattle.pg_messages.specs.declared.messages.Reply.{Reply}
use Rattle.pg_messages.specs.declared.messages.Reply.TheVariants.{InvAck}
use Rattle.pg_controllers.specs.Networks.{Line, Core}
use Rattle.pg_controllers.specs.Directories.{is_busy}
use Rattle.pg_controllers.specs.Worlds.{World, core, order_of, is_stable}
use Rattle.pg_orderly.specs.Orderly.{Mark, is_pending, view_of, is_deferred, HasPending, tag_from, is_ahead, IsAhead, IsAsking, IsLined, IsPlaced, is_storing, is_granted, is_data_to, is_ack_to, is_write_back, is_data_due, AcksAre, IsAnswered, IsBusy, IsOrderly}
use Rattle.pg_orderly.proofs.Keeping.{marked, moved, step_of, catches_up, due_same}
use Rattle.pg_orderly.proofs.Acks.{storing_is, asking_is, ordered_is, acks_same}
use Rattle.pg_orderly.proofs.Postponed.{promised_same, busy_same}
use Rattle.pg_orderly.proofs.Answer.{tally-append, promised_more}
use Rattle.pg_safe.proofs.Catch.{sent_is_due}
use Rattle.pg_safe.proofs.Heads.{fits_at, out_not_due}
use Rattle.pg_completions.proofs.Late.{inv_tag}

-- a core whose last entry is a store that stands in the order is storing
is_store : (d : Draft) (p : DirOrder) (c : ℕ) (l : Line) (m : Mark) (s : Desc) (slot : Option SentRequest) (j : ℕ) → IsLined d p c l m s slot → (not (is_stable s) && is_none slot) ≡ true → m.last ≡ suc j → (p.at j).event ≡ Store
    → is_storing s ≡ true
is_store d p c l m (Stable s) slot j h e at store = cc
is_store d p c l m (Ask e s ph t) (Some a) j h pend at store = cc
is_store d p c l m (Ask Load s ph t) None j h e at store = absurd (let is = ordered_is p m Load (asking_is d p c l m Load s ph t (is_ahead ph t) h.1) j at in let x : Store ≡ Load = sym store ∙ is in cc)
is_store d p c l m (Ask Store s ph t) None j h e at store = refl
is_store d p c l m (Ask Evict s ph t) None j h e at store = absurd (let is = ordered_is p m Evict (asking_is d p c l m Evict s ph t (is_ahead ph t) h.1) j at in let x : Store ≡ Evict = sym store ∙ is in cc)
is_store d p c l m (Leave s) (Some a) j h e at store = cc
is_store d p c l m (Leave s) None j h e at store = absurd (let is = ordered_is p m Evict h.2 j at in let x : Store ≡ Evict = sym store ∙ is in cc)

-- from entry a on nothing comes but this message, of entry g
one_message : (to : ℕ → Option Ordered) (a g : ℕ) (m : Ordered) → a ≤ g → ((j : ℕ) → a ≤ j → j < g → to j ≡ None) → to g ≡ Some m → (k : ℕ) × (a + k ≡ suc g) × (sent_between to a k ≡ m ∷ [])
one_message to a g m low quiet sends =
    let k : ℕ = g - a in
    let at : a + k ≡ g = omega (arith, low) in
    (k + 1, omega (arith, at), between-append to a k 1 g (k + 1) refl at ∙ ap (λ xs. xs ++ put (to g) []) (between-quiet to a k (λ j lo hi. quiet j lo (omega (arith, hi, at)))) ∙ ap (λ o. put o []) sends)

-- the core with the invalidation acknowledged
abbrev pub with_early : Core → ℕ → ℕ → List Ordered → Core
with_early x s k ms = record { line = record x.line { desc = Ask Load s D Gone; stamp = k }; left = x.left; slot = None; queue = ms }

pub record IsEarly (d : Draft) (w : World) (m : ℕ → Mark) (c s : ℕ) (t : Tag) (f r i k : ℕ) (ms : List Ordered) : Type 0 where
  pub desc : (core w c).line.desc ≡ Ask Load s D t
  pub slot : (core w c).slot ≡ None
  pub queue : (core w c).queue ≡ Forward f r i k ∷ ms
  pub inv : has_class Inv d f ≡ true
  pub pends : HasPending (core w c).line Load
  pub level : IsAsking d (order_of d w) c (core w c).line (m c) Load s D t false

pub acknowledged : (d : Draft) (n : ℕ) (w : World) (m : ℕ → Mark) (c s : ℕ) (t : Tag) (f r i k : ℕ) (ms : List Ordered) → IsWellFormed d → IsShaped d → c < n
    → IsOrderly d n w m → IsEarly d w m c s t f r i k ms
    → (g : ℕ) × IsOrderly d n (moved c (with_early (core w c) s k ms) (w.replies ++ InvAck r k ∷ []) w.done w) (marked c (record { seen = suc g; last = (m c).last }) m)
    × ((m c).seen ≤ g) × (g < (order_of d w).top) × ((j : ℕ) → (m c).seen ≤ j → j < g → entry_message d (order_of d w) c j ≡ None) × (entry_message d (order_of d w) c g ≡ Some (Forward f r i k))
acknowledged d n w m c s t f r i k ms wf sh low o h = (
  g,
  catches_up d n w m c g y rs w.done low o (record {
    step = step;
    served = λ un. sym (same g) ∙ un;
    placed = placed;
    granted = sym (ap is_granted h.desc);
    promised = promised_more d p (λ e. (marks e).last) n w.replies (InvAck r k ∷ []) (promised_same d p (λ e. (m e).last) (λ e. (marks e).last) n w.replies step.last o.promised) (requestor_low, tt);
    own = answered_by c low y pend (sym (ap is_granted h.desc)) (sym (ap is_storing h.desc)) refl;
    others = λ e b ne. answered_by e b (core w e) refl refl refl refl;
    busy = subst (λ b. IsBusy d p u b (is_busy w.directory.desc)) (sym wbs) (busy_same d p v u (tally is_write_back w.replies) (is_busy w.directory.desc) same o.busy);
  }),
  hd.from,
  inside,
  hd.quiet,
  hd.sends,
)
  where
    p : DirOrder
    p = order_of d w

    x : Core
    x = core w c

    pl : IsPlaced d p c x (m c)
    pl = o.placed c low

    k0 : IsKnown d n p
    k0 = known d n p wf sh o.past

    hd : Head (entry_message d p c) (m c).seen pl.rest (Forward f r i k) ms
    hd = head (entry_message d p c) (m c).seen pl.rest (Forward f r i k) ms (sym h.queue ∙ pl.queue)

    g : ℕ
    g = hd.at

    y : Core
    y = with_early x s k ms

    rs : List Reply
    rs = w.replies ++ InvAck r k ∷ []

    marks : ℕ → Mark
    marks = marked c (record { seen = suc g; last = (m c).last }) m

    v : View
    v = view_of w m

    u : View
    u = view_of (moved c y rs w.done w) marks

    fw : IsSent d p c g f r i k
    fw = forward_is d p c g f r i k hd.sends

    inside : g < p.top
    inside = let a = hd.upto in let b = pl.upto in omega (arith, a, b)

    pend : is_pending y ≡ is_pending x
    pend = sym (rw (h.desc, h.slot) refl)

    step : IsStep d p v u c g
    step = step_of d w m c g y rs w.done (let a = o.cores in omega (arith, a, low)) pend hd.from hd.quiet

    shares : who (p.dir_entry g) c ≡ Sharer
    shares = who_sharer d n (p.dir_entry g) (p.at g) c f (k0.handled g inside) fw.other fw.sends h.inv

    -- the entry's owner is another core
    at_g : is_unserved d p u g ≡ is_unserved d p v g
    at_g = by (p.dir_entry g).owner refl
      where
        not_own : (z : ℕ) → (p.dir_entry g).owner ≡ Some z → (b : Bool) → (c == z) ≡ b → (c == z) ≡ false
        not_own z owner true is = absurd (let owns = who_of_owner (p.dir_entry g) c (owner ∙ ap Some (sym (eqb-true c z is))) in let both : Sharer ≡ Owner = sym shares ∙ owns in cc)
        not_own z owner false ne = ne

        by : (z : Option ℕ) → (p.dir_entry g).owner ≡ z → is_unserved d p u g ≡ is_unserved d p v g
        by None e = ap (λ b. is_some (passed_forward d (p.dir_entry g) (p.at g)) && b) (ap (is_open_at u g) e ∙ ap (is_open_at v g) (sym e))
        by (Some z) e = ap (λ b. is_some (passed_forward d (p.dir_entry g) (p.at g)) && b) (ap (is_open_at u g) e ∙ open_other d p v u c g step g z (not_own z e (c == z) refl) ∙ ap (is_open_at v g) (sym e))

    same : (j : ℕ) → is_unserved d p u j ≡ is_unserved d p v j
    same = all_unserved_same d p v u c g step at_g

    -- it comes after the load's own entry
    later : (m c).last ≤ g
    later = elim (let last = h.level.2.last in let split : (g < h.level.2.entry) ⊎ ((g ≡ h.level.2.entry) ⊎ ((m c).last ≤ g)) = side g h.level.2.entry (m c).last last in split) [
      | inl before ↦ absurd (
          let last = h.level.2.last in
          let fit = fits_at d n p k0 c x (m c) g s pl hd.from (omega (arith, inside)) hd.quiet (inr (omega (arith, last, before))) h.level.0.state in
          out_not_due d s f sh (is_same (out d) s h.level.1.0) (sent_is_due d n (p.dir_entry g) (p.at g) c f s sh (k0.handled g inside) fw.other fw.sends fit))
      | inr (inl same) ↦ absurd (let own = pl.last_own h.level.2.entry h.level.2.last in let is_own = eq-eqb (p.at g).core c (ap (λ j. (p.at j).core) same ∙ own) in let other = fw.other in cc (is_own, other))
      | inr (inr after) ↦ after
    ]
      where
        side : (g entry last : ℕ) → last ≡ suc entry → (g < entry) ⊎ ((g ≡ entry) ⊎ (last ≤ g))
        side g entry last e = search arith

    now : IsAhead d p c y.line (record { seen = suc g; last = (m c).last }) Load s D Gone
    now =
        let last = h.level.2.last in
        let behind = h.level.3 in
        let (z, sum, one) = one_message (entry_message d p c) (m c).last g (Forward f r i k) later (λ j lo hi. hd.quiet j (omega (arith, lo, behind)) hi) hd.sends in
        record {
          ordered = record { entry = h.level.2.entry; last = h.level.2.last; event = h.level.2.event };
          past = z;
          upto = sum;
          state = fits_at d n p k0 c x (m c) h.level.2.entry s pl (omega (arith, last, behind)) (let low = pl.last_low in omega (arith, last, low)) (λ j lo hi. hd.quiet j lo (let after = later in omega (arith, hi, last, after))) (inr (omega (arith, last))) h.level.0.state;
          phase = (h.level.1, tt);
          tag = ap (tag_from d Plain) one ∙ ap Some (inv_tag d f h.inv);
          deferred = h.level.0.deferred ∙ sym (ap (filter (is_deferred d)) one ∙ ap (λ b. cond (not b) (Forward f r i k ∷ []) []) h.inv);
          need = h.level.0.need;
        }

    placed : IsPlaced d p c y (record { seen = suc g; last = (m c).last })
    placed = record {
      last_low = pl.last_low;
      last_own = pl.last_own;
      last_is = pl.last_is;
      touched = λ j e. let same : g ≡ j = omega (arith, e) in inr (Forward f r i k, subst (λ j. entry_message d p c j ≡ Some (Forward f r i k)) same hd.sends);
      gap = λ j lt own. let viewed = pl.gap j lt own in let from = hd.from in omega (arith, viewed, from);
      rest = hd.rest;
      upto = hd.upto ∙ pl.upto;
      queue = hd.later;
      line = (h.pends, now);
    }

    requestor_low : r < n
    requestor_low = subst (λ r. r < n) (sym fw.asker) (k0.past.inside g inside)

    waits : (v.last r ≡ suc g) × (v.pending r ≡ true)
    waits = subst (λ r. (v.last r ≡ suc g) × (v.pending r ≡ true)) (sym fw.asker) (o.waiting.invs g c f inside fw.sends h.inv (let from = hd.from in omega (arith, from)))

    less : acks_owed p v g ≡ suc (acks_owed p u g)
    less = owed_less d n p v u c g step (k0.sound g (omega (arith, inside))) (inv_shares d n (p.dir_entry g) (p.at g) c f (k0.handled g inside) fw.other fw.sends h.inv)

    wbs : tally is_write_back rs ≡ tally is_write_back w.replies
    wbs = let sum = tally-append is_write_back w.replies (InvAck r k ∷ []) in omega (arith, sum)

    data_as : (e : ℕ) → tally (is_data_to e) rs ≡ tally (is_data_to e) w.replies
    data_as e = let sum = tally-append (is_data_to e) w.replies (InvAck r k ∷ []) in omega (arith, sum)

    acks_as : (e : ℕ) (b : Bool) → (r == e) ≡ b → tally (is_ack_to e) rs ≡ tally (is_ack_to e) w.replies + cond {A = ℕ} b 1 0
    acks_as e b is =
        let sum = tally-append (is_ack_to e) w.replies (InvAck r k ∷ []) in
        let one : cond {A = ℕ} (r == e) 1 0 ≡ cond {A = ℕ} b 1 0 = ap (λ b. cond {A = ℕ} b 1 0) is in omega (arith, sum, one)

    -- the writer has one more acknowledgement in flight, and is owed one less
    writer : (z : Core) (acks now l : ℕ) → now ≡ acks + 1 → z.line.got ≡ (core w r).line.got → l ≡ suc g → AcksAre p v (core w r) acks l true → AcksAre p u z now l true
    writer z acks now zero more got is a = absurd (omega (arith, is))
    writer z acks now (suc j) more got is a = let same : j ≡ g = omega (arith, is) in let fewer = subst (λ j. acks_owed p v j ≡ suc (acks_owed p u j)) (sym same) less in omega (arith, a, more, got, fewer)

    owes : (e : ℕ) → e < n → (r == e) ≡ false → (j : ℕ) → (is_pending (core w e) && is_storing (core w e).line.desc) ≡ true → (m e).last ≡ suc j → acks_owed p u j ≡ acks_owed p v j
    owes e b ne j store last =
        let at = o.placed e b in
        let upto = at.last_low in
        owed_same d n p v u c g sh k0 step j (omega (arith, last, upto)) (storing_is d p e (core w e).line (m e) (core w e).line.desc (core w e).slot at.line store j last)
        (λ z is to inv. let own = subst (λ j. (p.at j).core ≡ e) is (at.last_own j last) in let asker = fw.asker in eqb-false r e ne (asker ∙ own))

    acks_by : (e : ℕ) → e < n → (z : Core) → is_pending z ≡ is_pending (core w e) → is_storing z.line.desc ≡ is_storing (core w e).line.desc → z.line.got ≡ (core w e).line.got → (b : Bool) → (r == e) ≡ b
        → AcksAre p u z (tally (is_ack_to e) rs) (u.last e) (is_pending z && is_storing z.line.desc)
    acks_by e b z pends stores got true is =
        subst (λ e. z.line.got ≡ (core w e).line.got → is_pending z ≡ is_pending (core w e) → is_storing z.line.desc ≡ is_storing (core w e).line.desc → AcksAre p u z (tally (is_ack_to e) rs) (u.last e) (is_pending z && is_storing z.line.desc)) (eqb-true r e is)
        (λ got pends stores.
        let store = is_store d p r (core w r).line (m r) (core w r).line.desc (core w r).slot g (o.placed r requestor_low).line waits.1 waits.0 (inv_of_store d n (p.dir_entry g) (p.at g) c f (k0.handled g inside) fw.sends h.inv (p.at g).event refl) in
        let old : AcksAre p v (core w r) (tally (is_ack_to r) w.replies) (m r).last true = rw (waits.1, store) at (o.answered r requestor_low).acks in
        rw (step.last r, pends, waits.1, stores, store) (writer z (tally (is_ack_to r) w.replies) (tally (is_ack_to r) rs) (m r).last (acks_as r true (same_core r)) got waits.0 old)) got pends stores
    acks_by e b z pends stores got false ne =
        let none : tally (is_ack_to e) rs ≡ tally (is_ack_to e) w.replies = (let more = acks_as e false ne in omega (arith, more)) in
        rw (step.last e, pends, stores, none) (acks_same p v u (core w e) z (tally (is_ack_to e) w.replies) (v.last e) (is_pending (core w e) && is_storing (core w e).line.desc) got (owes e b ne) (o.answered e b).acks)

    answered_by : (e : ℕ) → e < n → (z : Core) → is_pending z ≡ is_pending (core w e) → is_granted z.line.desc ≡ is_granted (core w e).line.desc → is_storing z.line.desc ≡ is_storing (core w e).line.desc
        → z.line.got ≡ (core w e).line.got → IsAnswered d p u e z rs
    answered_by e b z pends grants stores got = record {
      filled = data_as e ∙ (o.answered e b).filled ∙ ap (λ b. cond {A = ℕ} b 1 0) (sym (due_same d p v u (core w e) z (v.last e) pends grants (λ j is. same j)))
          ∙ ap (λ k. cond {A = ℕ} (is_data_due d p u z k) 1 0) (sym (step.last e));
      acks = acks_by e b z pends stores got (r == e) refl;
    }
