-- A world stays orderly when a forward is put off.
use Rattle.std.proofs.Common.{◌≡◌, ℕ, zero, suc, ◌<◌, ◌≤◌, arith, Bool, true, false, ◌&&◌, cond, List, [], ◌∷◌, Some, None, refl, sym, ap, subst, ◌∙◌, inr}
use Rattle.pg_perm.specs.declared.kinds.Event.{Event}
use Rattle.pg_perm.specs.declared.kinds.Event.TheVariants.{Load, Store, Evict}
use Rattle.pg_perm.specs.declared.kinds.FwdClass.TheVariants.{Inv}
use Rattle.pg_perm.specs.declared.draft.Draft.{Draft}
use Rattle.pg_perm.specs.Drafts.{IsWellFormed}
use Rattle.pg_terms.specs.Terms.{has_class}
use Rattle.pg_shape.specs.Shaped.{IsShaped}
use Rattle.pg_directory.specs.Sends.{forward_sent}
use Rattle.pg_directory.proofs.Facts.{first_has_class}
use Rattle.pg_table.specs.declared.cache.Desc.TheVariants.{Ask}
use Rattle.pg_table.specs.declared.cache.Phase.{Phase}
use Rattle.pg_table.specs.declared.cache.Phase.TheVariants.{D, Ad, Ac, A}
use Rattle.pg_table.specs.declared.cache.Tag.{Tag}
use Rattle.pg_table.specs.Choices.{is_later, tag_by}
use Rattle.pg_messages.specs.declared.messages.Ordered.{Ordered}
use Rattle.pg_messages.specs.declared.messages.Ordered.TheVariants.{Forward}
use Rattle.pg_order.specs.Messages.{tally}
use Rattle.pg_order.specs.Orders.{DirOrder, entry_message}
use Rattle.pg_order.specs.Views.{View, is_unserved, acks_owed}
use Rattle.pg_order.proofs.Known.{IsKnown, known}
use Rattle.pg_order.proofs.Between.{Head, head}
use Rattle.pg_order.proofs.Quiet.{IsSent, forward_is}
use Rattle.pg_order.proofs.Steps.{IsStep, unserved_kept, all_unserved_same, owed_same}
use Rattle.pg_messages.specs.declared.messages.Reply.{Reply}
use Rattle.pg_messages.specs.declared.messages.Reply.TheVariants.{Data, InvAck, WbData}
use Rattle.pg_controllers.specs.Networks.{Core}
use Rattle.pg_controllers.specs.Directories.{is_busy}
use Rattle.pg_controllers.specs.Worlds.{World, core, order_of}
use Rattle.pg_orderly.specs.Orderly.{Mark, is_pending, view_of, IsFirstPhase, is_ahead, IsAhead, IsAsking, IsLined, IsPlaced, is_storing, is_granted, is_ack_to, is_write_back, is_data_due, ArePromised, IsAnswered, IsBusy, IsBusyAt, IsOrderly}
use Rattle.pg_orderly.proofs.Keeping.{marked, moved, step_of, catches_up, due_same}
use Rattle.pg_orderly.proofs.Acks.{storing_is, acks_same}
use Rattle.pg_orderly.proofs.Postpone.{may_follow, ahead_by, put_off, ahead_more, ahead_first}

-- Facts that stay where the same is served

pub promised_same : (d : Draft) (p : DirOrder) (last now : ℕ → ℕ) (n : ℕ) (xs : List Reply) → ((e : ℕ) → now e ≡ last e) → ArePromised d p last n xs → ArePromised d p now n xs
promised_same d p last now n [] same h = tt
promised_same d p last now n (Data r c v i k ∷ xs) same h = ((h.0.0, h.0.1 ∙ sym (same c), h.0.2), promised_same d p last now n xs same h.1)
promised_same d p last now n (InvAck c k ∷ xs) same h = (h.0, promised_same d p last now n xs same h.1)
promised_same d p last now n (WbData v k ∷ xs) same h = (tt, promised_same d p last now n xs same h.1)

busy_at_same : (d : Draft) (p : DirOrder) (v u : View) (wbs k : ℕ) → ((j : ℕ) → is_unserved d p u j ≡ is_unserved d p v j) → IsBusyAt d p v wbs k → IsBusyAt d p u wbs k
busy_at_same d p v u wbs zero same h = h
busy_at_same d p v u wbs (suc j) same h = (h.0, h.1 ∙ ap (λ b. cond b 0 1) (sym (same j)))

pub busy_same : (d : Draft) (p : DirOrder) (v u : View) (wbs : ℕ) (b : Bool) → ((j : ℕ) → is_unserved d p u j ≡ is_unserved d p v j) → IsBusy d p v wbs b → IsBusy d p u wbs b
busy_same d p v u wbs true same h = busy_at_same d p v u wbs p.top same h
busy_same d p v u wbs false same h = h

-- one core's answers, where the same is served and owed
pub answered_same : (d : Draft) (p : DirOrder) (v u : View) (c : ℕ) (x y : Core) (rs : List Reply) → u.last c ≡ v.last c → is_pending y ≡ is_pending x → is_granted y.line.desc ≡ is_granted x.line.desc
    → is_storing y.line.desc ≡ is_storing x.line.desc → y.line.got ≡ x.line.got → ((j : ℕ) → is_unserved d p u j ≡ is_unserved d p v j)
    → ((j : ℕ) → (is_pending x && is_storing x.line.desc) ≡ true → v.last c ≡ suc j → acks_owed p u j ≡ acks_owed p v j) → IsAnswered d p v c x rs → IsAnswered d p u c y rs
answered_same d p v u c x y rs last pend grant store got same owe h = record {
  filled = h.filled ∙ ap (λ b. cond b 1 0) (sym (due_same d p v u x y (v.last c) pend grant (λ j e. same j))) ∙ ap (λ k. cond (is_data_due d p u y k) 1 0) (sym last);
  acks = rw (last, pend, store) (acks_same p v u x y (tally (is_ack_to c) rs) (v.last c) (is_pending x && is_storing x.line.desc) got owe h.acks);
}

-- A forward is put off

pub record IsPutOff (d : Draft) (w : World) (m : ℕ → Mark) (c : ℕ) (e : Event) (s : ℕ) (ph : Phase) (t : Tag) (f r i k : ℕ) (ms : List Ordered) : Type 0 where
  pub desc : (core w c).line.desc ≡ Ask e s ph t
  pub slot : (core w c).slot ≡ None
  pub queue : (core w c).queue ≡ Forward f r i k ∷ ms
  pub later : is_later d s e t f ≡ true
  pub not_inv : has_class Inv d f ≡ false
  -- what the race order gives of a line that is level
  pub first : is_ahead ph t ≡ false → IsFirstPhase ph × ((m c).last < k)

abbrev pub with_put_off : Draft → Core → Event → ℕ → Phase → Ordered → ℕ → List Ordered → Core
with_put_off d x e s ph m f ms = record { line = put_off d x.line e s ph m f; left = x.left; slot = None; queue = ms }

same_grant : (e : Event) (s : ℕ) (ph : Phase) (t u : Tag) → is_granted (Ask e s ph t) ≡ is_granted (Ask e s ph u)
same_grant e s D t u = refl
same_grant e s Ad t u = refl
same_grant e s Ac t u = refl
same_grant e s A t u = refl

same_store : (e : Event) (s : ℕ) (ph : Phase) (t u : Tag) → is_storing (Ask e s ph t) ≡ is_storing (Ask e s ph u)
same_store Load s ph t u = refl
same_store Store s ph t u = refl
same_store Evict s ph t u = refl

pub postponed : (d : Draft) (n : ℕ) (w : World) (m : ℕ → Mark) (c : ℕ) (e : Event) (s : ℕ) (ph : Phase) (t : Tag) (f r i k : ℕ) (ms : List Ordered) → IsWellFormed d → IsShaped d → c < n
    → IsOrderly d n w m → IsPutOff d w m c e s ph t f r i k ms
    → (g : ℕ) × IsOrderly d n (moved c (with_put_off d (core w c) e s ph (Forward f r i k) f ms) w.replies w.done w) (marked c (record { seen = suc g; last = (m c).last }) m)
    × ((m c).seen ≤ g) × (g < (order_of d w).top) × ((j : ℕ) → (m c).seen ≤ j → j < g → entry_message d (order_of d w) c j ≡ None) × (entry_message d (order_of d w) c g ≡ Some (Forward f r i k))
postponed d n w m c e s ph t f r i k ms wf sh low o h = (
  g,
  catches_up d n w m c g y w.replies w.done low o (record {
    step = step;
    served = λ u. sym (same g) ∙ u;
    placed = placed;
    granted = same_grant e s ph (tag_by d f) t ∙ ap is_granted (sym h.desc);
    promised = promised_same d p (λ e. (m e).last) (λ e. (marks e).last) n w.replies step.last o.promised;
    own = answered_same d p v u c x y w.replies (step.last c) pend (same_grant e s ph (tag_by d f) t ∙ ap is_granted (sym h.desc)) (same_store e s ph (tag_by d f) t ∙ ap is_storing (sym h.desc)) refl same (owes c low) (o.answered c low);
    others = λ e b ne. answered_same d p v u e (core w e) (core w e) w.replies (step.last e) refl refl refl refl same (owes e b) (o.answered e b);
    busy = busy_same d p v u (tally is_write_back w.replies) (is_busy w.directory.desc) same o.busy;
  }),
  hd.from,
  inside,
  hd.quiet,
  hd.sends,
)
  where
    p : DirOrder
    p = order_of d w

    x : Core
    x = core w c

    pl : IsPlaced d p c x (m c)
    pl = o.placed c low

    k0 : IsKnown d n p
    k0 = known d n p wf sh o.past

    hd : Head (entry_message d p c) (m c).seen pl.rest (Forward f r i k) ms
    hd = head (entry_message d p c) (m c).seen pl.rest (Forward f r i k) ms (sym h.queue ∙ pl.queue)

    g : ℕ
    g = hd.at

    y : Core
    y = with_put_off d x e s ph (Forward f r i k) f ms

    marks : ℕ → Mark
    marks = marked c (record { seen = suc g; last = (m c).last }) m

    v : View
    v = view_of w m

    u : View
    u = view_of (moved c y w.replies w.done w) marks

    fw : IsSent d p c g f r i k
    fw = forward_is d p c g f r i k hd.sends

    inside : g < p.top
    inside = let a = hd.upto in let b = pl.upto in omega (arith, a, b)

    pend : is_pending y ≡ is_pending x
    pend = sym (rw (h.desc, h.slot) refl)

    step : IsStep d p v u c g
    step = step_of d w m c g y w.replies w.done (let a = o.cores in omega (arith, a, low)) pend hd.from hd.quiet

    lined : IsLined d p c x.line (m c) (Ask e s ph t) None
    lined = rw (h.desc, h.slot) at pl.line

    ahead : (b : Bool) → is_ahead ph t ≡ b → IsAsking d p c x.line (m c) e s ph t b → ((m c).last ≤ g) × IsAhead d p c (put_off d x.line e s ph (Forward f r i k) f) (record { seen = suc g; last = (m c).last }) e s ph (tag_by d f)
    ahead true is a = (let upto = a.upto in let from = hd.from in omega (arith, upto, from), ahead_more d p c g x.line (m c) e s ph t f r i k a hd.from hd.quiet hd.sends (may_follow d s e t f h.later h.not_inv) h.not_inv)
    ahead false is a =
        let (first, before) = h.first is in
        let stamp = fw.stamp in
        let later : (m c).last ≤ g = omega (arith, before, stamp) in
        (later, ahead_first d n p k0 c g x (m c) e s ph f r i k pl inside a.0 a.1 first a.2 a.3 later hd.quiet hd.sends h.not_inv)

    now : ((m c).last ≤ g) × IsAhead d p c (put_off d x.line e s ph (Forward f r i k) f) (record { seen = suc g; last = (m c).last }) e s ph (tag_by d f)
    now = ahead (is_ahead ph t) refl lined.1

    same : (j : ℕ) → is_unserved d p u j ≡ is_unserved d p v j
    same = all_unserved_same d p v u c g step (unserved_kept d p v u c g step (sym pend) now.0)

    owes : (e : ℕ) → e < n → (j : ℕ) → (is_pending (core w e) && is_storing (core w e).line.desc) ≡ true → (m e).last ≡ suc j → acks_owed p u j ≡ acks_owed p v j
    owes e b j store last =
        let at = o.placed e b in
        let upto = at.last_low in
        owed_same d n p v u c g sh k0 step j (omega (arith, last, upto)) (storing_is d p e (core w e).line (m e) (core w e).line.desc (core w e).slot at.line store j last)
        (λ z at to inv. absurd (let sends = fw.sends in let there = subst (λ j. forward_sent d (p.dir_entry j) (p.at j) c ≡ Some z) at to in let is_it : f ≡ z = cc (sends, there) in let class = first_has_class d Inv z inv in let not = h.not_inv in let other = subst (λ z. has_class Inv d z ≡ true) (sym is_it) class in cc (not, other)))

    placed : IsPlaced d p c y (record { seen = suc g; last = (m c).last })
    placed = record {
      last_low = pl.last_low;
      last_own = pl.last_own;
      last_is = pl.last_is;
      touched = λ j e. let same : g ≡ j = omega (arith, e) in inr (Forward f r i k, subst (λ j. entry_message d p c j ≡ Some (Forward f r i k)) same hd.sends);
      gap = λ j lt own. let viewed = pl.gap j lt own in let from = hd.from in omega (arith, viewed, from);
      rest = hd.rest;
      upto = hd.upto ∙ pl.upto;
      queue = hd.later;
      line = (lined.0, subst (λ b. IsAsking d p c y.line (record { seen = suc g; last = (m c).last }) e s ph (tag_by d f) b) (sym (ahead_by d ph f)) now.1);
    }
