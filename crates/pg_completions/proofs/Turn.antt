-- A world stays orderly when one core moves on, and all that is served and owed is as it was.
use Rattle.std.proofs.Common.{◌≡◌, ℕ, suc, ◌<◌, ◌≤◌, arith, Bool, true, false, ◌&&◌, List, length, Some, refl, sym, ap, subst, ◌∙◌}
use Rattle.std.specs.Prelude.{◌==◌}
use Rattle.std.proofs.lemmas.Bool.{eqb-true}
use Rattle.std.proofs.lemmas.List.{length-set}
use Rattle.pg_perm.specs.declared.kinds.FwdClass.TheVariants.{Inv}
use Rattle.pg_perm.specs.declared.draft.Draft.{Draft}
use Rattle.pg_perm.specs.Drafts.{IsWellFormed}
use Rattle.pg_terms.specs.Terms.{has_class}
use Rattle.pg_shape.specs.Shaped.{IsShaped}
use Rattle.pg_directory.specs.Sends.{forward_sent}
use Rattle.pg_directory.proofs.Cores.{same_core}
use Rattle.pg_order.specs.Messages.{tally}
use Rattle.pg_order.specs.Orders.{DirOrder}
use Rattle.pg_order.specs.Views.{View, is_unserved, IsWaitedFor, acks_owed}
use Rattle.pg_order.proofs.Known.{IsKnown, known}
use Rattle.pg_messages.specs.declared.messages.Reply.{Reply}
use Rattle.pg_controllers.specs.Networks.{Core}
use Rattle.pg_controllers.specs.Directories.{is_busy}
use Rattle.pg_messages.specs.declared.messages.DoneEntry.{DoneEntry}
use Rattle.pg_controllers.specs.Worlds.{World, core, order_of}
use Rattle.pg_orderly.specs.Orderly.{Mark, is_pending, view_of, IsPlaced, is_storing, is_granted, is_data_to, is_ack_to, is_write_back, ArePromised, AcksAre, IsAnswered, IsBusy, IsOrderly}
use Rattle.pg_orderly.proofs.Keeping.{marked, moved, core_same, core_other, each}
use Rattle.pg_orderly.proofs.Acks.{storing_is}
use Rattle.pg_orderly.proofs.Postponed.{promised_same, busy_same, answered_same}
use Rattle.pg_completions.proofs.Even.{IsEven, IsViewed, unserved_even, owed_even, earlier_even}

pub viewed : (w : World) (m : ℕ → Mark) (c seen : ℕ) (y : Core) (rs : List Reply) (dn : List DoneEntry) → c < length w.cores
    → IsViewed (view_of w m) (view_of (moved c y rs dn w) (marked c (record { seen = seen; last = (m c).last }) m)) c seen (is_pending y)
viewed w m c seen y rs dn inside = record {
  last = each (λ z. (marked c (record { seen = seen; last = (m c).last }) m z).last ≡ (m z).last) c (rw (same_core c) refl) (λ z ne. rw ne refl);
  others = λ z ne. (rw ne refl, ap is_pending (core_other c z y rs dn w ne));
  seen = rw (same_core c) refl;
  pending = ap is_pending (core_same c y rs dn w inside);
}

pub record IsTurning (d : Draft) (n : ℕ) (w : World) (m : ℕ → Mark) (c seen : ℕ) (y : Core) (rs : List Reply) (u : View) : Type 0 where
  pub even : IsEven d (order_of d w) (view_of w m) u c
  -- its own entry, where it isn't served, or owed something
  pub opened : (j : ℕ) → (m c).last ≡ suc j → is_unserved d (order_of d w) (view_of w m) j ≡ true → (is_pending y ≡ true) × (is_granted y.line.desc ≡ false)
  pub owing : (j z g : ℕ) → (m c).last ≡ suc j → j < (order_of d w).top → forward_sent d ((order_of d w).dir_entry j) ((order_of d w).at j) z ≡ Some g → has_class Inv d g ≡ true → (m z).seen < suc j → is_pending y ≡ true
  pub placed : IsPlaced d (order_of d w) c y (record { seen = seen; last = (m c).last })
  pub promised : ArePromised d (order_of d w) (λ e. (m e).last) n rs
  pub own : IsAnswered d (order_of d w) u c y rs
  pub data_as : (e : ℕ) → (c == e) ≡ false → tally (is_data_to e) rs ≡ tally (is_data_to e) w.replies
  pub acks_as : (e : ℕ) → (c == e) ≡ false → tally (is_ack_to e) rs ≡ tally (is_ack_to e) w.replies
  pub wbs : tally is_write_back rs ≡ tally is_write_back w.replies

pub turns_kept : (d : Draft) (n : ℕ) (w : World) (m : ℕ → Mark) (c seen : ℕ) (y : Core) (rs : List Reply) (dn : List DoneEntry) → IsWellFormed d → IsShaped d → c < n → IsOrderly d n w m
    → IsTurning d n w m c seen y rs (view_of (moved c y rs dn w) (marked c (record { seen = seen; last = (m c).last }) m))
    → IsOrderly d n (moved c y rs dn w) (marked c (record { seen = seen; last = (m c).last }) m)
turns_kept d n w m c seen y rs dn wf sh low o h = record {
  cores = length-set w.cores c y ∙ o.cores;
  past = o.past;
  directory = o.directory;
  last = o.last;
  placed = λ z b. each (λ z. z < n → IsPlaced d p z (core x z) (marks z)) c (λ b. rw (core_same c y rs dn w inside, same_core c) h.placed) (λ z ne b. rw (core_other c z y rs dn w ne, ne) (o.placed z b)) z b;
  waiting = record {
    lasts = λ j b. subst (λ k. suc j ≤ k) (sym (h.even.last (p.at j).core)) (o.waiting.lasts j b);
    forwards = λ j b un. let was = sym (same j) ∙ un in still j (o.waiting.forwards j b was) (λ last. (h.opened j last was).0);
    invs = λ j z g b sends class lt. let before = earlier_even d p v u c sh h.even j z g sends class lt in still j (o.waiting.invs j z g b sends class before) (λ last. h.owing j z g last b sends class before);
    shares = λ j g b un to class. o.waiting.shares j g b (sym (same j) ∙ un) to class;
  };
  ungranted = λ j b un. let was = sym (same j) ∙ un in free j was (o.waiting.forwards j b was) (o.ungranted j b was);
  promised = promised_same d p (λ z. (m z).last) (λ z. (marks z).last) n rs h.even.last h.promised;
  answered = λ z b. each (λ z. z < n → IsAnswered d p u z (core x z) rs) c (λ b. subst (λ q. IsAnswered d p u c q rs) (sym (core_same c y rs dn w inside)) h.own)
      (λ z ne b. subst (λ q. IsAnswered d p u z q rs) (sym (core_other c z y rs dn w ne)) (other_answered z ne b)) z b;
  busy = subst (λ b. IsBusy d p u b (is_busy w.directory.desc)) (sym h.wbs) (busy_same d p v u (tally is_write_back w.replies) (is_busy w.directory.desc) same o.busy);
  shares = λ j g b un to class. o.shares j g b (sym (same j) ∙ un) to class;
}
  where
    p : DirOrder
    p = order_of d w

    marks : ℕ → Mark
    marks = marked c (record { seen = seen; last = (m c).last }) m

    x : World
    x = moved c y rs dn w

    v : View
    v = view_of w m

    u : View
    u = view_of x marks

    inside : c < length w.cores
    inside = let same = o.cores in omega (arith, same, low)

    k0 : IsKnown d n p
    k0 = known d n p wf sh o.past

    same : (j : ℕ) → is_unserved d p u j ≡ is_unserved d p v j
    same = unserved_even d p v u c h.even

    still : (j : ℕ) → IsWaitedFor p v j → ((m c).last ≡ suc j → is_pending y ≡ true) → IsWaitedFor p u j
    still j (last, pend) own = (h.even.last (p.at j).core ∙ last, at (c == (p.at j).core) refl)
      where
        at : (b : Bool) → (c == (p.at j).core) ≡ b → u.pending (p.at j).core ≡ true
        at true is =
            let e = eqb-true c (p.at j).core is in
            subst (λ z. is_pending (core x z) ≡ true) e (ap is_pending (core_same c y rs dn w inside) ∙ own (subst (λ z. (m z).last ≡ suc j) (sym e) last))
        at false ne = (h.even.others (p.at j).core ne).1 ∙ pend

    free : (j : ℕ) → is_unserved d p v j ≡ true → IsWaitedFor p v j → is_granted (core w (p.at j).core).line.desc ≡ false → is_granted (core x (p.at j).core).line.desc ≡ false
    free j un (last, pend) was = at (c == (p.at j).core) refl
      where
        at : (b : Bool) → (c == (p.at j).core) ≡ b → is_granted (core x (p.at j).core).line.desc ≡ false
        at true is =
            let e = eqb-true c (p.at j).core is in
            subst (λ z. is_granted (core x z).line.desc ≡ false) e (ap (λ (z : Core). is_granted z.line.desc) (core_same c y rs dn w inside) ∙ (h.opened j (subst (λ z. (m z).last ≡ suc j) (sym e) last) un).1)
        at false ne = ap (λ (z : Core). is_granted z.line.desc) (core_other c (p.at j).core y rs dn w ne) ∙ was

    owes : (z : ℕ) → z < n → (j : ℕ) → (is_pending (core w z) && is_storing (core w z).line.desc) ≡ true → (m z).last ≡ suc j → acks_owed p u j ≡ acks_owed p v j
    owes z b j store last =
        let at = o.placed z b in let upto = at.last_low in
        owed_even d n p v u c sh k0 h.even j (omega (arith, last, upto)) (storing_is d p z (core w z).line (m z) (core w z).line.desc (core w z).slot at.line store j last)

    other_answered : (z : ℕ) → (c == z) ≡ false → z < n → IsAnswered d p u z (core w z) rs
    other_answered z ne b =
        let kept = answered_same d p v u z (core w z) (core w z) w.replies (h.even.last z) refl refl refl refl same (owes z b) (o.answered z b) in
        record { filled = h.data_as z ne ∙ kept.filled; acks = subst (λ k. AcksAre p u (core w z) k (u.last z) (is_pending (core w z) && is_storing (core w z).line.desc)) (sym (h.acks_as z ne)) kept.acks }
