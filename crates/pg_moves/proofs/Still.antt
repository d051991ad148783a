-- A world stays orderly when a core that isn't pending changes, but has seen no more.
use Rattle.std.proofs.Common.{◌≡◌, ℕ, ◌<◌, arith, true, false, ◌&&◌, cond, List, length, sym, ap, subst, ◌∙◌}
use Rattle.std.specs.Prelude.{◌==◌}
use Rattle.std.proofs.Math.Path.{fun_ext}
use Rattle.std.proofs.lemmas.List.{length-set}
use Rattle.pg_perm.specs.declared.draft.Draft.{Draft}
use Rattle.pg_order.specs.Messages.{tally}
use Rattle.pg_order.specs.Orders.{DirOrder}
use Rattle.pg_order.specs.Views.{IsWaiting, is_unserved}
use Rattle.pg_controllers.specs.Networks.{Core}
use Rattle.pg_controllers.specs.Directories.{is_busy}
use Rattle.pg_messages.specs.declared.messages.DoneEntry.{DoneEntry}
use Rattle.pg_controllers.specs.Worlds.{World, core, order_of}
use Rattle.pg_orderly.specs.Orderly.{Mark, is_pending, view_of, IsLined, IsPlaced, is_granted, is_storing, is_write_back, is_ack_to, AcksAre, IsAnswered, IsBusy, IsOrderly}
use Rattle.pg_orderly.proofs.Keeping.{moved, core_same, core_other, each}
use Rattle.pg_orderly.proofs.Handled.{not_due}

-- a core stays where it is
pub placed_with : (d : Draft) (p : DirOrder) (c : ℕ) (x y : Core) (m : Mark) → y.queue ≡ x.queue → IsLined d p c y.line m y.line.desc y.slot → IsPlaced d p c x m → IsPlaced d p c y m
placed_with d p c x y m queue line pl = record {
  last_low = pl.last_low;
  last_own = pl.last_own;
  last_is = pl.last_is;
  touched = pl.touched;
  gap = pl.gap;
  rest = pl.rest;
  upto = pl.upto;
  queue = queue ∙ pl.queue;
  line = line;
}

pub record IsStill (d : Draft) (w : World) (m : ℕ → Mark) (c : ℕ) (y : Core) : Type 0 where
  pub idle : is_pending (core w c) ≡ false
  pub still : is_pending y ≡ false
  pub ungranted : is_granted y.line.desc ≡ false
  pub got : (core w c).line.got ≡ 0 → y.line.got ≡ 0
  pub placed : IsPlaced d (order_of d w) c y (m c)

pub stands_still : (d : Draft) (n : ℕ) (w : World) (m : ℕ → Mark) (c : ℕ) (y : Core) (dn : List DoneEntry) → c < n → IsOrderly d n w m → IsStill d w m c y → IsOrderly d n (moved c y w.replies dn w) m
stands_still d n w m c y dn low o h = record {
  cores = length-set w.cores c y ∙ o.cores;
  past = o.past;
  directory = o.directory;
  last = o.last;
  placed = each (λ e. e < n → IsPlaced d p e (core x e) (m e)) c (λ b. subst (λ z. IsPlaced d p c z (m c)) (sym here) h.placed) (λ e ne b. subst (λ z. IsPlaced d p e z (m e)) (sym (there e ne)) (o.placed e b));
  waiting = subst (IsWaiting d p) (sym views) o.waiting;
  ungranted = λ j b un. each (λ e. is_granted (core w e).line.desc ≡ false → is_granted (core x e).line.desc ≡ false) c
      (λ z. ap (λ (z : Core). is_granted z.line.desc) here ∙ h.ungranted) (λ e ne z. ap (λ (z : Core). is_granted z.line.desc) (there e ne) ∙ z) (p.at j).core (o.ungranted j b (as_was j un));
  promised = o.promised;
  answered = each (λ e. e < n → IsAnswered d p (view_of x m) e (core x e) w.replies) c (λ b. own_answered)
      (λ e ne b. subst (λ z. IsAnswered d p (view_of x m) e z w.replies) (sym (there e ne)) (subst (λ v. IsAnswered d p v e (core w e) w.replies) (sym views) (o.answered e b)));
  busy = subst (λ v. IsBusy d p v (tally is_write_back w.replies) (is_busy w.directory.desc)) (sym views) o.busy;
  shares = λ j f b un to class. o.shares j f b (as_was j un) to class;
}
  where
    p : DirOrder
    p = order_of d w

    x : World
    x = moved c y w.replies dn w

    inside : c < length w.cores
    inside = let same = o.cores in omega (arith, same, low)

    here : core x c ≡ y
    here = core_same c y w.replies dn w inside

    there : (e : ℕ) → (c == e) ≡ false → core x e ≡ core w e
    there e ne = core_other c e y w.replies dn w ne

    pends : (e : ℕ) → is_pending (core x e) ≡ is_pending (core w e)
    pends = each (λ e. is_pending (core x e) ≡ is_pending (core w e)) c (ap is_pending here ∙ h.still ∙ sym h.idle) (λ e ne. ap is_pending (there e ne))

    views : view_of x m ≡ view_of w m
    views = ap (λ f. record { seen = λ c. (m c).seen; last = λ c. (m c).last; pending = f }) (fun_ext pends)

    as_was : (j : ℕ) → is_unserved d p (view_of x m) j ≡ true → is_unserved d p (view_of w m) j ≡ true
    as_was j un = subst (λ v. is_unserved d p v j ≡ true) views un

    old : AcksAre p (view_of w m) (core w c) (tally (is_ack_to c) w.replies) (m c).last false
    old = subst (AcksAre p (view_of w m) (core w c) (tally (is_ack_to c) w.replies) (m c).last) (ap (λ b. b && is_storing (core w c).line.desc) h.idle) (o.answered c low).acks

    now : IsAnswered d p (view_of x m) c y w.replies
    now = record {
      filled = (o.answered c low).filled ∙ ap (λ b. cond {A = ℕ} b 1 0) (not_due d p (view_of w m) (core w c) (m c).last h.idle ∙ sym (not_due d p (view_of x m) y (m c).last h.still));
      acks = subst (AcksAre p (view_of x m) y (tally (is_ack_to c) w.replies) (m c).last) (sym (ap (λ b. b && is_storing y.line.desc) h.still)) (h.got old.0, old.1);
    }

    own_answered : IsAnswered d p (view_of x m) c (core x c) w.replies
    own_answered = subst (λ z. IsAnswered d p (view_of x m) c z w.replies) (sym here) now
