-- A world stays orderly when one core catches up with the next entry that touches it.
use Rattle.std.proofs.Common.{◌≡◌, ℕ, zero, suc, ◌<◌, ◌≤◌, arith, Bool, true, false, ◌&&◌, not, List, length, set, None, refl, sym, ap, subst, ◌∙◌}
use Rattle.std.specs.Prelude.{◌==◌, if◌then◌else◌}
use Rattle.std.proofs.lemmas.Bool.{eqb-true, eqb-false}
use Rattle.std.proofs.lemmas.List.{get_or-set_same, get_or-set_other, length-set}
use Rattle.pg_perm.specs.declared.draft.Draft.{Draft}
use Rattle.pg_directory.specs.Requests.{action_of}
use Rattle.pg_directory.proofs.Cores.{same_core}
use Rattle.pg_order.specs.Messages.{tally}
use Rattle.pg_order.specs.Orders.{DirOrder, entry_message}
use Rattle.pg_order.specs.Views.{View, is_unserved}
use Rattle.pg_order.proofs.Steps.{IsStep, waiting_stays, still_unserved}
use Rattle.pg_messages.specs.declared.messages.Reply.{Reply}
use Rattle.pg_controllers.specs.Networks.{Core, idle_core}
use Rattle.pg_controllers.specs.Directories.{is_busy}
use Rattle.pg_messages.specs.declared.messages.DoneEntry.{DoneEntry}
use Rattle.pg_controllers.specs.Worlds.{World, core, order_of}
use Rattle.pg_orderly.specs.Orderly.{Mark, is_pending, view_of, IsPlaced, is_write_back, ArePromised, is_granted, brings_data, is_data_due, IsAnswered, IsBusy, IsOrderly}

-- the marks with one moved
abbrev pub marked : ℕ → Mark → (ℕ → Mark) → ℕ → Mark
marked c x m e = if c == e then x else m e

-- the world with core c, the replies and what is done changed
abbrev pub moved : ℕ → Core → List Reply → List DoneEntry → World → World
moved c y rs dn w = record w { cores = set w.cores c y; replies = rs; done = dn }

pub core_same : (c : ℕ) (y : Core) (rs : List Reply) (dn : List DoneEntry) (w : World) → c < length w.cores → core (moved c y rs dn w) c ≡ y
core_same c y rs dn w low = get_or-set_same w.cores c y idle_core low

pub core_other : (c e : ℕ) (y : Core) (rs : List Reply) (dn : List DoneEntry) (w : World) → (c == e) ≡ false → core (moved c y rs dn w) e ≡ core w e
core_other c e y rs dn w ne = get_or-set_other w.cores c e y idle_core (λ same. eqb-false c e ne (sym same))

-- something holds of every core if it holds of the one that moved, and of the others
pub each : (P : ℕ → Type 0) (c : ℕ) → P c → ((e : ℕ) → (c == e) ≡ false → P e) → (e : ℕ) → P e
each P c own others e = at (c == e) refl
  where
    at : (b : Bool) → (c == e) ≡ b → P e
    at true same = subst P (eqb-true c e same) own
    at false ne = others e ne

-- the view steps
pub step_of : (d : Draft) (w : World) (m : ℕ → Mark) (c g : ℕ) (y : Core) (rs : List Reply) (dn : List DoneEntry) → c < length w.cores → is_pending y ≡ is_pending (core w c)
    → (m c).seen ≤ g → ((j : ℕ) → (m c).seen ≤ j → j < g → entry_message d (order_of d w) c j ≡ None)
    → IsStep d (order_of d w) (view_of w m) (view_of (moved c y rs dn w) (marked c (record { seen = suc g; last = (m c).last }) m)) c g
step_of d w m c g y rs dn inside pend low quiet = record {
  last = each (λ e. (marked c (record { seen = suc g; last = (m c).last }) m e).last ≡ (m e).last) c (rw (same_core c) refl) (λ e ne. rw ne refl);
  pending = each (λ e. is_pending (core (moved c y rs dn w) e) ≡ is_pending (core w e)) c (ap is_pending (core_same c y rs dn w inside) ∙ pend) (λ e ne. ap is_pending (core_other c e y rs dn w ne));
  others = λ e ne. rw ne refl;
  seen = rw (same_core c) refl;
  low = low;
  quiet = quiet;
}

-- what is left to show
pub record IsCaughtUp (d : Draft) (n : ℕ) (w : World) (m : ℕ → Mark) (c g : ℕ) (y : Core) (rs : List Reply) (u : View) (marks : ℕ → Mark) : Type 0 where
  pub step : IsStep d (order_of d w) (view_of w m) u c g
  pub served : is_unserved d (order_of d w) u g ≡ true → is_unserved d (order_of d w) (view_of w m) g ≡ true
  pub placed : IsPlaced d (order_of d w) c y (record { seen = suc g; last = (m c).last })
  pub granted : is_granted y.line.desc ≡ is_granted (core w c).line.desc
  pub promised : ArePromised d (order_of d w) (λ e. (marks e).last) n rs
  pub own : IsAnswered d (order_of d w) u c y rs
  pub others : (e : ℕ) → e < n → (c == e) ≡ false → IsAnswered d (order_of d w) u e (core w e) rs
  pub busy : IsBusy d (order_of d w) u (tally is_write_back rs) (is_busy w.directory.desc)

pub catches_up : (d : Draft) (n : ℕ) (w : World) (m : ℕ → Mark) (c g : ℕ) (y : Core) (rs : List Reply) (dn : List DoneEntry) → c < n → IsOrderly d n w m
    → IsCaughtUp d n w m c g y rs (view_of (moved c y rs dn w) (marked c (record { seen = suc g; last = (m c).last }) m)) (marked c (record { seen = suc g; last = (m c).last }) m)
    → IsOrderly d n (moved c y rs dn w) (marked c (record { seen = suc g; last = (m c).last }) m)
catches_up d n w m c g y rs dn low o h = record {
  cores = length-set w.cores c y ∙ o.cores;
  past = o.past;
  directory = o.directory;
  last = o.last;
  placed = λ e below. each (λ e. e < n → IsPlaced d p e (core (moved c y rs dn w) e) (marks e)) c (λ b. own) (λ e ne b. other e ne b) e below;
  waiting = waiting_stays d p (view_of w m) u c g h.step h.served o.waiting;
  ungranted = λ j at e. grants (p.at j).core ∙ o.ungranted j at (still_unserved d p (view_of w m) u c g h.step h.served j e);
  promised = h.promised;
  answered = λ e below. each (λ e. e < n → IsAnswered d p u e (core (moved c y rs dn w) e) rs) c
      (λ b. subst (λ x. IsAnswered d p u c x rs) (sym (core_same c y rs dn w inside)) h.own)
      (λ e ne b. subst (λ x. IsAnswered d p u e x rs) (sym (core_other c e y rs dn w ne)) (h.others e b ne)) e below;
  busy = h.busy;
  shares = λ j f at e to class. o.shares j f at (still_unserved d p (view_of w m) u c g h.step h.served j e) to class;
}
  where
    p : DirOrder
    p = order_of d w

    marks : ℕ → Mark
    marks = marked c (record { seen = suc g; last = (m c).last }) m

    u : View
    u = view_of (moved c y rs dn w) (marked c (record { seen = suc g; last = (m c).last }) m)

    inside : c < length w.cores
    inside = let same = o.cores in omega (arith, same, low)

    own : IsPlaced d p c (core (moved c y rs dn w) c) (marks c)
    own = rw (core_same c y rs dn w inside, same_core c) h.placed

    other : (e : ℕ) → (c == e) ≡ false → e < n → IsPlaced d p e (core (moved c y rs dn w) e) (marks e)
    other e ne below = rw (core_other c e y rs dn w ne, ne) (o.placed e below)

    grants : (e : ℕ) → is_granted (core (moved c y rs dn w) e).line.desc ≡ is_granted (core w e).line.desc
    grants = each (λ e. is_granted (core (moved c y rs dn w) e).line.desc ≡ is_granted (core w e).line.desc) c
        (ap (λ (x : Core). is_granted x.line.desc) (core_same c y rs dn w inside) ∙ h.granted) (λ e ne. ap (λ (x : Core). is_granted x.line.desc) (core_other c e y rs dn w ne))

-- data is due as it was, where the same is served
pub due_same : (d : Draft) (p : DirOrder) (v u : View) (x y : Core) (k : ℕ) → is_pending y ≡ is_pending x → is_granted y.line.desc ≡ is_granted x.line.desc
    → ((j : ℕ) → k ≡ suc j → is_unserved d p u j ≡ is_unserved d p v j) → is_data_due d p u y k ≡ is_data_due d p v x k
due_same d p v u x y zero pend grant same = refl
due_same d p v u x y (suc j) pend grant same =
    ap (λ b. b && not (is_granted y.line.desc) && brings_data (action_of d (p.dir_entry j) (p.at j)) && not (is_unserved d p u j)) pend
    ∙ ap (λ b. is_pending x && not b && brings_data (action_of d (p.dir_entry j) (p.at j)) && not (is_unserved d p u j)) grant
    ∙ ap (λ b. is_pending x && not (is_granted x.line.desc) && brings_data (action_of d (p.dir_entry j) (p.at j)) && not b) (same j refl)
