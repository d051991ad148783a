-- A world stays orderly when a forward to an owner is answered.
use Rattle.std.proofs.Common.{◌≡◌, ◌≢◌, ℕ, zero, suc, ◌+◌, ◌<◌, ◌≤◌, arith, Bool, true, false, ◌&&◌, not, cond, List, ◌∷◌, ◌++◌, Option, Some, None, refl, sym, ap, subst, ◌∙◌, ◌⊎◌, inl, inr}
use Rattle.std.specs.Prelude.{◌==◌, is_none}
use Rattle.std.proofs.lemmas.Bool.{eqb-true, eqb-false}
use Rattle.pg_perm.specs.declared.kinds.FwdClass.TheVariants.{Inv, Share}
use Rattle.pg_perm.specs.declared.draft.Draft.{Draft}
use Rattle.pg_perm.specs.declared.draft.TakeLine.{TakeLine}
use Rattle.pg_perm.specs.declared.draft.Action.{Action}
use Rattle.pg_perm.specs.declared.draft.Action.TheVariants as action
use Rattle.pg_perm.specs.declared.draft.ReplyName.TheVariants as reply
use Rattle.pg_perm.specs.Drafts.{IsWellFormed}
use Rattle.pg_terms.specs.Terms.{has_class, cache_is, take_row}
use Rattle.pg_terms.specs.Rows.{allows}
use Rattle.pg_perm.specs.declared.kinds.Event.TheVariants.{Store}
use Rattle.pg_shape.specs.Shaped.{IsShaped}
use Rattle.pg_directory.specs.DirEntries.{who, entry_after}
use Rattle.pg_directory.specs.Sends.{forward_sent}
use Rattle.pg_directory.specs.Sound.{fits, fits_as}
use Rattle.pg_directory.specs.Requests.{IsReplyBy, action_of}
use Rattle.pg_directory.proofs.Holders.{who_of_owner}
use Rattle.pg_directory.proofs.Facts.{first_has_class}
use Rattle.pg_messages.specs.declared.messages.Ordered.{Ordered}
use Rattle.pg_messages.specs.declared.messages.Ordered.TheVariants.{Forward}
use Rattle.pg_order.specs.Messages.{tally}
use Rattle.pg_order.specs.Orders.{DirOrder, passed_forward, entry_message, acks_needed}
use Rattle.pg_order.specs.Views.{View, is_unserved, acks_owed}
use Rattle.pg_order.proofs.Known.{IsKnown, known}
use Rattle.pg_order.proofs.Between.{Head, head}
use Rattle.pg_order.proofs.Quiet.{IsSame, unchanged, IsSent, forward_is}
use Rattle.pg_order.proofs.Steps.{IsStep, unserved_same, owed_same}
use Rattle.pg_order.proofs.Passed.{IsPassedOn, passed_on, queued_unserved, answered_served}
use Rattle.pg_messages.specs.declared.messages.Reply.{Reply}
use Rattle.pg_messages.specs.declared.messages.Reply.TheVariants.{Data}
use Rattle.pg_controllers.specs.Networks.{Core}
use Rattle.pg_controllers.specs.Directories.{is_busy}
use Rattle.pg_controllers.specs.Worlds.{World, core, order_of}
use Rattle.pg_orderly.specs.Orderly.{Mark, is_pending, view_of, IsPlaced, is_storing, is_granted, is_data_to, is_ack_to, is_write_back, is_data_due, is_share, IsPromised, ArePromised, IsAnswered, IsBusy, IsBusyAt, IsOrderly}
use Rattle.pg_orderly.proofs.Keeping.{marked, moved, step_of, catches_up, due_same}
use Rattle.pg_orderly.proofs.Acks.{storing_is, acks_same}
use Rattle.pg_orderly.proofs.Postponed.{promised_same}
use Rattle.pg_orderly.proofs.Answer.{base, is_level, base_grant, base_stable, base_store, level_of, level_behind, level_moves, answering, tally-append, promised_more, written_back, owner_sends}

pub record IsAnswering (d : Draft) (w : World) (m : ℕ → Mark) (c f r i k : ℕ) (ms : List Ordered) (t : TakeLine) (a : ℕ) : Type 0 where
  pub level : is_level (core w c).line.desc ≡ true
  pub queue : (core w c).queue ≡ Forward f r i k ∷ ms
  pub not_inv : has_class Inv d f ≡ false
  pub take : take_row d (base (core w c).line.desc) f ≡ Some t
  pub gives : t.reply ≡ Some a
  pub denies : cache_is (allows Store) d t.next ≡ false
  -- what the race order gives of a pending line
  pub before : is_pending (core w c) ≡ true → k < (m c).last

abbrev pub with_answer : Draft → Core → ℕ → ℕ → List Ordered → Core
with_answer d x s k ms = record { line = answering d x.line s k; left = x.left; slot = x.slot; queue = ms }

either : (a b : ℕ) → (a ≡ b) ⊎ ((a < b) ⊎ (b < a))
either a b = search arith

-- What is counted among the replies

no_more_data : (e : ℕ) (b : Bool) (w k : ℕ) → tally (is_data_to e) (written_back b w k) ≡ 0
no_more_data e true w k = refl
no_more_data e false w k = refl

no_more_acks : (e : ℕ) (b : Bool) (w k : ℕ) → tally (is_ack_to e) (written_back b w k) ≡ 0
no_more_acks e true w k = refl
no_more_acks e false w k = refl

written : (b : Bool) (w k : ℕ) → tally is_write_back (written_back b w k) ≡ cond {A = ℕ} b 1 0
written true w k = refl
written false w k = refl

data_sent : (d : Draft) (e f a r w i k : ℕ) (b : Bool) → (r == e) ≡ b → (xs : List Reply) → tally (is_data_to e) (xs ++ owner_sends d f a r w i k) ≡ tally (is_data_to e) xs + cond {A = ℕ} b 1 0
data_sent d e f a r w i k b same xs =
    let sum = tally-append (is_data_to e) xs (owner_sends d f a r w i k) in
    let none = no_more_data e (has_class Share d f) w k in
    let first : cond {A = ℕ} (r == e) 1 0 ≡ cond {A = ℕ} b 1 0 = ap (λ b. cond {A = ℕ} b 1 0) same in
    omega (arith, sum, none, first)

acks_sent : (d : Draft) (e f a r w i k : ℕ) (xs : List Reply) → tally (is_ack_to e) (xs ++ owner_sends d f a r w i k) ≡ tally (is_ack_to e) xs
acks_sent d e f a r w i k xs =
    let sum = tally-append (is_ack_to e) xs (owner_sends d f a r w i k) in
    let none = no_more_acks e (has_class Share d f) w k in
    omega (arith, sum, none)

wbs_sent : (d : Draft) (f a r w i k : ℕ) (xs : List Reply) → tally is_write_back (xs ++ owner_sends d f a r w i k) ≡ tally is_write_back xs + cond {A = ℕ} (has_class Share d f) 1 0
wbs_sent d f a r w i k xs =
    let sum = tally-append is_write_back xs (owner_sends d f a r w i k) in
    let more = written (has_class Share d f) w k in
    omega (arith, sum, more)

-- data is due to the requestor, once it is served
due_now : (d : Draft) (p : DirOrder) (v : View) (x : Core) (g f : ℕ) → is_pending x ≡ true → is_granted x.line.desc ≡ false → action_of d (p.dir_entry g) (p.at g) ≡ Some (action.Forward f)
    → (b : Bool) → is_unserved d p v g ≡ b → is_data_due d p v x (suc g) ≡ not b
due_now d p v x g f pend ungranted acts b un = rw (pend, ungranted, acts, un) refl

pub answers_kept : (d : Draft) (n : ℕ) (w : World) (m : ℕ → Mark) (c f r i k : ℕ) (ms : List Ordered) (t : TakeLine) (a : ℕ) → IsWellFormed d → IsShaped d → c < n
    → IsOrderly d n w m → IsAnswering d w m c f r i k ms t a
    → (g : ℕ) × IsOrderly d n (moved c (with_answer d (core w c) t.next k ms) (w.replies ++ owner_sends d f a r (core w c).line.word i k) w.done w) (marked c (record { seen = suc g; last = (m c).last }) m)
    × ((m c).seen ≤ g) × (g < (order_of d w).top) × ((j : ℕ) → (m c).seen ≤ j → j < g → entry_message d (order_of d w) c j ≡ None) × (entry_message d (order_of d w) c g ≡ Some (Forward f r i k))
answers_kept d n w m c f r i k ms t a wf sh low o h = (
  g,
  catches_up d n w m c g y rs w.done low o (record {
    step = step;
    served = λ un. absurd (cc (now, un));
    placed = placed;
    granted = base_grant d x.line.desc t.next h.level;
    promised = promised_more d p (λ e. (marks e).last) n w.replies (owner_sends d f a r x.line.word i k) (promised_same d p (λ e. (m e).last) (λ e. (marks e).last) n w.replies step.last o.promised) (promise, backs (has_class Share d f));
    own = answered_by c low y pend (base_grant d x.line.desc t.next h.level) (base_store d x.line.desc t.next) refl;
    others = λ e b ne. answered_by e b (core w e) refl refl refl refl;
    busy = busy (is_busy w.directory.desc) refl o.busy;
  }),
  hd.from,
  inside,
  hd.quiet,
  hd.sends,
)
  where
    p : DirOrder
    p = order_of d w

    x : Core
    x = core w c

    pl : IsPlaced d p c x (m c)
    pl = o.placed c low

    k0 : IsKnown d n p
    k0 = known d n p wf sh o.past

    hd : Head (entry_message d p c) (m c).seen pl.rest (Forward f r i k) ms
    hd = head (entry_message d p c) (m c).seen pl.rest (Forward f r i k) ms (sym h.queue ∙ pl.queue)

    g : ℕ
    g = hd.at

    y : Core
    y = with_answer d x t.next k ms

    rs : List Reply
    rs = w.replies ++ owner_sends d f a r x.line.word i k

    marks : ℕ → Mark
    marks = marked c (record { seen = suc g; last = (m c).last }) m

    v : View
    v = view_of w m

    u : View
    u = view_of (moved c y rs w.done w) marks

    fw : IsSent d p c g f r i k
    fw = forward_is d p c g f r i k hd.sends

    inside : g < p.top
    inside = let a = hd.upto in let b = pl.upto in omega (arith, a, b)

    pend : is_pending y ≡ is_pending x
    pend = ap (λ b. not b && is_none x.slot) (base_stable d x.line.desc t.next)

    step : IsStep d p v u c g
    step = step_of d w m c g y rs w.done (let a = o.cores in omega (arith, a, low)) pend hd.from hd.quiet

    on : IsPassedOn d (p.dir_entry g) (p.at g) c f
    on = passed_on d (p.dir_entry g) (p.at g) c f fw.sends h.not_inv

    was : is_unserved d p v g ≡ true
    was = queued_unserved d p v c g f on hd.from

    ahead : is_pending x ≡ true → suc g < (m c).last
    ahead b = let lt = h.before b in let stamp = fw.stamp in omega (arith, lt, stamp)

    now : is_unserved d p u g ≡ false
    now = answered_served d p u c g f on step.seen (λ b. let same = step.last c in let lt = ahead (sym (step.pending c) ∙ b) in omega (arith, same, lt))

    same : (j : ℕ) → j ≢ g → is_unserved d p u j ≡ is_unserved d p v j
    same = unserved_same d p v u c g step

    -- no entry of its own lies between
    apart : (j : ℕ) → (m c).seen ≤ j → j < g → (b : Bool) → ((p.at j).core == c) ≡ b → (q : Bool) → is_pending x ≡ q → ((p.at j).core == c) ≡ false
    apart j lo hi false ne q is = ne
    apart j lo hi true own true is =
        let lt = ahead is in
        let viewed = pl.gap j (omega (arith, hi, lt)) (eqb-true (p.at j).core c own) in absurd (omega (arith, viewed, lo))
    apart j lo hi true own false is =
        let behind = level_behind d p c x.line (m c) x.line.desc x.slot h.level pl.line is in
        let last = pl.last_is j (omega (arith, hi, inside)) (eqb-true (p.at j).core c own) in absurd (omega (arith, behind, last, lo))

    at_g : IsSame d p c (m c).seen g
    at_g = unchanged d n p k0 c (m c).seen g hd.from (omega (arith, inside)) (λ j lo hi. apart j lo hi ((p.at j).core == c) refl (is_pending x) refl) hd.quiet

    fit : fits d (p.dir_entry g) c (base x.line.desc) ≡ true
    fit = at_g.fits (base x.line.desc) (level_of d p c x.line (m c) x.line.desc x.slot h.level pl.line).state

    fit_after : fits d (p.dir_entry (suc g)) c t.next ≡ true
    fit_after =
        let (l, row, fits_now, deny) = (k0.handled g inside).applies c f (base x.line.desc) fw.sends fit in
        let one : l ≡ t = cc (row, h.take) in
        ap (λ s. fits d s c t.next) (k0.past.follows g inside) ∙ ap (λ (l : TakeLine). fits d (entry_after d (p.dir_entry g) (p.at g)) c l.next) (sym one) ∙ fits_now

    placed : IsPlaced d p c y (record { seen = suc g; last = (m c).last })
    placed = record {
      last_low = pl.last_low;
      last_own = pl.last_own;
      last_is = pl.last_is;
      touched = λ j e. let same : g ≡ j = omega (arith, e) in inr (Forward f r i k, subst (λ j. entry_message d p c j ≡ Some (Forward f r i k)) same hd.sends);
      gap = λ j lt own. let viewed = pl.gap j lt own in let from = hd.from in omega (arith, viewed, from);
      rest = hd.rest;
      upto = hd.upto ∙ pl.upto;
      queue = hd.later;
      line = level_moves d p c g t.next k x.line (m c) x.line.desc x.slot h.level pl.line hd.from fit_after h.denies ahead;
    }

    -- the requestor
    requestor_low : r < n
    requestor_low = subst (λ r. r < n) (sym fw.asker) (k0.past.inside g inside)

    waits : (v.last r ≡ suc g) × (v.pending r ≡ true)
    waits = subst (λ r. (v.last r ≡ suc g) × (v.pending r ≡ true)) (sym fw.asker) (o.waiting.forwards g inside was)

    ungranted : is_granted (core w r).line.desc ≡ false
    ungranted = subst (λ r. is_granted (core w r).line.desc ≡ false) (sym fw.asker) (o.ungranted g inside was)

    not_asker : (r == c) ≡ false
    not_asker = subst (λ r. (r == c) ≡ false) (sym fw.asker) fw.other

    listed : fits_as d (p.dir_entry g).dir (who (p.dir_entry g) c) (base x.line.desc) ≡ true
    listed = fit

    promise : IsPromised d p (λ e. (marks e).last) n (Data a r x.line.word i k)
    promise =
        let replies : IsReplyBy d (p.dir_entry g).dir (Some (action.Forward f)) (reply.Reply a) =
        (base x.line.desc, a, rw (who_of_owner (p.dir_entry g) c on.owner) at listed, rw (h.take, h.gives) refl, refl) in
        let counts : i ≡ acks_needed (p.dir_entry g) (p.at g) = fw.count ∙ (rw h.not_inv refl) in
        (requestor_low, fw.stamp ∙ sym waits.0 ∙ sym (step.last r), (g, fw.stamp, subst (λ (o : Option Action). IsReplyBy d (p.dir_entry g).dir o (reply.Reply a)) (sym on.action) replies, counts))

    backs : (b : Bool) → ArePromised d p (λ e. (marks e).last) n (written_back b x.line.word k)
    backs true = (tt, tt)
    backs false = tt

    owes : (e : ℕ) → e < n → (j : ℕ) → (is_pending (core w e) && is_storing (core w e).line.desc) ≡ true → (m e).last ≡ suc j → acks_owed p u j ≡ acks_owed p v j
    owes e b j store last =
        let at = o.placed e b in
        let upto = at.last_low in
        owed_same d n p v u c g sh k0 step j (omega (arith, last, upto)) (storing_is d p e (core w e).line (m e) (core w e).line.desc (core w e).slot at.line store j last)
        (λ z at to inv. absurd (let sends = fw.sends in let there = subst (λ j. forward_sent d (p.dir_entry j) (p.at j) c ≡ Some z) at to in let is_it : f ≡ z = cc (sends, there) in let class = first_has_class d Inv z inv in let not = h.not_inv in let other = subst (λ z. has_class Inv d z ≡ true) (sym is_it) class in cc (not, other)))

    -- each core's answers
    filled_by : (e : ℕ) → e < n → (z : Core) → is_pending z ≡ is_pending (core w e) → is_granted z.line.desc ≡ is_granted (core w e).line.desc → (b : Bool) → (r == e) ≡ b
        → tally (is_data_to e) rs ≡ cond {A = ℕ} (is_data_due d p u z (v.last e)) 1 0
    filled_by e b z pends grants true is =
        let e_is : r ≡ e = eqb-true r e is in
        let old = (o.answered e b).filled in
        let last : v.last e ≡ suc g = subst (λ e. v.last e ≡ suc g) e_is waits.0 in
        let pend_e : is_pending (core w e) ≡ true = subst (λ e. is_pending (core w e) ≡ true) e_is waits.1 in
        let grant_e : is_granted (core w e).line.desc ≡ false = subst (λ e. is_granted (core w e).line.desc ≡ false) e_is ungranted in
        let none : is_data_due d p v (core w e) (v.last e) ≡ false = ap (is_data_due d p v (core w e)) last ∙ due_now d p v (core w e) g f pend_e grant_e on.action true was in
        let one : is_data_due d p u z (v.last e) ≡ true = ap (is_data_due d p u z) last ∙ due_now d p u z g f (pends ∙ pend_e) (grants ∙ grant_e) on.action false now in
        let count = data_sent d e f a r x.line.word i k true is w.replies in
        let zero_before : cond {A = ℕ} (is_data_due d p v (core w e) (v.last e)) 1 0 ≡ 0 = ap (λ b. cond {A = ℕ} b 1 0) none in
        let one_after : cond {A = ℕ} (is_data_due d p u z (v.last e)) 1 0 ≡ 1 = ap (λ b. cond {A = ℕ} b 1 0) one in
        omega (arith, count, old, zero_before, one_after)
    filled_by e b z pends grants false ne =
        let at = o.placed e b in
        let old = (o.answered e b).filled in
        let as_was = due_same d p v u (core w e) z (v.last e) pends grants (λ j last. same j (λ is. absurd (let mine = at.last_own j last in let theirs = subst (λ j. (p.at j).core ≡ e) is mine in let asker = fw.asker in eqb-false r e ne (asker ∙ theirs)))) in
        let count = data_sent d e f a r x.line.word i k false ne w.replies in
        let now : cond {A = ℕ} (is_data_due d p u z (v.last e)) 1 0 ≡ cond {A = ℕ} (is_data_due d p v (core w e) (v.last e)) 1 0 = ap (λ b. cond {A = ℕ} b 1 0) as_was in
        omega (arith, count, old, now)

    answered_by : (e : ℕ) → e < n → (z : Core) → is_pending z ≡ is_pending (core w e) → is_granted z.line.desc ≡ is_granted (core w e).line.desc → is_storing z.line.desc ≡ is_storing (core w e).line.desc
        → z.line.got ≡ (core w e).line.got → IsAnswered d p u e z rs
    answered_by e b z pends grants stores got = record {
      filled = filled_by e b z pends grants (r == e) refl ∙ ap (λ k. cond {A = ℕ} (is_data_due d p u z k) 1 0) (sym (step.last e));
      acks = rw (step.last e, pends, stores, acks_sent d e f a r x.line.word i k w.replies)
          (acks_same p v u (core w e) z (tally (is_ack_to e) w.replies) (v.last e) (is_pending (core w e) && is_storing (core w e).line.desc) got (owes e b) (o.answered e b).acks);
    }

    -- the share in progress
    share_is : is_share d (passed_forward d (p.dir_entry g) (p.at g)) ≡ has_class Share d f
    share_is = ap (is_share d) on.passed

    at_top : (l : ℕ) → l ≡ p.top → IsBusyAt d p v (tally is_write_back w.replies) l → IsBusyAt d p u (tally is_write_back rs) l
    at_top zero e b = b
    at_top (suc j) e b = (
      b.0,
      elim (either j g) [
        | inl is ↦
            let shared : has_class Share d f ≡ true = sym share_is ∙ subst (λ j. is_share d (passed_forward d (p.dir_entry j) (p.at j)) ≡ true) is b.0 in
            let open_before : is_unserved d p v j ≡ true = subst (λ j. is_unserved d p v j ≡ true) (sym is) was in
            let closed_now : is_unserved d p u j ≡ false = subst (λ j. is_unserved d p u j ≡ false) (sym is) now in
            let before : cond {A = ℕ} (is_unserved d p v j) 0 1 ≡ 0 = ap (λ b. cond {A = ℕ} b 0 1) open_before in
            let after : cond {A = ℕ} (is_unserved d p u j) 0 1 ≡ 1 = ap (λ b. cond {A = ℕ} b 0 1) closed_now in
            let more : cond {A = ℕ} (has_class Share d f) 1 0 ≡ 1 = ap (λ b. cond {A = ℕ} b 1 0) shared in
            let sum = wbs_sent d f a r x.line.word i k w.replies in let old = b.1 in
            omega (arith, before, after, more, sum, old)
        | inr (inl low) ↦ not_last j e b (λ is. omega (arith, is, low)) (has_class Share d f) refl
        | inr (inr hi) ↦ not_last j e b (λ is. omega (arith, is, hi)) (has_class Share d f) refl
      ],
    )
      where
        -- where the last entry is another, this is no share
        not_last : (j : ℕ) → suc j ≡ p.top → IsBusyAt d p v (tally is_write_back w.replies) (suc j) → j ≢ g → (b : Bool) → has_class Share d f ≡ b → tally is_write_back rs ≡ cond {A = ℕ} (is_unserved d p u j) 0 1
        not_last j e b ne true shared = absurd (let last = o.waiting.shares g f inside was on.passed shared in ne (omega (arith, e, last)))
        not_last j e b ne false other =
            let sum = wbs_sent d f a r x.line.word i k w.replies in
            let none : cond {A = ℕ} (has_class Share d f) 1 0 ≡ 0 = ap (λ b. cond {A = ℕ} b 1 0) other in
            let old = b.1 in
            let as_was : cond {A = ℕ} (is_unserved d p u j) 0 1 ≡ cond {A = ℕ} (is_unserved d p v j) 0 1 = ap (λ b. cond {A = ℕ} b 0 1) (same j ne) in
            omega (arith, sum, none, old, as_was)

    busy : (b : Bool) → is_busy w.directory.desc ≡ b → IsBusy d p v (tally is_write_back w.replies) b → IsBusy d p u (tally is_write_back rs) b
    busy true is q = at_top p.top refl q
    busy false is q = free (has_class Share d f) refl
      where
        free : (b : Bool) → has_class Share d f ≡ b → tally is_write_back rs ≡ 0
        free true shared = absurd (let not = o.shares g f inside was on.passed shared in cc (is, not))
        free false other =
            let sum = wbs_sent d f a r x.line.word i k w.replies in
            let none : cond {A = ℕ} (has_class Share d f) 1 0 ≡ 0 = ap (λ b. cond {A = ℕ} b 1 0) other in omega (arith, sum, none, q)
