-- Stores that complete with their last acknowledgement, and with a count.
use Rattle.std.proofs.Common.{◌≡◌, ℕ, zero, suc, ◌<◌, arith, Bool, true, false, ◌&&◌, not, cond, [], ◌∷◌, ◌++◌, Some, None, refl, sym, ap, subst, ◌∙◌, inr}
use Rattle.std.specs.Prelude.{slice_get}
use Rattle.std.specs.List.{remove}
use Rattle.pg_perm.specs.declared.kinds.Event.TheVariants as event
use Rattle.pg_perm.specs.declared.step.Step.TheVariants.{Txn}
use Rattle.pg_perm.specs.declared.draft.Draft.{Draft}
use Rattle.pg_perm.specs.declared.draft.Action.TheVariants as action
use Rattle.pg_perm.specs.declared.draft.ReplyName.{ReplyName}
use Rattle.pg_perm.specs.declared.draft.ReplyName.TheVariants as named
use Rattle.pg_terms.specs.Rows.{final_state}
use Rattle.pg_directory.specs.DirEntries.{DirEntry, Request}
use Rattle.pg_directory.specs.Requests.{action_of}
use Rattle.pg_atomic.specs.States.{State, reply_by, requestor_reply, state_of}
use Rattle.pg_atomic.specs.Steps.{IsAllowed}
use Rattle.pg_atomic.proofs.Reached.{handled_at}
use Rattle.pg_atomic.proofs.Transactions.{requestor_gets_reply}
use Rattle.pg_table.specs.declared.cache.Desc.TheVariants.{Stable, Ask}
use Rattle.pg_table.specs.declared.cache.Phase.TheVariants.{Ac, A}
use Rattle.pg_table.specs.declared.cache.Tag.{Tag}
use Rattle.pg_table.specs.declared.cache.Tag.TheVariants.{Plain}
use Rattle.pg_table.specs.Choices.{store_final}
use Rattle.pg_table.specs.Descriptors.{final_states}
use Rattle.pg_messages.specs.declared.messages.Ordered.TheVariants.{AckCount}
use Rattle.pg_order.specs.Messages.{tally}
use Rattle.pg_order.specs.Orders.{DirOrder}
use Rattle.pg_order.specs.Views.{is_unserved}
use Rattle.pg_messages.specs.declared.messages.Finished.TheVariants as finish
use Rattle.pg_controllers.specs.Networks as net
use Rattle.pg_messages.specs.declared.messages.Reply.TheVariants.{InvAck}
use Rattle.pg_controllers.specs.Worlds.{World, core, order_of}
use Rattle.pg_orderly.specs.Orderly.{Mark, is_pending, is_granted, is_data_to, is_data_due, brings_data, view_of, IsPlaced}
use Rattle.pg_orderly.proofs.Keeping.{marked, moved}
use Rattle.pg_orderly.proofs.Filled.{at_rest, tally_removed}
use Rattle.pg_safe.proofs.Heads.{IsHead, fits_at, own_asks, own_last, own_sends}
use Rattle.pg_serial.specs.Faithful.{Ahead, IsFaithful, Level, Tells, shown_entry, run_of, state_at, top_of}
use Rattle.pg_serial.proofs.Runs.{good_at, directory_at}
use Rattle.pg_serial.proofs.Places.{has_accesses}
use Rattle.pg_refined.specs.Shown.{shown, stand_of}
use Rattle.pg_refined.proofs.Lines.{IsPastOwn, lined_ahead, lined_level}
use Rattle.pg_refined.proofs.Granted.{IsJoined}
use Rattle.pg_refined.proofs.Completes.{IsPendingAt, all_of, ends_so, entry_inside, entry_txn, final_stays, one_less, store_told}
use Rattle.pg_refined.proofs.Fills.{exact_asked, one_final}

true_not : (b : Bool) → not b ≡ true → b ≡ false
true_not true e = cc
true_not false e = refl

-- the reply that a store gets, and its final
pub record IsEnded (d : Draft) (n : ℕ) (w : World) (m : ℕ → Mark) (c p s : ℕ) : Type 0 where
  pub name : ReplyName
  pub fin : ℕ
  pub got : requestor_reply d (state_at d n (shown d w m) p) (record { core = c; event = event.Store }) ≡ Some name
  pub ends : final_state d s event.Store name ≡ Some fin

store_ends : (d : Draft) (n : ℕ) (w : World) (m : ℕ → Mark) → IsJoined d n w m → (c p s : ℕ) → c < n → IsPendingAt d w m c p event.Store → IsFaithful d n (shown d w m) → state_of (state_at d n (shown d w m) p) c ≡ s → IsEnded d n w m c p s
store_ends d n w m b c p s there h f exact =
    let inside = entry_inside d n w m b c p event.Store there h in
    let top = b.top in
    let a : State = state_at d n (shown d w m) p in
    let q : Request = record { core = c; event = event.Store } in
    let good = (good_at d b.whole b.shaped n (run_of n (shown d w m)) (top_of (shown d w m)) f.run p (omega (arith, inside, top))).1 in
    let allowed : IsAllowed d a (Txn c event.Store) = subst (IsAllowed d a) (entry_txn d n w m b c p event.Store there h) (f.run.entries p (omega (arith, inside, top))) in
    let handled = handled_at d b.whole b.shaped a q good.0 allowed.0 allowed.1 in
    let (name, gets, may_come) = requestor_gets_reply d b.shaped a q good.0 handled (λ e. cc e) in
    let g = handled.granted (λ e. cc e) (state_of a c) name (good.0.fits c allowed.0) (true_not _ allowed.1) may_come in
    record { name = name; fin = g.0; got = gets; ends = subst (λ x. final_state d x event.Store name ≡ Some g.0) exact g.1 }

pub record IsCountedLast (d : Draft) (w : World) (m : ℕ → Mark) (c s : ℕ) (t : Tag) (i k f : ℕ) : Type 0 where
  pub desc : (core w c).line.desc ≡ Ask event.Store s A t
  pub slot : (core w c).slot ≡ None
  pub reply : slice_get w.replies i ≡ Some (InvAck c k)
  pub final : store_final (final_states d s event.Store) ≡ Some f

pub count_told : (d : Draft) (n : ℕ) (w : World) (m : ℕ → Mark) (c s : ℕ) (t : Tag) (i k f v : ℕ) (late : Bool) → IsJoined d n w m → c < n → IsCountedLast d w m c s t i k f → IsFaithful d n (shown d w m)
    → IsFaithful d n (shown d (moved c (at_rest (core w c) f v (core w c).line.stamp) (remove w.replies i) (w.done ++ record { stamp = (core w c).line.stamp; core = c; fin = finish.Store v; late = late } ∷ []) w)
    (marked c (record { seen = (m c).last; last = (m c).last }) m))
count_told d n w m c s t i k f v late b there h faithful =
    subst (λ l. IsFaithful d n (shown d (moved c (at_rest (core w c) f v (core w c).line.stamp) (remove w.replies i) (w.done ++ record { stamp = (core w c).line.stamp; core = c; fin = finish.Store v; late = late } ∷ []) w) (marked c (record { seen = l; last = (m c).last }) m))) (sym last)
    (subst (λ j. IsFaithful d n (shown d (moved c (at_rest (core w c) f v (core w c).line.stamp) (remove w.replies i) (w.done ++ record { stamp = j; core = c; fin = finish.Store v; late = late } ∷ []) w) (marked c (record { seen = suc p; last = (m c).last }) m))) (sym stamp)
    (store_told d n w m c p f v late (at_rest (core w c) f v (core w c).line.stamp) (remove w.replies i) b there pend
    (ends_so d (state_at d n (shown d w m) p) c s f event.Store e.name (λ q. cc q) exact e.got ends) (final_stays d b.shaped s f e.name ends)
    (record { desc = refl; word = refl; stamp = stamp; slot = refl; fewer = one_less d w.replies i; none = none }) faithful))
  where
    past : DirOrder
    past = order_of d w

    pl : IsPlaced d past c (core w c) (m c)
    pl = b.orderly.placed c there

    stand : stand_of (core w c).line.desc ≡ Ahead s true
    stand = ap stand_of h.desc

    own : IsPastOwn d past c (core w c).line (m c) (core w c).line.desc (core w c).slot s true
    own = lined_ahead d past c (core w c).line (m c) (core w c).line.desc (core w c).slot pl.line s true stand

    p : ℕ
    p = own.line.ordered.entry

    last : (m c).last ≡ suc p
    last = own.line.ordered.last

    pend : IsPendingAt d w m c p event.Store
    pend = record { pending = rw (h.desc, h.slot) refl; last = last; does = own.line.ordered.event ∙ same (sym own.desc ∙ h.desc); asks = λ q. cc q }
      where
        same : Ask own.event s own.phase own.tag ≡ Ask event.Store s A t → own.event ≡ event.Store
        same e = cc

    exact : state_of (state_at d n (shown d w m) p) c ≡ s
    exact = exact_asked d n w m b c p event.Store s A t there pend h.desc own.line.state (λ j lo hi. let upto = own.line.upto in absurd (omega (arith, upto, last, lo, hi))) faithful

    e : IsEnded d n w m c p s
    e = store_ends d n w m b c p s there pend faithful exact

    ends : final_state d s event.Store e.name ≡ Some f
    ends = subst (λ z. final_state d s event.Store e.name ≡ Some z) (one_final d b.shaped s f e.fin e.name h.final e.ends) e.ends

    stamp : (core w c).line.stamp ≡ suc p
    stamp = ((subst (Tells (shown_entry d (shown d w m)) (state_at d n (shown d w m)) c (m c).seen (m c).last (core w c).line.word (core w c).line.stamp) stand (faithful.cores c there).tells p last).1 refl).1

    due_not : (l : ℕ) → is_data_due d past (view_of w m) (core w c) l ≡ false
    due_not zero = refl
    due_not (suc j) = let grant : is_granted (core w c).line.desc ≡ true = ap is_granted h.desc in rw grant (no (is_pending (core w c)) (brings_data (action_of d (past.dir_entry j) (past.at j))) (not (is_unserved d past (view_of w m) j)))
      where
        no : (q r z : Bool) → (q && not true && r && z) ≡ false
        no true r z = refl
        no false r z = refl

    none : tally (is_data_to c) (remove w.replies i) ≡ 0
    none =
        let sum = tally_removed (is_data_to c) w.replies i (InvAck c k) h.reply in
        let old = (b.orderly.answered c there).filled ∙ ap (λ q. cond {A = ℕ} q 1 0) (due_not (m c).last) in omega (arith, sum, old)

-- A count

pub record IsUpgraded (d : Draft) (w : World) (m : ℕ → Mark) (c s : ℕ) (i k f g : ℕ) : Type 0 where
  pub desc : (core w c).line.desc ≡ Ask event.Store s Ac Plain
  pub slot : (core w c).slot ≡ None
  pub head : IsHead d (order_of d w) c (m c) g (AckCount i k)
  pub own : ((order_of d w).at g).core ≡ c
  pub does : ((order_of d w).at g).event ≡ event.Store
  pub final : final_state d s event.Store named.AckCount ≡ Some f

pub upgrade_told : (d : Draft) (n : ℕ) (w : World) (m : ℕ → Mark) (c s i k f v g : ℕ) (late : Bool) (y : net.Core) → IsJoined d n w m → c < n → IsUpgraded d w m c s i k f g
    → y.line.desc ≡ Stable f → y.line.word ≡ v → y.line.stamp ≡ k → y.slot ≡ None → IsFaithful d n (shown d w m)
    → IsFaithful d n (shown d (moved c y w.replies (w.done ++ record { stamp = k; core = c; fin = finish.Store v; late = late } ∷ []) w) (marked c (record { seen = suc g; last = (m c).last }) m))
upgrade_told d n w m c s i k f v g late y b there h at word stamp empty faithful =
    subst (λ j. IsFaithful d n (shown d (moved c y w.replies (w.done ++ record { stamp = j; core = c; fin = finish.Store v; late = late } ∷ []) w) (marked c (record { seen = suc g; last = (m c).last }) m))) (sym counts.1)
    (store_told d n w m c g f v late y w.replies b there pend
    (ends_so d (state_at d n (shown d w m) g) c s f event.Store named.AckCount (λ q. cc q) exact gets h.final) (final_stays d b.shaped s f named.AckCount h.final)
    (record { desc = at; word = word; stamp = stamp ∙ counts.1; slot = empty; fewer = all_of d w.replies; none = none }) faithful)
  where
    past : DirOrder
    past = order_of d w

    pl : IsPlaced d past c (core w c) (m c)
    pl = b.orderly.placed c there

    last : (m c).last ≡ suc g
    last = own_last d past c (core w c) (m c) g pl h.head.from h.head.inside h.own

    counts : (action_of d (past.dir_entry g) (past.at g) ≡ Some action.Count) × (k ≡ suc g)
    counts =
        let z = own_asks (past.at g).event (action_of d (past.dir_entry g) (past.at g)) _ (suc g) (AckCount i k) (λ q. let e = h.does in cc (e, q)) (sym (own_sends d past c g h.own) ∙ h.head.sends) in
        (z.0, let same = z.1 in same_stamp same)
      where
        same_stamp : {x y : ℕ} → AckCount i k ≡ AckCount x y → k ≡ y
        same_stamp e = cc

    pend : IsPendingAt d w m c g event.Store
    pend = record { pending = rw (h.desc, h.slot) refl; last = last; does = h.does; asks = λ q. cc q }

    level : stand_of (core w c).line.desc ≡ Level s
    level = ap stand_of h.desc

    exact : state_of (state_at d n (shown d w m) g) c ≡ s
    exact = exact_asked d n w m b c g event.Store s Ac Plain there pend h.desc
        (fits_at d n past b.known c (core w c) (m c) g s pl h.head.from (let i = h.head.inside in omega (arith, i)) h.head.quiet (inr (omega (arith, last)))
        (lined_level d past c (core w c).line (m c) (core w c).line.desc (core w c).slot pl.line s level).level.state) h.head.quiet faithful

    gets : requestor_reply d (state_at d n (shown d w m) g) (record { core = c; event = event.Store }) ≡ Some named.AckCount
    gets =
        let directory = (directory_at d n (run_of n (shown d w m)) (has_accesses n (shown d w m).order (shown d w m).done) g).1 ∙ b.bridge.dir_entries g (let i = h.head.inside in omega (arith, i)) in
        let q : past.at g ≡ record { core = c; event = event.Store } = ap (λ z. record { core = z; event = (past.at g).event }) h.own ∙ ap (λ z. record { core = c; event = z }) h.does in
        ap (λ (t : DirEntry). reply_by d (state_at d n (shown d w m) g) (action_of d t (record { core = c; event = event.Store }))) directory
        ∙ ap (λ z. reply_by d (state_at d n (shown d w m) g) (action_of d (past.dir_entry g) z)) (sym q) ∙ ap (reply_by d (state_at d n (shown d w m) g)) counts.0

    none : tally (is_data_to c) w.replies ≡ 0
    none = (b.orderly.answered c there).filled ∙ ap (λ q. cond {A = ℕ} q 1 0) (ap (is_data_due d past (view_of w m) (core w c)) last ∙ due_not)
      where
        no : (p q z : Bool) → (p && q && false && z) ≡ false
        no true true z = refl
        no true false z = refl
        no false q z = refl

        due_not : is_data_due d past (view_of w m) (core w c) (suc g) ≡ false
        due_not = rw counts.0 (no (is_pending (core w c)) (not (is_granted (core w c).line.desc)) (not (is_unserved d past (view_of w m) g)))
