-- The directory is busy exactly while one share is under way.
use Rattle.std.proofs.Common.{◌≡◌, ℕ, zero, suc, ◌+◌, ◌<◌, ◌≤◌, arith, Bool, true, false, ◌&&◌, not, cond, [], Option, Some, None, refl, sym, ap, ◌∙◌, ◌⊎◌, inl, inr}
use Rattle.std.specs.Prelude.{◌==◌, is_none, is_some}
use Rattle.std.proofs.lemmas.Bool.{eqb-true, eq-eqb}
use Rattle.pg_perm.proofs.Booleans.{and_true}
use Rattle.pg_perm.specs.declared.kinds.Event.{Event}
use Rattle.pg_perm.specs.declared.kinds.Event.TheVariants.{Load, Store, Evict}
use Rattle.pg_perm.specs.declared.kinds.FwdClass.TheVariants.{Inv, Share}
use Rattle.pg_perm.specs.declared.draft.Draft.{Draft}
use Rattle.pg_perm.specs.declared.draft.Action.{Action}
use Rattle.pg_perm.specs.Drafts.{IsWellFormed}
use Rattle.pg_terms.specs.Terms.{has_class}
use Rattle.pg_shape.specs.Shaped.{IsShaped}
use Rattle.pg_shape.proofs.Bools.{and_of_both}
use Rattle.pg_shape.proofs.Searches.{not_true}
use Rattle.pg_directory.specs.Requests.{action_of}
use Rattle.pg_directory.proofs.Facts.{one_class}
use Rattle.pg_table.specs.declared.cache.Desc.{Desc}
use Rattle.pg_table.specs.declared.cache.Desc.TheVariants.{Stable, Ask, Leave}
use Rattle.pg_table.specs.declared.cache.Phase.{Phase}
use Rattle.pg_table.specs.declared.cache.Tag.{Tag}
use Rattle.pg_messages.specs.declared.messages.Ordered.{Ordered}
use Rattle.pg_messages.specs.declared.messages.Ordered.TheVariants.{Forward, PutAck}
use Rattle.pg_order.specs.Messages.{sent_between, tally}
use Rattle.pg_order.specs.Orders.{DirOrder, passed_forward, acks_needed, acks_carried, own_message, entry_message}
use Rattle.pg_order.specs.Views.{is_open_at, is_unserved}
use Rattle.pg_order.proofs.Known.{IsKnown, known}
use Rattle.pg_order.proofs.NoOvertaking.{unserved_is, unserved_passed}
use Rattle.pg_order.proofs.OneEntry.{passed_is, passed_other}
use Rattle.pg_order.proofs.Passed.{passed_on}
use Rattle.pg_messages.specs.declared.messages.Ask.{Ask as SentRequest}
use Rattle.pg_controllers.specs.Networks.{Core, idle_core}
use Rattle.pg_controllers.specs.Directories.{is_busy}
use Rattle.pg_controllers.specs.Worlds.{World, core, order_of, is_stable}
use Rattle.pg_orderly.specs.Orderly.{Mark, is_pending, view_of, is_deferred, IsAsking, is_ahead, IsLined, IsPlaced, is_write_back, is_share, IsBusy, IsBusyAt, IsOrderly}
use Rattle.pg_safe.specs.Work.{total}
use Rattle.pg_safe.specs.Invs.{is_share_of, open_shares}
use Rattle.pg_safe.proofs.AddUp.{between_counts, sum_one_least}
use Rattle.pg_safe.proofs.Bounds.{One, between_one, tally_filter}
use Rattle.pg_safe.proofs.Heads.{from_whom, own_asks}
use Rattle.pg_safe.proofs.Sums.{sum, one_if, sum_most, total_sum, sum_none, sum_one}
use Rattle.pg_safe.proofs.Waiting.{sends_forward, open_at}

own_no_share : (d : Draft) (e : Event) (a : Option Action) (n k : ℕ) (x : Ordered) → own_message e a n k ≡ Some x → is_share_of d x ≡ false
own_no_share d Load a n k x h = ap (is_share_of d) (own_asks Load a n k x (λ z. cc) h).1
own_no_share d Store a n k x h = ap (is_share_of d) (own_asks Store a n k x (λ z. cc) h).1
own_no_share d Evict a n k x h = let same : x ≡ PutAck k = cc in ap (is_share_of d) same

-- a share that waits at a core is the last entry, isn't served, and came to the owner
pub record IsWaitingShare (d : Draft) (w : World) (m : ℕ → Mark) (e i : ℕ) : Type 0 where
  pub unserved : is_unserved d (order_of d w) (view_of w m) i ≡ true
  pub owner : ((order_of d w).dir_entry i).owner ≡ Some e
  pub end : suc i ≡ (order_of d w).top
  pub busy : is_busy w.directory.desc ≡ true

share_waits : (d : Draft) (n : ℕ) (w : World) (m : ℕ → Mark) (e i : ℕ) (x : Ordered) → IsOrderly d n w m → ((m e).seen ≤ i) ⊎ ((is_pending (core w e) ≡ true) × ((m e).last ≤ i)) → i < (order_of d w).top
    → entry_message d (order_of d w) e i ≡ Some x → is_share_of d x ≡ true → IsWaitingShare d w m e i
share_waits d n w m e i x o side inside sends share = elim (from_whom d p e i x sends) [
  | inl (own, h) ↦ absurd (let none = own_no_share d (p.at i).event (action_of d (p.dir_entry i) (p.at i)) (acks_needed (p.dir_entry i) (p.at i)) (suc i) x h in cc (none, share))
  | inr (f, r, k1, k2, is_it, fw) ↦
      let shares : has_class Share d f ≡ true = ap (is_share_of d) (sym is_it) ∙ share in
      let not_inv = not_true (has_class Inv d f) (λ h. absurd (cc (one_class d f Inv Share h shares))) in
      let on = passed_on d (p.dir_entry i) (p.at i) e f fw.sends not_inv in
      let un = unserved_is d p (view_of w m) i e f on.owner on.passed (elim side [ inl low ↦ inl (omega (arith, low)) | inr (pend, low) ↦ inr (pend, omega (arith, low)) ]) in
      record { unserved = un; owner = on.owner; end = o.waiting.shares i f inside un on.passed shares; busy = o.shares i f inside un on.passed shares }
]
  where
    p : DirOrder
    p = order_of d w

-- what is put off at a core, as a stretch of entries
pub record IsStretch (d : Draft) (w : World) (m : ℕ → Mark) (e : ℕ) : Type 0 where
  pub long : ℕ
  pub same : tally (is_share_of d) (core w e).line.deferred ≡ tally (λ x. is_deferred d x && is_share_of d x) (sent_between (entry_message d (order_of d w) e) (m e).last long)
  pub pends : (i : ℕ) → (m e).last ≤ i → i < (m e).last + long → is_pending (core w e) ≡ true
  pub low : 1 ≤ long → (m e).last + long ≡ (m e).seen
  pub all : is_pending (core w e) ≡ true → (i : ℕ) → (m e).last ≤ i → i < (m e).seen → i < (m e).last + long

stretch : (d : Draft) (n : ℕ) (w : World) (m : ℕ → Mark) (e : ℕ) → IsOrderly d n w m → e < n → IsStretch d w m e
stretch d n w m e o low = by (core w e).line.desc refl (core w e).slot refl pl.line
  where
    p : DirOrder
    p = order_of d w

    pl : IsPlaced d p e (core w e) (m e)
    pl = o.placed e low

    none : (core w e).line.deferred ≡ [] → (is_pending (core w e) ≡ true → (m e).seen < (m e).last) → IsStretch d w m e
    none empty behind = record {
      long = 0;
      same = ap (tally (is_share_of d)) empty;
      pends = λ i lo hi. absurd (omega (arith, lo, hi));
      low = λ h. absurd (omega (arith, h));
      all = λ pend i lo hi. absurd (let lt = behind pend in omega (arith, lt, lo, hi));
    }

    asking : (ev : Event) (s : ℕ) (ph : Phase) (t : Tag) (b : Bool) → is_pending (core w e) ≡ true → IsAsking d p e (core w e).line (m e) ev s ph t b → IsStretch d w m e
    asking ev s ph t false pend a = none a.0.deferred (λ z. a.3)
    asking ev s ph t true pend a = record {
      long = a.past;
      same = ap (tally (is_share_of d)) a.deferred ∙ tally_filter (is_share_of d) (is_deferred d) (sent_between (entry_message d p e) (m e).last a.past);
      pends = λ i lo hi. pend;
      low = λ h. a.upto;
      all = λ z i lo hi. let upto = a.upto in omega (arith, hi, upto);
    }

    idle : (x : Desc) → (core w e).line.desc ≡ x → (slot : Option SentRequest) → (core w e).slot ≡ slot → (not (is_stable x) && is_none slot) ≡ false → is_pending (core w e) ≡ true → (m e).seen < (m e).last
    idle x desc slot at rest pend = absurd (let is : is_pending (core w e) ≡ false = rw (desc, at) rest in cc (is, pend))

    by : (x : Desc) → (core w e).line.desc ≡ x → (slot : Option SentRequest) → (core w e).slot ≡ slot → IsLined d p e (core w e).line (m e) x slot → IsStretch d w m e
    by (Stable s) desc None slot h = none h.0.deferred (idle (Stable s) desc None slot refl)
    by (Stable s) desc (Some a) slot h = absurd h
    by (Ask ev s ph t) desc None slot h = asking ev s ph t (is_ahead ph t) (rw (desc, slot) refl) h.1
    by (Ask ev s ph t) desc (Some a) slot h = none h.1.deferred (idle (Ask ev s ph t) desc (Some a) slot refl)
    by (Leave s) desc None slot h = none h.1.deferred (λ z. h.3)
    by (Leave s) desc (Some a) slot h = none h.1.deferred (idle (Leave s) desc (Some a) slot refl)

-- none, or the one of entry j
pub record IsOneShare (d : Draft) (w : World) (m : ℕ → Mark) (e j : ℕ) : Type 0 where
  pub stretch : IsStretch d w m e
  pub rest : ℕ
  pub upto : (m e).seen + rest ≡ (order_of d w).top
  pub queue : (core w e).queue ≡ sent_between (entry_message d (order_of d w) e) (m e).seen rest
  pub in_queue : One (is_share_of d) (entry_message d (order_of d w) e) (m e).seen rest j
  pub put_off : One (λ x. is_deferred d x && is_share_of d x) (entry_message d (order_of d w) e) (m e).last stretch.long j

one_share : (d : Draft) (n : ℕ) (w : World) (m : ℕ → Mark) (e j : ℕ) → IsOrderly d n w m → e < n → ((i : ℕ) → suc i ≡ (order_of d w).top → i ≡ j) → IsOneShare d w m e j
one_share d n w m e j o low last =
    let pl = o.placed e low in
    let st = stretch d n w m e o low in
    let upto = pl.upto in
    record {
      stretch = st;
      rest = pl.rest;
      upto = upto;
      queue = pl.queue;
      in_queue = between_one (is_share_of d) (entry_message d (order_of d w) e) (m e).seen pl.rest j
          (λ i x lo hi sends share. last i (share_waits d n w m e i x o (inl lo) (omega (arith, hi, upto)) sends share).end);
      put_off = between_one (λ x. is_deferred d x && is_share_of d x) (entry_message d (order_of d w) e) (m e).last st.long j
          (λ i x lo hi sends passes. last i (share_waits d n w m e i x o (inr (st.pends i lo hi, lo)) (let at_seen = st.low (omega (arith, lo, hi)) in omega (arith, hi, at_seen, upto)) sends (and_true (is_deferred d x) (is_share_of d x) passes).1).end);
    }

-- whoever has one is the owner at an entry that isn't served
some_waits : (d : Draft) (n : ℕ) (w : World) (m : ℕ → Mark) (e j : ℕ) → IsOrderly d n w m → IsOneShare d w m e j
    → (tally (is_share_of d) (core w e).queue + tally (is_share_of d) (core w e).line.deferred ≡ 0) ⊎ IsWaitingShare d w m e j
some_waits d n w m e j o h = elim h.in_queue [
  | inr (one, x, lo, hi, sends, share) ↦ let upto = h.upto in inr (share_waits d n w m e j x o (inl lo) (omega (arith, hi, upto)) sends share)
  | inl none ↦ elim h.put_off [
    | inr (one, x, lo, hi, sends, passes) ↦
        let upto = h.upto in
        let st = h.stretch in
        let at_seen = st.low (omega (arith, lo, hi)) in
        inr (share_waits d n w m e j x o (inr (st.pends j lo hi, lo)) (omega (arith, hi, at_seen, upto)) sends (and_true (is_deferred d x) (is_share_of d x) passes).1)
    | inl nothing ↦
        let queue : tally (is_share_of d) (core w e).queue ≡ tally (is_share_of d) (sent_between (entry_message d (order_of d w) e) (m e).seen h.rest) = ap (tally (is_share_of d)) h.queue in
        let same = h.stretch.same in inl (omega (arith, queue, same, none, nothing))
  ]
]

-- the owner at a share that isn't served has it
owner_has : (d : Draft) (n : ℕ) (w : World) (m : ℕ → Mark) (e j f : ℕ) → IsShaped d → IsKnown d n (order_of d w) → IsOrderly d n w m → IsOneShare d w m e j → j < (order_of d w).top → ((order_of d w).dir_entry j).owner ≡ Some e
    → passed_forward d ((order_of d w).dir_entry j) ((order_of d w).at j) ≡ Some f → has_class Share d f ≡ true → is_unserved d (order_of d w) (view_of w m) j ≡ true
    → tally (is_share_of d) (core w e).queue + tally (is_share_of d) (core w e).line.deferred ≡ 1
owner_has d n w m e j f sh k o h inside owner passes share un = by (open_at (view_of w m) j e opens)
  where
    p : DirOrder
    p = order_of d w

    q : Ordered
    q = Forward f (p.at j).core (acks_carried d (acks_needed (p.dir_entry j) (p.at j)) f) (suc j)

    sends : entry_message d p e j ≡ Some q
    sends = sends_forward d p e j f (passed_other d (p.dir_entry j) (p.at j) e f owner passes) (sym (passed_is d (p.dir_entry j) (p.at j) e owner) ∙ passes)

    opens : is_open_at (view_of w m) j (Some e) ≡ true
    opens = ap (is_open_at (view_of w m) j) (sym owner) ∙ (and_true (is_some (passed_forward d (p.dir_entry j) (p.at j))) (is_open_at (view_of w m) j (p.dir_entry j).owner) un).1

    queue : tally (is_share_of d) (core w e).queue ≡ tally (is_share_of d) (sent_between (entry_message d p e) (m e).seen h.rest)
    queue = ap (tally (is_share_of d)) h.queue

    queued : (m e).seen ≤ j → tally (is_share_of d) (core w e).queue + tally (is_share_of d) (core w e).line.deferred ≡ 1
    queued low =
        let upto = h.upto in
        let some = between_counts (is_share_of d) (entry_message d p e) (m e).seen h.rest j q low (omega (arith, inside, upto)) sends share in
        let is_it = queue in
        let same = h.stretch.same in
        elim h.in_queue [
          | inl none ↦ absurd (omega (arith, none, some))
          | inr (one, x, lo, hi, to, passes) ↦ elim h.put_off [
            | inl nothing ↦ omega (arith, one, is_it, same, nothing)
            | inr (two, y, lo2, hi2, to2, passes2) ↦ absurd (let at_seen = h.stretch.low (omega (arith, lo2, hi2)) in omega (arith, at_seen, hi2, low))
          ]
        ]

    by : ((m e).seen < suc j) ⊎ ((is_pending (core w e) ≡ true) × ((m e).last < suc j)) → tally (is_share_of d) (core w e).queue + tally (is_share_of d) (core w e).line.deferred ≡ 1
    by (inl seen) = queued (omega (arith, seen))
    by (inr (pend, last)) = elim (let split : ((m e).seen ≤ j) ⊎ (j < (m e).seen) = search arith in split) [
      | inl low ↦ queued low
      | inr past ↦
          let hi = h.stretch.all pend j (omega (arith, last)) past in
          let not_inv = not_true (has_class Inv d f) (λ z. absurd (cc (one_class d f Inv Share z share))) in
          let off : is_deferred d q ≡ true = ap not not_inv in
          let some = between_counts (λ x. is_deferred d x && is_share_of d x) (entry_message d p e) (m e).last h.stretch.long j q (omega (arith, last)) hi sends (and_of_both (is_deferred d q) (is_share_of d q) off share) in
          let is_it = queue in
          let same = h.stretch.same in
          elim h.put_off [
            | inl none ↦ absurd (omega (arith, none, some))
            | inr (one, x, lo, hi2, to, passes) ↦ elim h.in_queue [
              | inl nothing ↦ omega (arith, one, is_it, same, nothing)
              | inr (two, y, lo2, hi3, to2, passes2) ↦ absurd (omega (arith, lo2, past))
            ]
          ]
    ]

-- busy while one share is under way, and free while none is
pub busy_is_one_share : (d : Draft) (n : ℕ) (w : World) (m : ℕ → Mark) → IsWellFormed d → IsShaped d → IsOrderly d n w m → open_shares d w ≡ one_if (is_busy w.directory.desc)
busy_is_one_share d n w m wf sh o = at (is_busy w.directory.desc) refl o.busy
  where
    p : DirOrder
    p = order_of d w

    k : IsKnown d n p
    k = known d n p wf sh o.past

    f : ℕ → ℕ
    f = λ e. tally (is_share_of d) (core w e).queue + tally (is_share_of d) (core w e).line.deferred

    all : total (λ (x : Core). tally (is_share_of d) x.queue + tally (is_share_of d) x.line.deferred) w.cores ≡ sum f n
    all = total_sum (λ (x : Core). tally (is_share_of d) x.queue + tally (is_share_of d) x.line.deferred) w.cores idle_core ∙ ap (sum f) o.cores

    nothing : (j : ℕ) → ((i : ℕ) → suc i ≡ p.top → i ≡ j) → ((e : ℕ) → IsWaitingShare d w m e j → ⊥) → sum f n ≡ 0
    nothing j last never = sum_none f n (λ e low. elim (some_waits d n w m e j o (one_share d n w m e j o low last)) [ inl none ↦ none | inr waits ↦ absurd (never e waits) ])

    served : (j : ℕ) → p.top ≡ suc j → (u : Bool) → is_unserved d p (view_of w m) j ≡ u → is_share d (passed_forward d (p.dir_entry j) (p.at j)) ≡ true → tally is_write_back w.replies ≡ cond {A = ℕ} u 0 1 → sum f n + tally is_write_back w.replies ≡ 1
    served j top false is share wb = let none = nothing j (λ i h. omega (arith, h, top)) (λ e s. let un = s.unserved in cc (un, is)) in omega (arith, none, wb)
    served j top true is share wb =
        let (own, g, owner, passes) = unserved_passed d p (view_of w m) j is in
        let inside : j < p.top = omega (arith, top) in
        let low = ((k.sound j (omega (arith, inside))).owner own owner).0 in
        let shares : has_class Share d g ≡ true = ap (is_share d) (sym passes) ∙ share in
        let last : (i : ℕ) → suc i ≡ p.top → i ≡ j = (λ i h. omega (arith, h, top)) in
        let up = sum_most f (λ e. one_if ((own == e) && true)) n (λ e lt. let same = each own g owner passes shares inside last is e lt (own == e) refl in omega (arith, same)) in
        let down = sum_most (λ e. one_if ((own == e) && true)) f n (λ e lt. let same = each own g owner passes shares inside last is e lt (own == e) refl in omega (arith, same)) in
        let most = sum_one own true n in
        let least = sum_one_least own true n low in
        omega (arith, up, down, most, least, wb)
      where
        each : (own g : ℕ) → (p.dir_entry j).owner ≡ Some own → passed_forward d (p.dir_entry j) (p.at j) ≡ Some g → has_class Share d g ≡ true → j < p.top → ((i : ℕ) → suc i ≡ p.top → i ≡ j) → is_unserved d p (view_of w m) j ≡ true
            → (e : ℕ) → e < n → (b : Bool) → (own == e) ≡ b → tally (is_share_of d) (core w e).queue + tally (is_share_of d) (core w e).line.deferred ≡ one_if (b && true)
        each own g owner passes shares inside last un e lt true same =
            owner_has d n w m e j g sh k o (one_share d n w m e j o lt last) inside (owner ∙ ap Some (eqb-true own e same)) passes shares un
        each own g owner passes shares inside last un e lt false ne = elim (some_waits d n w m e j o (one_share d n w m e j o lt last)) [
          | inl none ↦ none
          | inr waits ↦ absurd (let is_e = waits.owner in let z : Some own ≡ Some e = sym owner ∙ is_e in let same : own ≡ e = cc in let eq = eq-eqb own e same in cc (eq, ne))
        ]

    by : (t : ℕ) → p.top ≡ t → IsBusyAt d p (view_of w m) (tally is_write_back w.replies) t → sum f n + tally is_write_back w.replies ≡ 1
    by zero top h = absurd h
    by (suc j) top h = served j top (is_unserved d p (view_of w m) j) refl h.0 h.1

    pred_of : (t : ℕ) → (j : ℕ) × ((i : ℕ) → suc i ≡ t → i ≡ j)
    pred_of zero = (0, λ i h. absurd (omega (arith, h)))
    pred_of (suc j) = (j, λ i h. omega (arith, h))

    at : (b : Bool) → is_busy w.directory.desc ≡ b → IsBusy d p (view_of w m) (tally is_write_back w.replies) b → open_shares d w ≡ one_if b
    at true is h = let is_it = all in let one = by p.top refl h in omega (arith, is_it, one)
    at false is h =
        let (j, last) = pred_of p.top in
        let none = nothing j last (λ e s. let busy = s.busy in cc (busy, is)) in let is_it = all in omega (arith, is_it, none, h)
