-- The acknowledgements of a store add up: those it has got, those in flight, and the invalidations that aren't answered.
use Rattle.std.proofs.Common.{◌≡◌, ℕ, zero, suc, ◌+◌, ◌<◌, ◌≤◌, arith, Bool, true, false, ◌&&◌, ◌||◌, not, List, [], ◌∷◌, Option, Some, None, refl, sym, ap, subst, ◌∙◌, ◌⊎◌, inl, inr}
use Rattle.std.specs.Prelude.{◌==◌, nat_lt, is_none}
use Rattle.std.specs.Option.{option_and_then}
use Rattle.std.proofs.lemmas.Bool.{eqb-true, eq-eqb, lt-ltb, ltb-true, eqb-false}
use Rattle.pg_perm.proofs.Booleans.{and_true}
use Rattle.pg_perm.specs.declared.kinds.Event.{Event}
use Rattle.pg_perm.specs.declared.kinds.Event.TheVariants.{Store, Evict}
use Rattle.pg_perm.specs.declared.kinds.FwdClass.TheVariants.{Inv}
use Rattle.pg_perm.specs.declared.draft.Draft.{Draft}
use Rattle.pg_perm.specs.declared.draft.RowLine.{RowLine}
use Rattle.pg_perm.specs.Drafts.{IsWellFormed, is_rising}
use Rattle.pg_terms.specs.Terms.{forward_of, has_class}
use Rattle.pg_shape.specs.Shaped.{IsShaped}
use Rattle.pg_shape.proofs.Bools.{and_of_both}
use Rattle.pg_directory.specs.DirEntries.{DirEntry, Request, is_among, without_core}
use Rattle.pg_directory.specs.Sends.{forward_sent, forward_by_row}
use Rattle.pg_directory.proofs.Cores.{are_below, among_without_same, among_without_other, below_without, rising_without, rising_without_first}
use Rattle.pg_directory.proofs.Facts.{first_has_class}
use Rattle.pg_table.specs.declared.cache.Desc.{Desc}
use Rattle.pg_table.specs.declared.cache.Desc.TheVariants.{Stable, Ask, Leave}
use Rattle.pg_table.specs.declared.cache.Phase.{Phase}
use Rattle.pg_table.specs.declared.cache.Tag.{Tag}
use Rattle.pg_messages.specs.declared.messages.Ordered.{Ordered}
use Rattle.pg_messages.specs.declared.messages.Ordered.TheVariants.{Forward, AckCount, PutAck}
use Rattle.pg_order.specs.Messages.{put, sent_between, tally}
use Rattle.pg_order.specs.Orders.{DirOrder, acks_needed, acks_carried, entry_message}
use Rattle.pg_order.specs.Views.{acks_owed}
use Rattle.pg_order.proofs.Known.{IsKnown, known}
use Rattle.pg_order.proofs.Invs.{inv_shares}
use Rattle.pg_order.proofs.Owed.{above}
use Rattle.pg_messages.specs.declared.messages.Ask.{Ask as SentRequest}
use Rattle.pg_controllers.specs.Networks.{Core, idle_core}
use Rattle.pg_controllers.specs.Worlds.{World, core, order_of, is_stable}
use Rattle.pg_orderly.specs.Orderly.{Mark, is_pending, view_of, IsOrdered, IsAsking, is_ahead, IsLined, IsPlaced, is_storing, is_ack_to, AcksAre, IsOrderly}
use Rattle.pg_safe.specs.Invs.{is_inv_at, invs_at}
use Rattle.pg_safe.specs.Standing.{IsPendingEntry}
use Rattle.pg_safe.proofs.Bounds.{between_one}
use Rattle.pg_safe.proofs.Ends.{none_after}
use Rattle.pg_safe.proofs.Sums.{sum, one_if, sum_most, sum_add, total_sum, sum_among}
use Rattle.pg_safe.proofs.Waiting.{adds_up, sends_forward}

-- Counting

-- one that is sent in a stretch and passes is counted
pub between_counts : {X : Type 0} (t : X → Bool) (to : ℕ → Option X) (a n j : ℕ) (x : X) → a ≤ j → j < a + n → to j ≡ Some x → t x ≡ true → 1 ≤ tally t (sent_between to a n)
between_counts t to a zero j x lo hi sends passes = absurd (omega (arith, lo, hi))
between_counts {X = X} t to a (suc n) j x lo hi sends passes = elim (let split : (a ≡ j) ⊎ (suc a ≤ j) = search arith in split) [
  | inl same ↦ first (ap to same ∙ sends)
  | inr more ↦ later (to a) (between_counts t to (suc a) n j x more (omega (arith, hi)) sends passes)
]
  where
    first : to a ≡ Some x → 1 ≤ tally t (put (to a) (sent_between to (suc a) n))
    first is = let here : tally t (put (to a) (sent_between to (suc a) n)) ≡ tally t (x ∷ sent_between to (suc a) n) = ap (λ o. tally t (put o (sent_between to (suc a) n))) is in
        let one : one_if (t x) ≡ 1 = ap one_if passes in omega (arith, here, one)

    later : (o : Option X) → 1 ≤ tally t (sent_between to (suc a) n) → 1 ≤ tally t (put o (sent_between to (suc a) n))
    later None h = h
    later (Some y) h = omega (arith, h)

pub sum_one_least : (r : ℕ) (b : Bool) (n : ℕ) → r < n → one_if b ≤ sum (λ e. one_if ((r == e) && b)) n
sum_one_least r b zero lt = absurd (omega (arith, lt))
sum_one_least r b (suc n) lt = at (r == n) refl (λ lt. sum_one_least r b n lt)
  where
    at : (t : Bool) → (r == n) ≡ t → (r < n → one_if b ≤ sum (λ e. one_if ((r == e) && b)) n) → one_if b ≤ one_if (t && b) + sum (λ e. one_if ((r == e) && b)) n
    at true is rest = omega arith
    at false is rest = let apart = eqb-false r n is in let more = rest (omega (arith, apart, lt)) in omega (arith, more)

-- those that pass are counted by the sum, where none stands twice
sum_among_least : (t : ℕ → Bool) (xs : List ℕ) (n : ℕ) → is_rising xs ≡ true → are_below n xs ≡ true → tally t xs ≤ sum (λ e. one_if (is_among xs e && t e)) n
sum_among_least t [] n rising below = omega arith
sum_among_least t (x ∷ xs) n rising below =
    let (first, rest) = and_true (nat_lt x n) (are_below n xs) below in
    let more = sum_among_least t xs n (rising_without_first x xs rising) rest in
    let one = sum_one_least x (t x) n (ltb-true x n first) in
    let both_of = sum_add (λ e. one_if ((x == e) && t x)) (λ e. one_if (is_among xs e && t e)) n in
    let most = sum_most (λ e. one_if ((x == e) && t x) + one_if (is_among xs e && t e)) (λ e. one_if (is_among (x ∷ xs) e && t e)) n (λ e lt. either e (x == e) refl (is_among xs e) refl (t e) refl) in
    omega (arith, more, one, both_of, most)
  where
    either : (e : ℕ) (a : Bool) → (x == e) ≡ a → (b : Bool) → is_among xs e ≡ b → (c : Bool) → t e ≡ c → one_if (a && t x) + one_if (b && c) ≤ one_if ((a || b) && c)
    either e true is true among c is_c = absurd (let lt = above x e xs rising among in let same = eqb-true x e is in omega (arith, lt, same))
    either e true is false among c is_c = let same : t x ≡ c = ap t (eqb-true x e is) ∙ is_c in let one : one_if (t x) ≡ one_if c = ap one_if same in omega (arith, one)
    either e false is true among true is_c = omega arith
    either e false is true among false is_c = omega arith
    either e false is false among true is_c = omega arith
    either e false is false among false is_c = omega arith

-- The invalidations of one store

inv_at_is : (d : Draft) (k : ℕ) (x : Ordered) → is_inv_at d k x ≡ true → (f : ℕ) × (r : ℕ) × (i : ℕ) × (j : ℕ) × (x ≡ Forward f r i j) × (has_class Inv d f ≡ true) × (j ≡ k)
inv_at_is d k (Forward f r i j) h = let (inv, same) = and_true (has_class Inv d f) (j == k) h in (f, r, i, j, refl, inv, eqb-true j k same)
inv_at_is d k (AckCount i j) h = cc
inv_at_is d k (PutAck j) h = cc

inv_row : (d : Draft) (s : DirEntry) (q : Request) (e : ℕ) (r : RowLine) → (q.core == e) ≡ false → q.event ≡ Store → is_among s.sharers e ≡ true → forward_by_row d s q e r ≡ forward_of d Inv
inv_row d s q e r ne store shares = rw (ne, store, shares) refl

-- the invalidations in flight are those that are owed
pub invs_owed : (d : Draft) (n : ℕ) (w : World) (m : ℕ → Mark) (j : ℕ) → IsWellFormed d → IsShaped d → IsOrderly d n w m → j < (order_of d w).top → ((order_of d w).at j).event ≡ Store
    → invs_at d (suc j) w ≡ acks_owed (order_of d w) (view_of w m) j
invs_owed d n w m j wf sh o inside store =
    let all : invs_at d (suc j) w ≡ sum (λ e. tally (is_inv_at d (suc j)) (core w e).queue) n =
    total_sum (λ (x : Core). tally (is_inv_at d (suc j)) x.queue) w.cores idle_core ∙ ap (sum (λ e. tally (is_inv_at d (suc j)) (core w e).queue)) o.cores in
    let up = sum_most (λ e. tally (is_inv_at d (suc j)) (core w e).queue) (λ e. one_if (is_among xs e && t e)) n (λ e low. let same = each e low in omega (arith, same)) in
    let down = sum_most (λ e. one_if (is_among xs e && t e)) (λ e. tally (is_inv_at d (suc j)) (core w e).queue) n (λ e low. let same = each e low in omega (arith, same)) in
    let most = sum_among t xs n in
    let least = sum_among_least t xs n (rising_without (p.at j).core s.sharers so.rising) (below_without n (p.at j).core s.sharers so.inside) in
    omega (arith, all, up, down, most, least)
  where
    p : DirOrder
    p = order_of d w

    s : DirEntry
    s = p.dir_entry j

    k : IsKnown d n p
    k = known d n p wf sh o.past

    so : Rattle.pg_directory.specs.Sound.IsSound d n s
    so = k.sound j (omega (arith, inside))

    xs : List ℕ
    xs = without_core (p.at j).core s.sharers

    t : ℕ → Bool
    t = λ e. nat_lt (m e).seen (suc j)

    -- a sharer that hasn't seen it is sent an invalidation
    sends : (e : ℕ) → is_among xs e ≡ true → (b : Bool) → ((p.at j).core == e) ≡ b → (x : Ordered) × (entry_message d p e j ≡ Some x) × (is_inv_at d (suc j) x ≡ true)
    sends e among true same = absurd (
        let is : (p.at j).core ≡ e = eqb-true (p.at j).core e same in
        let none = among_without_same (p.at j).core s.sharers in
        let there = subst (λ e. is_among (without_core (p.at j).core s.sharers) e ≡ true) (sym is) among in cc (none, there))
    sends e among false ne =
        let shares : is_among s.sharers e ≡ true = sym (among_without_other (p.at j).core e s.sharers ne) ∙ among in
        let (x, there) = sh.lists.has_shared s.dir (shared_dir shares so.kind.0 so.kind.1) in
        let (f, inv) = sh.forwards.inv x there in
        let (r, row) = (k.handled j inside).row (λ z. absurd (let y : Store ≡ Evict = sym store ∙ z in cc)) in
        let by_row : forward_by_row d s (p.at j) e r ≡ forward_of d Inv = inv_row d s (p.at j) e r ne store shares in
        let to : forward_sent d s (p.at j) e ≡ Some f = ap (λ (t : Option RowLine). option_and_then (forward_by_row d s (p.at j) e) t) row ∙ by_row ∙ inv in
        (Forward f (p.at j).core (acks_carried d (acks_needed s (p.at j)) f) (suc j), sends_forward d p e j f ne to, and_of_both (has_class Inv d f) (suc j == suc j) (first_has_class d Inv f inv) (eq-eqb (suc j) (suc j) refl))
      where
        shared_dir : is_among s.sharers e ≡ true → (q : Rattle.pg_perm.specs.declared.kinds.DirKind.DirKind) → Rattle.pg_terms.specs.Due.kind_is q d s.dir ≡ true
            → (Rattle.pg_terms.specs.Due.kind_is Rattle.pg_perm.specs.declared.kinds.DirKind.TheVariants.Shared d s.dir ≡ true) ⊎ (Rattle.pg_terms.specs.Due.kind_is Rattle.pg_perm.specs.declared.kinds.DirKind.TheVariants.Mixed d s.dir ≡ true)
        shared_dir shares Rattle.pg_perm.specs.declared.kinds.DirKind.TheVariants.Idle q = absurd (let none = (so.idle q).1 in let is : is_among s.sharers e ≡ false = ap (λ xs. is_among xs e) none in cc (is, shares))
        shared_dir shares Rattle.pg_perm.specs.declared.kinds.DirKind.TheVariants.Shared q = inl q
        shared_dir shares Rattle.pg_perm.specs.declared.kinds.DirKind.TheVariants.Owned q = absurd (let none = (so.owned q).1 in let is : is_among s.sharers e ≡ false = ap (λ xs. is_among xs e) none in cc (is, shares))
        shared_dir shares Rattle.pg_perm.specs.declared.kinds.DirKind.TheVariants.Mixed q = inr q

    each : (e : ℕ) → e < n → tally (is_inv_at d (suc j)) (core w e).queue ≡ one_if (is_among xs e && t e)
    each e low = ap (tally (is_inv_at d (suc j))) pl.queue ∙ elim (between_one (is_inv_at d (suc j)) (entry_message d p e) (m e).seen pl.rest j from_entry) [
      | inl none ↦ none ∙ sym (off (is_among xs e) refl (t e) refl none)
      | inr (one, x, lo, hi, to, passes) ↦ one ∙ sym (ap one_if (on x lo to passes))
    ]
      where
        pl : IsPlaced d p e (core w e) (m e)
        pl = o.placed e low

        from_entry : (i : ℕ) (x : Ordered) → (m e).seen ≤ i → i < (m e).seen + pl.rest → entry_message d p e i ≡ Some x → is_inv_at d (suc j) x ≡ true → i ≡ j
        from_entry i x lo hi to passes =
            let (f, r, c, z, is_it, inv, same) = inv_at_is d (suc j) x passes in
            let fw = Rattle.pg_order.proofs.Quiet.forward_is d p e i f r c z (to ∙ ap Some is_it) in
            let stamp = fw.stamp in omega (arith, stamp, same)

        on : (x : Ordered) → (m e).seen ≤ j → entry_message d p e j ≡ Some x → is_inv_at d (suc j) x ≡ true → (is_among xs e && t e) ≡ true
        on x lo to passes =
            let (f, r, c, z, is_it, inv, same) = inv_at_is d (suc j) x passes in
            let fw = Rattle.pg_order.proofs.Quiet.forward_is d p e j f r c z (to ∙ ap Some is_it) in
            and_of_both (is_among xs e) (t e) (inv_shares d n s (p.at j) e f (k.handled j inside) fw.other fw.sends inv) (lt-ltb (m e).seen (suc j) (omega (arith, lo)))

        off : (a : Bool) → is_among xs e ≡ a → (b : Bool) → t e ≡ b → tally (is_inv_at d (suc j)) (sent_between (entry_message d p e) (m e).seen pl.rest) ≡ 0 → one_if (a && b) ≡ 0
        off false is b is_b none = refl
        off true is false is_b none = refl
        off true is true is_b none = absurd (
            let (x, to, passes) = sends e is ((p.at j).core == e) refl in
            let lt = ltb-true (m e).seen (suc j) is_b in
            let upto = pl.upto in
            let some = between_counts (is_inv_at d (suc j)) (entry_message d p e) (m e).seen pl.rest j x (omega (arith, lt)) (omega (arith, inside, upto)) to passes in omega (arith, some, none))

-- What a pending operation is

pub pending_stands : (d : Draft) (n : ℕ) (w : World) (m : ℕ → Mark) (c : ℕ) → IsOrderly d n w m → c < n → is_pending (core w c) ≡ true → (j : ℕ) × ((m c).last ≡ suc j) × IsPendingEntry d w c j
pending_stands d n w m c o low pend = lined (core w c).line.desc (core w c).slot pend pl.line
  where
    p : DirOrder
    p = order_of d w

    pl : IsPlaced d p c (core w c) (m c)
    pl = o.placed c low

    made : (e : Event) → Rattle.pg_orderly.specs.Orderly.HasPending (core w c).line e → IsOrdered p (m c) e → (j : ℕ) × ((m c).last ≡ suc j) × IsPendingEntry d w c j
    made e (op, pending, event) od =
        let last = od.last in
        let upto = pl.last_low in (
          od.entry,
          last,
          record {
            inside = omega (arith, last, upto);
            own = pl.last_own od.entry last;
            newest = none_after d p c (core w c) (m c) pl (suc od.entry) p.top (omega (arith, last)) (omega arith);
            op = op;
            pending = pending;
            event = od.event ∙ sym event;
          },
        )

    asking : (e : Event) (s : ℕ) (ph : Phase) (t : Tag) (b : Bool) → Rattle.pg_orderly.specs.Orderly.HasPending (core w c).line e → IsAsking d p c (core w c).line (m c) e s ph t b → (j : ℕ) × ((m c).last ≡ suc j) × IsPendingEntry d w c j
    asking e s ph t true has a = made e has a.ordered
    asking e s ph t false has a = made e has a.2

    lined : (x : Desc) (slot : Option SentRequest) → (not (is_stable x) && is_none slot) ≡ true → IsLined d p c (core w c).line (m c) x slot → (j : ℕ) × ((m c).last ≡ suc j) × IsPendingEntry d w c j
    lined (Stable s) slot pend h = cc
    lined (Ask e s ph t) None pend h = asking e s ph t (is_ahead ph t) h.0 h.1
    lined (Ask e s ph t) (Some a) pend h = cc
    lined (Leave s) None pend h = made Evict h.0 h.2
    lined (Leave s) (Some a) pend h = cc

-- a store that stands in the order
pub acks_add_up : (d : Draft) (n : ℕ) (w : World) (m : ℕ → Mark) (c : ℕ) → IsWellFormed d → IsShaped d → IsOrderly d n w m → c < n → is_pending (core w c) ≡ true → is_storing (core w c).line.desc ≡ true
    → (j : ℕ) × IsPendingEntry d w c j × (acks_needed ((order_of d w).dir_entry j) ((order_of d w).at j) ≡ (core w c).line.got + tally (is_ack_to c) w.replies + invs_at d (suc j) w)
acks_add_up d n w m c wf sh o low pend store =
    let (j, last, stands) = pending_stands d n w m c o low pend in
    let sum_is = adds_up (order_of d w) (view_of w m) (core w c) (tally (is_ack_to c) w.replies) (m c).last j (is_pending (core w c) && is_storing (core w c).line.desc) (o.answered c low).acks (rw (pend, store) refl) last in
    let event = Rattle.pg_orderly.proofs.Acks.storing_is d (order_of d w) c (core w c).line (m c) (core w c).line.desc (core w c).slot (o.placed c low).line (rw (pend, store) refl) j last in
    let same = invs_owed d n w m j wf sh o stands.inside event in
    (j, stands, omega (arith, sum_is, same))

-- and one that doesn't yet
pub acks_not_begun : (d : Draft) (n : ℕ) (w : World) (m : ℕ → Mark) (c : ℕ) → IsOrderly d n w m → c < n → is_pending (core w c) ≡ false → ((core w c).line.got ≡ 0) × (tally (is_ack_to c) w.replies ≡ 0)
acks_not_begun d n w m c o low idle =
    subst (AcksAre (order_of d w) (view_of w m) (core w c) (tally (is_ack_to c) w.replies) (m c).last) (ap (λ b. b && is_storing (core w c).line.desc) idle) (o.answered c low).acks
