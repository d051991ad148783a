-- A count, by whatever row: the world stays orderly.
use Rattle.std.proofs.Common.{◌≡◌, ℕ, suc, ◌<◌, ◌≤◌, arith, Bool, true, false, ◌&&◌, cond, List, [], ◌∷◌, ◌++◌, length, Some, None, refl, sym, ap, subst, ◌∙◌, ◌⊎◌, inl, inr}
use Rattle.std.specs.Prelude.{◌==◌, is_some, if◌then◌else◌}
use Rattle.std.proofs.lemmas.Bool.{eqb-true, eqb-false, eq-eqb}
use Rattle.pg_perm.specs.declared.kinds.Event.TheVariants.{Store}
use Rattle.pg_perm.specs.declared.kinds.Op.{Op}
use Rattle.pg_perm.specs.declared.draft.Draft.{Draft}
use Rattle.pg_perm.specs.declared.draft.ReplyName.TheVariants as named
use Rattle.pg_perm.specs.Drafts.{IsWellFormed}
use Rattle.pg_terms.specs.Terms.{shared}
use Rattle.pg_terms.specs.Rows.{final_state}
use Rattle.pg_shape.specs.Shaped.{IsShaped}
use Rattle.pg_directory.specs.Sends.{forward_sent}
use Rattle.pg_directory.specs.Sound.{fits}
use Rattle.pg_directory.specs.Requests.{IsReplyBy, IsReply}
use Rattle.pg_table.specs.declared.cache.Desc.TheVariants.{Stable, Ask}
use Rattle.pg_table.specs.declared.cache.Phase.{Phase}
use Rattle.pg_table.specs.declared.cache.Phase.TheVariants.{D, Ad, Ac, A}
use Rattle.pg_table.specs.declared.cache.Tag.TheVariants.{Plain}
use Rattle.pg_table.specs.declared.cache.Act.TheVariants as act
use Rattle.pg_table.specs.declared.cache.Input.TheVariants as at_input
use Rattle.pg_table.specs.Tables.{TableState}
use Rattle.pg_table.specs.Choices.{Choice, only_choice, choices}
use Rattle.pg_table.specs.Pick.{pick as picked}
use Rattle.pg_table.specs.Sound.{IsSoundCache}
use Rattle.pg_messages.specs.declared.messages.Ordered.{Ordered}
use Rattle.pg_messages.specs.declared.messages.Ordered.TheVariants.{AckCount}
use Rattle.pg_order.specs.Messages.{tally}
use Rattle.pg_order.specs.Orders.{DirOrder}
use Rattle.pg_order.specs.Views.{View, is_unserved, acks_owed}
use Rattle.pg_order.proofs.Known.{IsKnown, known}
use Rattle.pg_order.proofs.Invs.{inv_shares, owes_some}
use Rattle.pg_order.proofs.OneEntry.{sent_not_own}
use Rattle.pg_controllers.specs.Networks.{Line, Core}
use Rattle.pg_controllers.specs.Lines.{Received, LineResult, complete, do_acts, goes_to, result_of, ordered_input, received_ordered}
use Rattle.pg_messages.specs.declared.messages.DoneEntry.{DoneEntry}
use Rattle.pg_messages.specs.declared.messages.WorldEvent.TheVariants.{Ordered as Ordered_to}
use Rattle.pg_controllers.specs.Worlds.{World, core, done_of, order_of, move}
use Rattle.pg_orderly.specs.Orderly.{Mark, is_pending, view_of, IsPlaced, is_storing, is_ack_to, IsOrderly}
use Rattle.pg_orderly.proofs.Keeping.{marked, moved}
use Rattle.pg_orderly.proofs.Acks.{storing_is}
use Rattle.pg_orderly.proofs.Effects.{starts}
use Rattle.pg_orderly.proofs.Handled.{not_due}
use Rattle.pg_orderly.proofs.Rows.{IsChosen, none_chosen, only_chosen, where_true, IsEnd, ends_so}
use Rattle.pg_safe.specs.Moving.{IsComplete}
use Rattle.pg_safe.proofs.Catch.{granted_by}
use Rattle.pg_safe.proofs.Heads.{head_of}
use Rattle.pg_safe.proofs.Waiting.{adds_up, head_met}
use Rattle.pg_completions.proofs.Even.{IsEven, owed_even, even_last}
use Rattle.pg_completions.proofs.Turn.{viewed, turns_kept}
use Rattle.pg_completions.proofs.Picks.{chosen_by}
use Rattle.pg_completions.proofs.Taken.{sends_none, granted_not_due, own_acks}
use Rattle.pg_completions.proofs.Counted.{with_message, message_moves, silent_message, IsCounting, counting}

-- up to its own entry nothing is sent to it
nothing_sent : (d : Draft) (n : ℕ) (w : World) (m : ℕ → Mark) (c cnt k : ℕ) (ms : List Ordered) → IsCounting d n w m c cnt k ms → (j : ℕ) → (m c).seen ≤ j → j < (m c).last → forward_sent d ((order_of d w).dir_entry j) ((order_of d w).at j) c ≡ None
nothing_sent d n w m c cnt k ms h j lo hi = elim (split j h.entry (let last = h.last in omega (arith, hi, last))) [
  | inl low ↦ sends_none d (order_of d w) c j (h.quiet j lo low)
  | inr same ↦ subst (λ j. forward_sent d ((order_of d w).dir_entry j) ((order_of d w).at j) c ≡ None) (sym same) (sent_not_own d ((order_of d w).dir_entry h.entry) ((order_of d w).at h.entry) c (eq-eqb ((order_of d w).at h.entry).core c h.own))
]
  where
    split : (a b : ℕ) → a < suc b → (a < b) ⊎ (a ≡ b)
    split a b lt = search arith

-- The store is done

pub upgrade_kept : (d : Draft) (n : ℕ) (w : World) (m : ℕ → Mark) (c cnt k : ℕ) (ms : List Ordered) (ch : Choice) → IsWellFormed d → IsShaped d → c < n → IsOrderly d n w m → (h : IsCounting d n w m c cnt k ms)
    → (cnt == (core w c).line.got) ≡ true → (end : IsEnd d Plain [] (final_state d h.s Store named.AckCount) ch)
    → (result_of d ch (received_ordered (core w c).line (AckCount cnt k)) (core w c).line (core w c).slot ≡ goes_to (Stable end.final) (complete h.pends.0 (received_ordered (core w c).line (AckCount cnt k)) (starts (core w c).line None)))
    × IsOrderly d n (with_message w c ms (result_of d ch (received_ordered (core w c).line (AckCount cnt k)) (core w c).line (core w c).slot)) (marked c (record { seen = suc h.entry; last = (m c).last }) m)
upgrade_kept d n w m c cnt k ms ch wf sh low o h all end = (
  effect,
  subst (λ a. IsOrderly d n (with_message w c ms a) marks) (sym effect) (silent_message d n w c ms e marks refl (turns_kept d n w m c (suc h.entry) y w.replies dn wf sh low o (record {
    even = even_last d p v u c (suc h.entry) false (viewed w m c (suc h.entry) y w.replies dn inside) (sym h.last) waited (nothing_sent d n w m c cnt k ms h) (λ j f lo hi sends inv. absurd (let from = h.from in let last = h.last in omega (arith, lo, hi, from, last)));
    opened = λ j is un. absurd (let same : h.entry ≡ j = (let last = h.last in omega (arith, is, last)) in let served = subst (λ j. is_unserved d p v j ≡ false) same h.served in cc (un, served));
    owing = λ j x g is in_it sends class lt. absurd (
        let same : j ≡ h.entry = (let last = h.last in omega (arith, is, last)) in
        let some : 1 ≤ acks_owed p v h.entry = subst (λ j. 1 ≤ acks_owed p v j) same (owes_some p v j x (inv_shares d n (p.dir_entry j) (p.at j) x g (k0.handled j in_it) (apart j x g sends ((p.at j).core == x) refl) sends class) lt) in
        let none = complete_now.1 in omega (arith, some, none));
    placed = record {
      last_low = pl.last_low;
      last_own = pl.last_own;
      last_is = pl.last_is;
      touched = λ j is. inl (let same : h.entry ≡ j = omega (arith, is) in subst (λ j. (p.at j).core ≡ c) same h.own);
      gap = λ j b own. (let last = h.last in omega (arith, b, last));
      rest = h.rest;
      upto = h.upto;
      queue = h.later;
      line = (record { need = refl; deferred = h.level.deferred; state = fit }, refl, (let last = h.last in omega (arith, last)));
    };
    promised = o.promised;
    own = record {
      filled = h.none ∙ ap (λ b. cond {A = ℕ} b 1 0) (sym (not_due d p u y (u.last c) refl));
      acks = (refl, complete_now.0);
    };
    data_as = λ x ne. refl;
    acks_as = λ x ne. refl;
    wbs = refl;
  }))),
)
  where
    p : DirOrder
    p = order_of d w

    l : Line
    l = (core w c).line

    met : Received
    met = received_ordered l (AckCount cnt k)

    op : Op
    op = h.pends.0

    e : LineResult
    e = goes_to (Stable end.final) (complete op met (starts l None))

    y : Core
    y = record { line = e.line; left = (core w c).left; slot = e.slot; queue = ms }

    dn : List DoneEntry
    dn = w.done ++ done_of c e.done

    marks : ℕ → Mark
    marks = marked c (record { seen = suc h.entry; last = (m c).last }) m

    v : View
    v = view_of w m

    u : View
    u = view_of (moved c y w.replies dn w) marks

    inside : c < length w.cores
    inside = let same = o.cores in omega (arith, same, low)

    k0 : IsKnown d n p
    k0 = known d n p wf sh o.past

    pl : IsPlaced d p c (core w c) (m c)
    pl = o.placed c low

    waited : is_pending (core w c) ≡ true
    waited = rw (h.desc, h.slot) refl

    complete_now : (tally (is_ack_to c) w.replies ≡ 0) × (acks_owed p v h.entry ≡ 0)
    complete_now =
        let sum = adds_up p v (core w c) (tally (is_ack_to c) w.replies) (m c).last h.entry (is_pending (core w c) && is_storing l.desc) (o.answered c low).acks (rw (waited, h.desc) refl) h.last in
        let enough = eqb-true cnt l.got all in
        let needed = h.needed in
        (omega (arith, sum, enough, needed), omega (arith, sum, enough, needed))

    apart : (j x g : ℕ) → forward_sent d (p.dir_entry j) (p.at j) x ≡ Some g → (q : Bool) → ((p.at j).core == x) ≡ q → ((p.at j).core == x) ≡ false
    apart j x g sends true own = absurd (let none = sent_not_own d (p.dir_entry j) (p.at j) x own in cc (none, sends))
    apart j x g sends false ne = ne

    fit : fits d (p.dir_entry (suc h.entry)) c end.final ≡ true
    fit =
        let reply : IsReply d (p.dir_entry h.entry) (p.at h.entry) named.AckCount = subst (λ a. IsReplyBy d (p.dir_entry h.entry).dir a named.AckCount) (sym h.counts) refl in
        let (f, ends, fits_f) = granted_by d n p k0 c h.entry h.s Store named.AckCount h.inside h.own h.event (λ z. cc) h.state h.begins.0 reply in
        let same : f ≡ end.final = (let x = end.from in cc (ends, x)) in
        subst (λ f. fits d (p.dir_entry (suc h.entry)) c f ≡ true) same fits_f

    state : end.final ≡ end.state
    state = let x = end.after in cc

    effect : result_of d ch met l (core w c).slot ≡ e
    effect =
        ap (result_of d ch met l) h.slot
        ∙ ap (λ xs. goes_to ch.next (do_acts d met xs (starts l None))) end.acts
        ∙ ap (goes_to ch.next) (completes h.pends.1)
        ∙ ap (λ s. goes_to s (complete op met (starts l None))) (end.next ∙ ap Stable (sym state))
      where
        completes : l.pending ≡ Some op → do_acts d met (act.Done ∷ []) (starts l None) ≡ complete op met (starts l None)
        completes pending = rw pending refl

-- The store waits for acknowledgements

pub upgrade_part : (d : Draft) (n : ℕ) (w : World) (m : ℕ → Mark) (c cnt k : ℕ) (ms : List Ordered) (ch : Choice) → IsWellFormed d → IsShaped d → c < n → IsOrderly d n w m → (h : IsCounting d n w m c cnt k ms)
    → (cnt == (core w c).line.got) ≡ false → ch ≡ record { acts = act.Need ∷ []; next = Ask Store h.s A Plain }
    → (result_of d ch (received_ordered (core w c).line (AckCount cnt k)) (core w c).line (core w c).slot ≡ record { line = record (core w c).line { desc = Ask Store h.s A Plain; need = Some cnt; stamp = k }; slot = None; replies = []; done = None })
    × IsOrderly d n (with_message w c ms (result_of d ch (received_ordered (core w c).line (AckCount cnt k)) (core w c).line (core w c).slot)) (marked c (record { seen = suc h.entry; last = (m c).last }) m)
upgrade_part d n w m c cnt k ms ch wf sh low o h short is_it = (
  effect,
  subst (λ a. IsOrderly d n (with_message w c ms a) marks) (sym effect) (silent_message d n w c ms e marks refl (turns_kept d n w m c (suc h.entry) y w.replies (w.done ++ []) wf sh low o (record {
    even = even;
    opened = λ j is un. absurd (let same : h.entry ≡ j = (let last = h.last in omega (arith, is, last)) in let served = subst (λ j. is_unserved d p v j ≡ false) same h.served in cc (un, served));
    owing = λ j x g is in_it sends class lt. refl;
    placed = record {
      last_low = pl.last_low;
      last_own = pl.last_own;
      last_is = pl.last_is;
      touched = λ j is. inl (let same : h.entry ≡ j = omega (arith, is) in subst (λ j. (p.at j).core ≡ c) same h.own);
      gap = λ j b own. (let last = h.last in omega (arith, b, last));
      rest = h.rest;
      upto = h.upto;
      queue = h.later;
      line = (
        h.pends,
        record {
          ordered = record { entry = h.entry; last = h.last; event = h.event };
          past = 0;
          upto = (let last = h.last in omega (arith, last));
          state = h.state;
          phase = (refl, h.begins.0);
          tag = refl;
          deferred = h.level.deferred;
          need = (ap Some h.needed, λ e. eqb-false cnt l.got short (h.needed ∙ sym e));
        },
      );
    };
    promised = o.promised;
    own = record {
      filled = h.none ∙ ap (λ b. cond {A = ℕ} b 1 0) (sym (granted_not_due d p u y (u.last c) refl));
      acks = own_acks p v u c (core w c) y (tally (is_ack_to c) w.replies) (tally (is_ack_to c) w.replies) (even.last c) (sym waited) (sym (ap is_storing h.desc)) refl refl owes (o.answered c low).acks;
    };
    data_as = λ x ne. refl;
    acks_as = λ x ne. refl;
    wbs = refl;
  }))),
)
  where
    p : DirOrder
    p = order_of d w

    l : Line
    l = (core w c).line

    met : Received
    met = received_ordered l (AckCount cnt k)

    e : LineResult
    e = record { line = record l { desc = Ask Store h.s A Plain; need = Some cnt; stamp = k }; slot = None; replies = []; done = None }

    y : Core
    y = record { line = e.line; left = (core w c).left; slot = None; queue = ms }

    marks : ℕ → Mark
    marks = marked c (record { seen = suc h.entry; last = (m c).last }) m

    v : View
    v = view_of w m

    u : View
    u = view_of (moved c y w.replies (w.done ++ []) w) marks

    inside : c < length w.cores
    inside = let same = o.cores in omega (arith, same, low)

    k0 : IsKnown d n p
    k0 = known d n p wf sh o.past

    pl : IsPlaced d p c (core w c) (m c)
    pl = o.placed c low

    waited : is_pending (core w c) ≡ true
    waited = rw (h.desc, h.slot) refl

    even : IsEven d p v u c
    even = even_last d p v u c (suc h.entry) true (viewed w m c (suc h.entry) y w.replies (w.done ++ []) inside) (sym h.last) waited (nothing_sent d n w m c cnt k ms h) (λ j f lo hi sends inv. absurd (let from = h.from in let last = h.last in omega (arith, lo, hi, from, last)))

    owes : (j : ℕ) → (is_pending (core w c) && is_storing l.desc) ≡ true → (m c).last ≡ suc j → acks_owed p u j ≡ acks_owed p v j
    owes j store last =
        let upto = pl.last_low in
        owed_even d n p v u c sh k0 even j (omega (arith, last, upto)) (storing_is d p c l (m c) l.desc (core w c).slot pl.line store j last)

    effect : result_of d ch met l (core w c).slot ≡ e
    effect = ap (result_of d ch met l) h.slot ∙ ap (λ (ch : Choice). result_of d ch met l None) is_it

-- Either

pub data CountCase (d : Draft) (n : ℕ) (w : World) (m : ℕ → Mark) (c cnt k : ℕ) (ms : List Ordered) (ch : Choice) : Type 0 where
  All : (h : IsCounting d n w m c cnt k ms) → h.ph ≡ Ac → (cnt == (core w c).line.got) ≡ true → IsEnd d Plain [] (final_state d h.s Store named.AckCount) ch → CountCase d n w m c cnt k ms ch
  Short : (h : IsCounting d n w m c cnt k ms) → h.ph ≡ Ac → (cnt == (core w c).line.got) ≡ false → ch ≡ record { acts = act.Need ∷ []; next = Ask Store h.s A Plain } → CountCase d n w m c cnt k ms ch

pub count_case : (d : Draft) (t : List TableState) (n : ℕ) (w : World) (m : ℕ → Mark) (c cnt k : ℕ) (ms : List Ordered) → IsWellFormed d → IsShaped d → IsSoundCache d t → IsOrderly d n w m → IsComplete t n w
    → c < n → (core w c).queue ≡ AckCount cnt k ∷ ms → (ch : Choice) × CountCase d n w m c cnt k ms ch × (move d (picked t) w (Ordered_to c) ≡ with_message w c ms (result_of d ch (received_ordered (core w c).line (AckCount cnt k)) (core w c).line (core w c).slot))
count_case d t n w m c cnt k ms wf sh sound o full low queue =
    let (g, hd) = head_of d (order_of d w) c (core w c) (m c) (AckCount cnt k) ms (o.placed c low) queue in
    let met_it = head_met d n w m c g (AckCount cnt k) sh (known d n (order_of d w) wf sh o.past) low o hd in
    let (ch, picks, chosen) = chosen_by d t l.desc (ordered_input l (AckCount cnt k)) wf sh sound (full.states c low) met_it.due in
    let one = by ch (cnt == l.got) refl (subst (λ x. IsChosen (choices d x (ordered_input l (AckCount cnt k))) ch) h.desc chosen) in
    (ch, one, message_moves d (picked t) w c (AckCount cnt k) ms ch queue picks)
  where
    l : Line
    l = (core w c).line

    h : IsCounting d n w m c cnt k ms
    h = counting d n w m c cnt k ms wf sh low o queue

    Kept : Choice → Type 0
    Kept ch = CountCase d n w m c cnt k ms ch

    by_phase : (ch : Choice) (ph : Phase) → h.ph ≡ ph → (b : Bool) → (cnt == l.got) ≡ b → IsChosen (choices d (Ask Store h.s ph h.t) (if b then at_input.CountAll else at_input.CountPart)) ch → Kept ch
    by_phase ch D ac true all h2 = absurd (none_chosen ch h2)
    by_phase ch D ac false all h2 = absurd (none_chosen ch h2)
    by_phase ch Ad ac true all h2 = absurd (none_chosen ch h2)
    by_phase ch Ad ac false all h2 = absurd (none_chosen ch h2)
    by_phase ch A ac true all h2 = absurd (none_chosen ch h2)
    by_phase ch A ac false all h2 = absurd (none_chosen ch h2)
    by_phase ch Ac ac true all h2 = All h ac all (ends_so d Plain [] (final_state d h.s Store named.AckCount) ch h2)
    by_phase ch Ac ac false short h2 =
        let (some, h2) = where_true (is_some (shared d)) (only_choice (act.Need ∷ []) (Ask Store h.s A Plain)) ch h2 in
        Short h ac short (only_chosen (record { acts = act.Need ∷ []; next = Ask Store h.s A Plain }) ch h2)

    by : (ch : Choice) (b : Bool) → (cnt == l.got) ≡ b → IsChosen (choices d (Ask Store h.s h.ph h.t) (ordered_input l (AckCount cnt k))) ch → Kept ch
    by ch b is h2 = by_phase ch h.ph refl b is (subst (λ (b : Bool). IsChosen (choices d (Ask Store h.s h.ph h.t) (if b then at_input.CountAll else at_input.CountPart)) ch) is h2)

pub count_kept : (d : Draft) (t : List TableState) (n : ℕ) (w : World) (m : ℕ → Mark) (c cnt k : ℕ) (ms : List Ordered) → IsWellFormed d → IsShaped d → IsSoundCache d t → IsOrderly d n w m → IsComplete t n w
    → c < n → (core w c).queue ≡ AckCount cnt k ∷ ms → (u : ℕ → Mark) × IsOrderly d n (move d (picked t) w (Ordered_to c)) u
count_kept d t n w m c cnt k ms wf sh sound o full low queue = let (ch, one, moves) = count_case d t n w m c cnt k ms wf sh sound o full low queue in by ch one moves
  where
    by : (ch : Choice) → CountCase d n w m c cnt k ms ch → move d (picked t) w (Ordered_to c) ≡ with_message w c ms (result_of d ch (received_ordered (core w c).line (AckCount cnt k)) (core w c).line (core w c).slot)
        → (u : ℕ → Mark) × IsOrderly d n (move d (picked t) w (Ordered_to c)) u
    by ch (All h ac all end) moves =
        let marks = marked c (record { seen = suc h.entry; last = (m c).last }) m in
        (marks, subst (λ z. IsOrderly d n z marks) (sym moves) (upgrade_kept d n w m c cnt k ms ch wf sh low o h all end).1)
    by ch (Short h ac short is) moves =
        let marks = marked c (record { seen = suc h.entry; last = (m c).last }) m in
        (marks, subst (λ z. IsOrderly d n z marks) (sym moves) (upgrade_part d n w m c cnt k ms ch wf sh low o h short is).1)
