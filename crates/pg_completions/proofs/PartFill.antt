-- A store gets its data, and waits for acknowledgements.
use Rattle.std.proofs.Common.{◌≡◌, ◌≢◌, ℕ, suc, ◌<◌, ◌≤◌, arith, true, false, ◌&&◌, cond, List, [], ◌∷◌, ◌++◌, length, Some, None, refl, sym, ap, subst, ◌∙◌, inl, inr}
use Rattle.std.specs.Prelude.{◌==◌, slice_get}
use Rattle.std.specs.List.{remove}
use Rattle.std.proofs.lemmas.Bool.{eqb-false}
use Rattle.pg_perm.specs.declared.kinds.Event.TheVariants.{Store}
use Rattle.pg_perm.specs.declared.draft.Draft.{Draft}
use Rattle.pg_perm.specs.Drafts.{IsWellFormed}
use Rattle.pg_shape.specs.Shaped.{IsShaped}
use Rattle.pg_table.specs.declared.cache.Desc.TheVariants.{Ask}
use Rattle.pg_table.specs.declared.cache.Phase.{Phase}
use Rattle.pg_table.specs.declared.cache.Phase.TheVariants.{A}
use Rattle.pg_table.specs.declared.cache.Tag.{Tag}
use Rattle.pg_table.specs.declared.cache.Tag.TheVariants.{Plain}
use Rattle.pg_table.specs.declared.cache.Act.TheVariants as act
use Rattle.pg_table.specs.Choices.{Choice}
use Rattle.pg_order.specs.Messages.{sent_between}
use Rattle.pg_order.specs.Orders.{DirOrder, acks_needed, entry_message}
use Rattle.pg_order.specs.Views.{View, is_unserved}
use Rattle.pg_order.proofs.Known.{IsKnown, known}
use Rattle.pg_messages.specs.declared.messages.Reply.{Reply}
use Rattle.pg_messages.specs.declared.messages.Reply.TheVariants.{Data}
use Rattle.pg_controllers.specs.Networks.{Line, Core}
use Rattle.pg_controllers.specs.Lines.{Received, LineResult, result_of, received_reply}
use Rattle.pg_controllers.specs.Worlds.{World, core, order_of}
use Rattle.pg_orderly.specs.Orderly.{Mark, is_pending, view_of, HasPending, IsAhead, is_ahead, IsAsking, IsPlaced, is_storing, IsOrderly}
use Rattle.pg_orderly.proofs.Keeping.{marked, moved}
use Rattle.pg_orderly.proofs.Acks.{storing_is}
use Rattle.pg_orderly.proofs.Filled.{promised_removed}
use Rattle.pg_safe.proofs.Ends.{begins_lacks, phase_lacks}
use Rattle.pg_safe.proofs.Heads.{fits_at}
use Rattle.pg_safe.proofs.Replies.{IsDatum, datum, data_quiet}
use Rattle.pg_completions.proofs.Even.{IsEven, owed_even, even_same, even_last}
use Rattle.pg_completions.proofs.Turn.{viewed, turns_kept}
use Rattle.pg_completions.proofs.Picks.{with_reply, quiet_queue}
use Rattle.pg_completions.proofs.Taken.{silent_kept, IsTaken, data_taken, sends_none, granted_not_due, own_acks}

-- the line with its data, and what it needs
abbrev pub parted : Line → ℕ → Tag → ℕ → ℕ → ℕ → Line
parted l s t v cnt k = record l { desc = Ask Store s A t; word = v; stamp = k; need = Some cnt }

abbrev pub with_part : Core → ℕ → Tag → ℕ → ℕ → ℕ → Core
with_part x s t v cnt k = record { line = parted x.line s t v cnt k; left = x.left; slot = None; queue = x.queue }

-- what is done then, which leads to an orderly world
abbrev pub IsParted : Draft → ℕ → World → (ℕ → Mark) → ℕ → ℕ → Tag → ℕ → ℕ → ℕ → ℕ → ℕ → ℕ → Choice → Type 0
IsParted d n w m c s t i r v cnt k seen ch =
    (result_of d ch (received_reply d (core w c).line (Data r c v cnt k)) (core w c).line (core w c).slot ≡ record { line = parted (core w c).line s t v cnt k; slot = None; replies = []; done = None })
    × IsOrderly d n (with_reply w c i (result_of d ch (received_reply d (core w c).line (Data r c v cnt k)) (core w c).line (core w c).slot)) (marked c (record { seen = seen; last = (m c).last }) m)

pub part_turns : (d : Draft) (n : ℕ) (w : World) (m : ℕ → Mark) (c s : ℕ) (ph : Phase) (t : Tag) (i r v cnt k seen : ℕ) (ch : Choice) → IsWellFormed d → IsShaped d → c < n → IsOrderly d n w m
    → slice_get w.replies i ≡ Some (Data r c v cnt k) → (core w c).line.desc ≡ Ask Store s ph t → (core w c).slot ≡ None → ch ≡ record { acts = act.Fill ∷ act.Need ∷ []; next = Ask Store s A t }
    → IsEven d (order_of d w) (view_of w m) (view_of (moved c (with_part (core w c) s t v cnt k) (remove w.replies i) (w.done ++ []) w) (marked c (record { seen = seen; last = (m c).last }) m)) c
    → IsPlaced d (order_of d w) c (with_part (core w c) s t v cnt k) (record { seen = seen; last = (m c).last })
    → IsParted d n w m c s t i r v cnt k seen ch
part_turns d n w m c s ph t i r v cnt k seen ch wf sh low o get desc slot is even placed = (
  effect,
  subst (λ a. IsOrderly d n (with_reply w c i a) marks) (sym effect) (silent_kept d n w c i e marks refl (turns_kept d n w m c seen y rs (w.done ++ []) wf sh low o (record {
    even = even;
    opened = λ j is un. absurd (let same : z.entry ≡ j = (let at_it = z.last in omega (arith, is, at_it)) in let served = subst (λ j. is_unserved d p (view_of w m) j ≡ false) same z.served in cc (un, served));
    owing = λ j x g is in_it sends class lt. refl;
    placed = placed;
    promised = promised_removed d p (λ z. (m z).last) n w.replies i o.promised;
    own = record {
      filled = gone.none ∙ ap (λ b. cond {A = ℕ} b 1 0) (sym (granted_not_due d p u y (u.last c) refl));
      acks = own_acks p (view_of w m) u c (core w c) y (tally_acks) (now_acks) (even.last c) (sym waited) (sym (ap is_storing desc)) refl (gone.acks c) owes (o.answered c low).acks;
    };
    data_as = gone.others;
    acks_as = λ x ne. gone.acks x;
    wbs = gone.wbs;
  }))),
)
  where
    p : DirOrder
    p = order_of d w

    l : Line
    l = (core w c).line

    met : Received
    met = received_reply d l (Data r c v cnt k)

    e : LineResult
    e = record { line = parted l s t v cnt k; slot = None; replies = []; done = None }

    y : Core
    y = with_part (core w c) s t v cnt k

    rs : List Reply
    rs = remove w.replies i

    marks : ℕ → Mark
    marks = marked c (record { seen = seen; last = (m c).last }) m

    u : View
    u = view_of (moved c y rs (w.done ++ []) w) marks

    k0 : IsKnown d n p
    k0 = known d n p wf sh o.past

    pl : IsPlaced d p c (core w c) (m c)
    pl = o.placed c low

    z : IsDatum d n w m c r cnt
    z = datum d n w m i r c v cnt k wf sh o get

    gone : IsTaken w c i
    gone = data_taken d n w m i r c v cnt k low o get

    waited : is_pending (core w c) ≡ true
    waited = rw (desc, slot) refl

    tally_acks : ℕ
    tally_acks = Rattle.pg_order.specs.Messages.tally (Rattle.pg_orderly.specs.Orderly.is_ack_to c) w.replies

    now_acks : ℕ
    now_acks = Rattle.pg_order.specs.Messages.tally (Rattle.pg_orderly.specs.Orderly.is_ack_to c) rs

    owes : (j : ℕ) → (is_pending (core w c) && is_storing l.desc) ≡ true → (m c).last ≡ suc j → Rattle.pg_order.specs.Views.acks_owed p u j ≡ Rattle.pg_order.specs.Views.acks_owed p (view_of w m) j
    owes j store last =
        let upto = pl.last_low in
        owed_even d n p (view_of w m) u c sh k0 even j (omega (arith, last, upto)) (storing_is d p c l (m c) l.desc (core w c).slot pl.line store j last)

    effect : result_of d ch met l (core w c).slot ≡ e
    effect = ap (result_of d ch met l) slot ∙ ap (λ (ch : Choice). result_of d ch met l None) is

-- from ahead
pub part_ahead : (d : Draft) (n : ℕ) (w : World) (m : ℕ → Mark) (c s : ℕ) (ph : Phase) (t : Tag) (i r v cnt k : ℕ) (ch : Choice) → IsWellFormed d → IsShaped d → c < n → IsOrderly d n w m
    → slice_get w.replies i ≡ Some (Data r c v cnt k) → (core w c).line.desc ≡ Ask Store s ph t → (core w c).slot ≡ None → HasPending (core w c).line Store → (cnt == (core w c).line.got) ≡ false
    → ch ≡ record { acts = act.Fill ∷ act.Need ∷ []; next = Ask Store s A t } → IsAhead d (order_of d w) c (core w c).line (m c) Store s ph t
    → IsParted d n w m c s t i r v cnt k (m c).seen ch
part_ahead d n w m c s ph t i r v cnt k ch wf sh low o get desc slot pends short is a =
    let waited : is_pending (core w c) ≡ true = rw (desc, slot) refl in
    let same : z.entry ≡ a.ordered.entry = (let last = a.ordered.last in let at_it = z.last in omega (arith, last, at_it)) in
    let count : cnt ≡ acks_needed (p.dir_entry a.ordered.entry) (p.at a.ordered.entry) = subst (λ j. cnt ≡ acks_needed (p.dir_entry j) (p.at j)) same z.count in
    let apart : cnt ≢ (core w c).line.got = eqb-false cnt (core w c).line.got short in
    part_turns d n w m c s ph t i r v cnt k (m c).seen ch wf sh low o get desc slot is
    (even_same d p (view_of w m) (view_of (moved c y rs (w.done ++ []) w) marks) c (m c).seen true (viewed w m c (m c).seen y rs (w.done ++ []) inside) refl (sym waited))
    (record {
      last_low = pl.last_low;
      last_own = pl.last_own;
      last_is = pl.last_is;
      touched = pl.touched;
      gap = pl.gap;
      rest = pl.rest;
      upto = pl.upto;
      queue = pl.queue;
      line = (
        pends,
        record {
          ordered = record { entry = a.ordered.entry; last = a.ordered.last; event = a.ordered.event };
          past = a.past;
          upto = a.upto;
          state = a.state;
          phase = (refl, (phase_lacks d Store s ph sh a.phase).1);
          tag = a.tag;
          deferred = a.deferred;
          need = (ap Some count, λ e. apart (count ∙ sym e));
        },
      );
    })
  where
    p : DirOrder
    p = order_of d w

    y : Core
    y = with_part (core w c) s t v cnt k

    rs : List Reply
    rs = remove w.replies i

    marks : ℕ → Mark
    marks = marked c (record { seen = (m c).seen; last = (m c).last }) m

    inside : c < length w.cores
    inside = let same = o.cores in omega (arith, same, low)

    pl : IsPlaced d p c (core w c) (m c)
    pl = o.placed c low

    z : IsDatum d n w m c r cnt
    z = datum d n w m i r c v cnt k wf sh o get

-- from level
pub part_level : (d : Draft) (n : ℕ) (w : World) (m : ℕ → Mark) (c s : ℕ) (ph : Phase) (t : Tag) (i r v cnt k : ℕ) (ch : Choice) → IsWellFormed d → IsShaped d → c < n → IsOrderly d n w m
    → slice_get w.replies i ≡ Some (Data r c v cnt k) → (core w c).line.desc ≡ Ask Store s ph t → (core w c).slot ≡ None → HasPending (core w c).line Store → (cnt == (core w c).line.got) ≡ false
    → ch ≡ record { acts = act.Fill ∷ act.Need ∷ []; next = Ask Store s A t } → t ≡ Plain → IsAsking d (order_of d w) c (core w c).line (m c) Store s ph t false
    → IsParted d n w m c s t i r v cnt k (m c).last ch
part_level d n w m c s ph t i r v cnt k ch wf sh low o get desc slot pends short is plain a =
    let waited : is_pending (core w c) ≡ true = rw (desc, slot) refl in
    let last = a.2.last in
    let behind = a.3 in
    let low_last = pl.last_low in
    let same : z.entry ≡ a.2.entry = (let at_it = z.last in omega (arith, last, at_it)) in
    let count : cnt ≡ acks_needed (p.dir_entry a.2.entry) (p.at a.2.entry) = subst (λ j. cnt ≡ acks_needed (p.dir_entry j) (p.at j)) same z.count in
    let apart : cnt ≢ (core w c).line.got = eqb-false cnt (core w c).line.got short in
    let (rest, more, queue) = quiet_queue (entry_message d p c) (m c).seen (m c).last pl.rest p.top (core w c).queue (omega (arith, behind)) low_last pl.upto pl.queue quiet in
    part_turns d n w m c s ph t i r v cnt k (m c).last ch wf sh low o get desc slot is
    (even_last d p (view_of w m) (view_of (moved c y rs (w.done ++ []) w) marks) c (m c).last true (viewed w m c (m c).last y rs (w.done ++ []) inside) refl waited
    (λ j lo hi. sends_none d p c j (quiet j lo hi)) (λ j f lo hi sends inv. absurd (omega (arith, lo, hi, behind))))
    (record {
      last_low = pl.last_low;
      last_own = pl.last_own;
      last_is = pl.last_is;
      touched = λ j e. inl (pl.last_own j e);
      gap = λ j b own. omega (arith, b);
      rest = rest;
      upto = more;
      queue = queue;
      line = (
        pends,
        record {
          ordered = record { entry = a.2.entry; last = last; event = a.2.event };
          past = 0;
          upto = omega arith;
          state = fits_at d n p k0 c (core w c) (m c) a.2.entry s pl (omega (arith, last, behind)) (omega (arith, last, low_last)) (λ j lo hi. quiet j lo (omega (arith, hi, last))) (inr (omega (arith, last))) a.0.state;
          phase = (refl, (begins_lacks d Store s ph sh a.1).1);
          tag = ap Some (sym plain);
          deferred = a.0.deferred;
          need = (ap Some count, λ e. apart (count ∙ sym e));
        },
      );
    })
  where
    p : DirOrder
    p = order_of d w

    y : Core
    y = with_part (core w c) s t v cnt k

    rs : List Reply
    rs = remove w.replies i

    marks : ℕ → Mark
    marks = marked c (record { seen = (m c).last; last = (m c).last }) m

    inside : c < length w.cores
    inside = let same = o.cores in omega (arith, same, low)

    k0 : IsKnown d n p
    k0 = known d n p wf sh o.past

    pl : IsPlaced d p c (core w c) (m c)
    pl = o.placed c low

    z : IsDatum d n w m c r cnt
    z = datum d n w m i r c v cnt k wf sh o get

    quiet : (j : ℕ) → (m c).seen ≤ j → j < (m c).last → entry_message d p c j ≡ None
    quiet = data_quiet d n w m i r c v cnt k wf sh o get
