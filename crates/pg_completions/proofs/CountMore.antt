-- An acknowledgement that isn't the last is counted.
use Rattle.std.proofs.Common.{◌≡◌, ℕ, suc, ◌+◌, ◌<◌, arith, Bool, true, false, ◌&&◌, cond, List, [], ◌∷◌, ◌++◌, length, Some, None, refl, sym, ap, subst, ◌∙◌}
use Rattle.std.specs.Prelude.{slice_get}
use Rattle.std.specs.List.{remove}
use Rattle.std.proofs.lemmas.Bool.{eq-eqb}
use Rattle.pg_perm.specs.declared.kinds.Event.TheVariants.{Store}
use Rattle.pg_perm.specs.declared.draft.Draft.{Draft}
use Rattle.pg_perm.specs.Drafts.{IsWellFormed}
use Rattle.pg_terms.specs.Terms.{is}
use Rattle.pg_shape.specs.Shaped.{IsShaped}
use Rattle.pg_table.specs.declared.cache.Desc.TheVariants.{Ask}
use Rattle.pg_table.specs.declared.cache.Phase.{Phase}
use Rattle.pg_table.specs.declared.cache.Phase.TheVariants.{D, Ad, Ac, A}
use Rattle.pg_table.specs.declared.cache.Tag.{Tag}
use Rattle.pg_table.specs.declared.cache.Act.TheVariants as act
use Rattle.pg_table.specs.Choices.{Choice}
use Rattle.pg_order.specs.Messages.{tally}
use Rattle.pg_order.specs.Orders.{DirOrder, acks_needed}
use Rattle.pg_order.specs.Views.{View, is_unserved, acks_owed}
use Rattle.pg_order.proofs.Known.{IsKnown, known}
use Rattle.pg_messages.specs.declared.messages.Reply.{Reply}
use Rattle.pg_messages.specs.declared.messages.Reply.TheVariants.{InvAck}
use Rattle.pg_controllers.specs.Networks.{Line, Core}
use Rattle.pg_controllers.specs.Lines.{Received, LineResult, result_of, received_reply}
use Rattle.pg_controllers.specs.Worlds.{World, core, order_of}
use Rattle.pg_orderly.specs.Orderly.{Mark, is_pending, view_of, HasPending, IsNeed, IsAhead, is_ahead, IsAsking, IsPlaced, is_storing, is_granted, is_ack_to, is_data_due, AddUp, AcksAre, IsOrderly}
use Rattle.pg_orderly.proofs.Keeping.{marked, moved, due_same}
use Rattle.pg_orderly.proofs.Acks.{asking_is}
use Rattle.pg_orderly.proofs.Filled.{promised_removed}
use Rattle.pg_safe.proofs.Waiting.{adds_up}
use Rattle.pg_completions.proofs.Even.{IsEven, unserved_even, owed_even, even_same}
use Rattle.pg_completions.proofs.Turn.{viewed, turns_kept}
use Rattle.pg_completions.proofs.Picks.{with_reply}
use Rattle.pg_completions.proofs.Taken.{silent_kept, IsAcked, ack_taken}

abbrev pub counted : Line → ℕ → Phase → Tag → Line
counted l s ph t = record l { desc = Ask Store s ph t; got = suc l.got }

need_more : (ph : Phase) (n s : ℕ) (t : Tag) (l : Line) → is l.need (suc l.got) ≡ false → IsNeed ph n l → IsNeed ph n (counted l s ph t)
need_more D n s t l more h = h
need_more Ad n s t l more h = h
need_more Ac n s t l more h = h
need_more A n s t l more h = (
  h.0,
  λ e.
      let same : is (Some n) (suc l.got) ≡ true = eq-eqb n (suc l.got) (sym e) in
      let not_it : is (Some n) (suc l.got) ≡ false = ap (λ o. is o (suc l.got)) (sym h.0) ∙ more in cc (same, not_it),
)

pub more_kept : (d : Draft) (n : ℕ) (w : World) (m : ℕ → Mark) (c s : ℕ) (ph : Phase) (t : Tag) (i k : ℕ) (ch : Choice) → IsWellFormed d → IsShaped d → c < n → IsOrderly d n w m
    → slice_get w.replies i ≡ Some (InvAck c k) → (core w c).line.desc ≡ Ask Store s ph t → (core w c).slot ≡ None → is (core w c).line.need (suc (core w c).line.got) ≡ false
    → HasPending (core w c).line Store → IsAsking d (order_of d w) c (core w c).line (m c) Store s ph t (is_ahead ph t)
    → ch ≡ record { acts = act.Count ∷ []; next = Ask Store s ph t }
    → (result_of d ch (received_reply d (core w c).line (InvAck c k)) (core w c).line (core w c).slot ≡ record { line = counted (core w c).line s ph t; slot = None; replies = []; done = None })
    × IsOrderly d n (with_reply w c i (result_of d ch (received_reply d (core w c).line (InvAck c k)) (core w c).line (core w c).slot)) (marked c (record { seen = (m c).seen; last = (m c).last }) m)
more_kept d n w m c s ph t i k ch wf sh low o get desc slot more pends asking is_it = (
  effect,
  subst (λ a. IsOrderly d n (with_reply w c i a) marks) (sym effect) (silent_kept d n w c i e marks refl (turns_kept d n w m c (m c).seen y rs (w.done ++ []) wf sh low o (record {
    even = even;
    opened = λ j is un. (refl, sym grants ∙ ungranted j is un);
    owing = λ j x g is in_it sends class lt. refl;
    placed = record {
      last_low = pl.last_low;
      last_own = pl.last_own;
      last_is = pl.last_is;
      touched = pl.touched;
      gap = pl.gap;
      rest = pl.rest;
      upto = pl.upto;
      queue = pl.queue;
      line = (pends, asks (is_ahead ph t) asking);
    };
    promised = promised_removed d p (λ z. (m z).last) n w.replies i o.promised;
    own = record {
      filled = gone.data_as c ∙ (o.answered c low).filled ∙ ap (λ b. cond {A = ℕ} b 1 0) (sym (due_same d p v u (core w c) y (m c).last (sym waited) (sym grants) (λ j is. unserved_even d p v u c even j)))
          ∙ ap (λ k. cond {A = ℕ} (is_data_due d p u y k) 1 0) (sym (even.last c));
      acks = subst (AddUp p u y (tally (is_ack_to c) rs)) (sym (even.last c ∙ entry.last)) sum;
    };
    data_as = λ x ne. gone.data_as x;
    acks_as = gone.others;
    wbs = gone.wbs;
  }))),
)
  where
    p : DirOrder
    p = order_of d w

    l : Line
    l = (core w c).line

    met : Received
    met = received_reply d l (InvAck c k)

    e : LineResult
    e = record { line = counted l s ph t; slot = None; replies = []; done = None }

    y : Core
    y = record { line = counted l s ph t; left = (core w c).left; slot = None; queue = (core w c).queue }

    rs : List Reply
    rs = remove w.replies i

    marks : ℕ → Mark
    marks = marked c (record { seen = (m c).seen; last = (m c).last }) m

    v : View
    v = view_of w m

    u : View
    u = view_of (moved c y rs (w.done ++ []) w) marks

    inside : c < length w.cores
    inside = let same = o.cores in omega (arith, same, low)

    k0 : IsKnown d n p
    k0 = known d n p wf sh o.past

    pl : IsPlaced d p c (core w c) (m c)
    pl = o.placed c low

    gone : IsAcked w c i
    gone = ack_taken w i c k get

    waited : is_pending (core w c) ≡ true
    waited = rw (desc, slot) refl

    stores : is_storing l.desc ≡ true
    stores = ap is_storing desc

    grants : is_granted l.desc ≡ is_granted (Ask Store s ph t)
    grants = ap is_granted desc

    even : IsEven d p v u c
    even = even_same d p v u c (m c).seen true (viewed w m c (m c).seen y rs (w.done ++ []) inside) refl (sym waited)

    entry : Rattle.pg_orderly.specs.Orderly.IsOrdered p (m c) Store
    entry = asking_is d p c l (m c) Store s ph t (is_ahead ph t) asking

    entry_low : entry.entry < p.top
    entry_low = let last = entry.last in let upto = pl.last_low in omega (arith, last, upto)

    ungranted : (j : ℕ) → (m c).last ≡ suc j → is_unserved d p v j ≡ true → is_granted l.desc ≡ false
    ungranted j is un =
        let upto = pl.last_low in
        subst (λ z. is_granted (core w z).line.desc ≡ false) (pl.last_own j is) (o.ungranted j (omega (arith, is, upto)) un)

    sum : acks_needed (p.dir_entry entry.entry) (p.at entry.entry) ≡ suc l.got + tally (is_ack_to c) rs + acks_owed p u entry.entry
    sum =
        let all = adds_up p v (core w c) (tally (is_ack_to c) w.replies) (m c).last entry.entry (is_pending (core w c) && is_storing l.desc) (o.answered c low).acks (rw (waited, stores) refl) entry.last in
        let one = gone.own in
        let same = owed_even d n p v u c sh k0 even entry.entry entry_low entry.event in
        omega (arith, all, one, same)

    asks : (b : Bool) → IsAsking d p c l (m c) Store s ph t b → IsAsking d p c (counted l s ph t) (m c) Store s ph t b
    asks true a = record {
      ordered = a.ordered;
      past = a.past;
      upto = a.upto;
      state = a.state;
      phase = a.phase;
      tag = a.tag;
      deferred = a.deferred;
      need = need_more ph (acks_needed (p.dir_entry a.ordered.entry) (p.at a.ordered.entry)) s t l more a.need;
    }
    asks false a = (record { need = a.0.need; deferred = a.0.deferred; state = a.0.state }, a.1, a.2, a.3)

    effect : result_of d ch met l (core w c).slot ≡ e
    effect = ap (result_of d ch met l) slot ∙ ap (λ (ch : Choice). result_of d ch met l None) is_it
