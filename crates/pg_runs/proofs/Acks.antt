-- An acknowledgement or a count, by whatever row, and an invalidation that a load acknowledges early: all is kept that goes along a run.
use Rattle.std.proofs.Common.{◌≡◌, ℕ, suc, ◌<◌, arith, Bool, true, false, List, [], ◌∷◌, ◌++◌, length, Some, None, refl, sym, ap, subst, ◌∙◌, inl, inr, append-nil}
use Rattle.std.specs.Prelude.{◌==◌, slice_get}
use Rattle.std.specs.List.{remove}
use Rattle.pg_perm.specs.declared.kinds.Event.TheVariants.{Load, Store}
use Rattle.pg_perm.specs.declared.kinds.FwdClass.TheVariants.{Inv}
use Rattle.pg_perm.specs.declared.kinds.Op.{Op}
use Rattle.pg_perm.specs.declared.kinds.Op.TheVariants as op
use Rattle.pg_perm.specs.declared.draft.Draft.{Draft}
use Rattle.pg_perm.specs.declared.draft.ReplyName.TheVariants as named
use Rattle.pg_perm.specs.Drafts.{IsWellFormed}
use Rattle.pg_terms.specs.Terms.{has_class}
use Rattle.pg_terms.specs.Rows.{final_state}
use Rattle.pg_shape.specs.Shaped.{IsShaped}
use Rattle.pg_table.specs.declared.cache.Act.TheVariants as act
use Rattle.pg_table.specs.declared.cache.Desc.TheVariants.{Stable, Ask}
use Rattle.pg_table.specs.declared.cache.Phase.{Phase}
use Rattle.pg_table.specs.declared.cache.Phase.TheVariants.{D, Ac, A}
use Rattle.pg_table.specs.declared.cache.Tag.{Tag}
use Rattle.pg_table.specs.declared.cache.Tag.TheVariants.{Plain}
use Rattle.pg_table.specs.Tables.{TableState}
use Rattle.pg_table.specs.Descriptors.{final_states}
use Rattle.pg_table.specs.Choices.{Choice, store_final}
use Rattle.pg_table.specs.Pick.{pick as picked}
use Rattle.pg_table.specs.Sound.{IsSoundCache}
use Rattle.pg_messages.specs.declared.messages.Ordered.{Ordered}
use Rattle.pg_messages.specs.declared.messages.Ordered.TheVariants.{Forward, AckCount}
use Rattle.pg_order.specs.Orders.{own_message, acks_needed}
use Rattle.pg_directory.specs.Requests.{action_of}
use Rattle.pg_perm.specs.declared.draft.Action.TheVariants as action
use Rattle.pg_messages.specs.declared.messages.Finished.TheVariants as finish
use Rattle.pg_controllers.specs.Networks as net
use Rattle.pg_messages.specs.declared.messages.Reply.TheVariants.{InvAck}
use Rattle.pg_controllers.specs.Networks.{Line, event_of}
use Rattle.pg_controllers.specs.Lines.{Received, LineResult, complete, goes_to, serve, result_of, received_reply, received_ordered, is_gone}
use Rattle.pg_messages.specs.declared.messages.DoneEntry.{DoneEntry}
use Rattle.pg_messages.specs.declared.messages.WorldEvent.TheVariants.{Reply as Reply_at, Ordered as Ordered_to}
use Rattle.pg_controllers.specs.Worlds.{World, core, order_of, done_of, move, is_enabled}
use Rattle.pg_orderly.specs.Orderly.{Mark, is_pending, is_ahead, IsAsking, IsLined, IsOrderly}
use Rattle.pg_orderly.proofs.Effects.{starts}
use Rattle.pg_orderly.proofs.Keeping.{marked, moved}
use Rattle.pg_orderly.proofs.Rows.{IsEnd}
use Rattle.pg_safe.specs.Moving.{IsComplete}
use Rattle.pg_safe.proofs.Ends.{begins_lacks}
use Rattle.pg_safe.proofs.Heads.{IsHead, head_of, from_whom, own_last}
use Rattle.pg_safe.proofs.Race.{plain_of}
use Rattle.pg_safe.proofs.Sides.{answers_it}
use Rattle.pg_refined.specs.Kept.{IsRefined}
use Rattle.pg_refined.proofs.Granted.{IsJoined, joined}
use Rattle.pg_refined.proofs.Asks.{lacks_nothing}
use Rattle.pg_refined.proofs.Counts.{IsUpgraded, upgrade_told}
use Rattle.pg_refined.proofs.Parts.{counted_told, upgraded_told}
use Rattle.pg_refined.proofs.Records.{upgrade_of}
use Rattle.pg_refined.proofs.Taken.{makes_store, makes_no_other, takes_none, takes_done}
use Rattle.pg_refined.proofs.Whole.{count_served, acked, acked_told}
use Rattle.pg_completions.proofs.Counted.{IsCounting, with_message}
use Rattle.pg_completions.proofs.Ending.{rests}
use Rattle.pg_completions.proofs.Picks.{with_reply}
use Rattle.pg_completions.proofs.CountMore.{counted, more_kept}
use Rattle.pg_completions.proofs.CountLast.{IsLastCount, last_line, last_kept}
use Rattle.pg_completions.proofs.AckKept.{AckCase, More, Last, ack_case}
use Rattle.pg_completions.proofs.CountKept.{CountCase, All, Short, upgrade_kept, upgrade_part, count_case}
use Rattle.pg_completions.proofs.Early.{IsEarly, acknowledged}
use Rattle.pg_completions.proofs.EarlyKept.{early_case}
use Rattle.pg_runs.specs.Headline.{IsRefinedWorld}
use Rattle.pg_runs.proofs.Moves.{moved_true, still_true}
use Rattle.pg_runs.proofs.Served.{served_as, served_true}

-- An acknowledgement

pub more_true : (d : Draft) (given : List (List Op)) (w : World) (m : ℕ → Mark) (c s : ℕ) (ph : Phase) (t : Tag) (i k : ℕ) (ch : Choice) → IsWellFormed d → IsShaped d → c < length given → IsRefined d given w m
    → (core w c).line.desc ≡ Ask Store s ph t → (core w c).slot ≡ None
    → (result_of d ch (received_reply d (core w c).line (InvAck c k)) (core w c).line (core w c).slot ≡ record { line = counted (core w c).line s ph t; slot = None; replies = []; done = None })
    × IsOrderly d (length given) (with_reply w c i (result_of d ch (received_reply d (core w c).line (InvAck c k)) (core w c).line (core w c).slot)) (marked c (record { seen = (m c).seen; last = (m c).last }) m)
    → IsRefinedWorld d given (with_reply w c i (result_of d ch (received_reply d (core w c).line (InvAck c k)) (core w c).line (core w c).slot))
more_true d given w m c s ph t i k ch wf sh low h desc slot (effect, ok) = (
  marks,
  subst (λ z. IsRefined d given z marks) (sym world)
      (still_true d given w m c y (remove w.replies i) marks h low (λ v a full brings. cc full) (takes_none w c y refl refl) (subst (λ z. IsOrderly d (length given) z marks) world ok)
      (counted_told d (length given) w m c i k s ph t y (joined d (length given) w m wf sh h.orderly h.flags) low desc slot refl refl refl refl h.faithful)),
)
  where
    marks : ℕ → Mark
    marks = marked c (record { seen = (m c).seen; last = (m c).last }) m

    y : net.Core
    y = record { line = counted (core w c).line s ph t; left = (core w c).left; slot = None; queue = (core w c).queue }

    world : with_reply w c i (result_of d ch (received_reply d (core w c).line (InvAck c k)) (core w c).line (core w c).slot) ≡ moved c y (remove w.replies i) w.done w
    world = ap (with_reply w c i) effect ∙ ap (λ rs. moved c y rs (w.done ++ []) w) (append-nil (remove w.replies i)) ∙ ap (λ dn. moved c y (remove w.replies i) dn w) (append-nil w.done)

pub last_true : (d : Draft) (given : List (List Op)) (w : World) (m : ℕ → Mark) (c s : ℕ) (t : Tag) (i k : ℕ) (ch : Choice) (fin state : ℕ) (o : Op) → IsWellFormed d → IsShaped d → c < length given → IsRefined d given w m
    → slice_get w.replies i ≡ Some (InvAck c k) → (core w c).line.desc ≡ Ask Store s A t → (core w c).slot ≡ None → (core w c).line.pending ≡ Some o → event_of o ≡ Store → store_final (final_states d s Store) ≡ Some fin
    → IsLastCount d (length given) w m c i k ch fin state o → IsRefinedWorld d given (with_reply w c i (result_of d ch (received_reply d (core w c).line (InvAck c k)) (core w c).line (core w c).slot))
last_true d given w m c s t i k ch fin state op.Load wf sh low h get desc slot pending is ends it = cc is
last_true d given w m c s t i k ch fin state op.Evict wf sh low h get desc slot pending is ends it = cc is
last_true d given w m c s t i k ch fin state (op.Store x) wf sh low h get desc slot pending is ends it =
    let (u, ok) = served_true d given w m c a fin state l.deferred (core w c).queue (remove w.replies i) es (op.Store x) h low refl refl refl pending (makes_store c l.stamp x late) (λ e other. makes_no_other c e l.stamp (finish.Store x) late other)
    it.off it.leads (count_served d n w m c s t i k fin x late (joined d n w m wf sh h.orderly h.flags) low (record { desc = desc; slot = slot; reply = get; final = ends }) it.off
    (subst (λ dn. IsOrderly d n (moved c (rests fin (core w c) a (l.deferred ++ (core w c).queue)) (remove w.replies i) (w.done ++ dn) w) (marked c (record { seen = (m c).last; last = (m c).last }) m)) (sym once) it.back) h.faithful) in (
      u,
      subst (λ z. IsRefined d given z u)
          (ap (λ dn. moved c (rests state (core w c) (serve d fin l.deferred a) (core w c).queue) (remove w.replies i ++ (serve d fin l.deferred a).replies) (w.done ++ dn) w) once ∙ ap (with_reply w c i) (sym it.effect)) ok,
    )
  where
    n : ℕ
    n = length given

    l : Line
    l = (core w c).line

    late : Bool
    late = is_gone l.desc

    a : LineResult
    a = last_line (op.Store x) (received_reply d l (InvAck c k)) l

    es : List DoneEntry
    es = record { stamp = l.stamp; core = c; fin = finish.Store x; late = late } ∷ []

    once : es ≡ done_of c (serve d fin l.deferred a).done
    once = ap (done_of c) (sym (served_as d fin l.deferred a).done)

pub ack_true : (d : Draft) (t : List TableState) (given : List (List Op)) (w : World) (m : ℕ → Mark) (i c k : ℕ) → IsWellFormed d → IsShaped d → IsSoundCache d t → IsRefined d given w m → IsComplete t (length given) w
    → slice_get w.replies i ≡ Some (InvAck c k) → IsRefinedWorld d given (move d (picked t) w (Reply_at i))
ack_true d t given w m i c k wf sh sound h full get =
    let (low, ch, one, moves) = ack_case d t n w m i c k wf sh sound h.orderly full get in
    let (u, ok) = by low ch one in (u, subst (λ z. IsRefined d given z u) (sym moves) ok)
  where
    n : ℕ
    n = length given

    by : c < n → (ch : Choice) → AckCase d n w m i c k ch → IsRefinedWorld d given (with_reply w c i (result_of d ch (received_reply d (core w c).line (InvAck c k)) (core w c).line (core w c).slot))
    by low ch (More s ph tg desc slot short pends asking is) =
        more_true d given w m c s ph tg i k ch wf sh low h desc slot (more_kept d n w m c s ph tg i k ch wf sh low h.orderly get desc slot short pends asking is)
    by low ch (Last s tg desc slot it pends a end) =
        last_true d given w m c s tg i k ch end.final end.state pends.0 wf sh low h get desc slot pends.1 pends.2 end.from (last_kept d n w m c s tg i k ch wf sh low h.orderly get desc slot it pends a end)

-- A count

-- its head
counted_head : (d : Draft) (n : ℕ) (w : World) (m : ℕ → Mark) (c cnt k : ℕ) (ms : List Ordered) → c < n → IsOrderly d n w m → (core w c).queue ≡ AckCount cnt k ∷ ms → (h : IsCounting d n w m c cnt k ms) → IsHead d (order_of d w) c (m c) h.entry (AckCount cnt k)
counted_head d n w m c cnt k ms low o queue h =
    let pl = o.placed c low in
    let (g, hd) = head_of d (order_of d w) c (core w c) (m c) (AckCount cnt k) ms pl queue in
    let same : g ≡ h.entry = elim (from_whom d (order_of d w) c g (AckCount cnt k) hd.sends) [
      | inl mine ↦ let last = own_last d (order_of d w) c (core w c) (m c) g pl hd.from hd.inside mine.0 in let here = h.last in omega (arith, last, here)
      | inr theirs ↦ absurd (let is = theirs.4 in cc is)
    ] in
    subst (λ g. IsHead d (order_of d w) c (m c) g (AckCount cnt k)) same hd

pub all_true : (d : Draft) (given : List (List Op)) (w : World) (m : ℕ → Mark) (c cnt k : ℕ) (ms : List Ordered) (ch : Choice) → IsWellFormed d → IsShaped d → c < length given → IsRefined d given w m
    → (core w c).queue ≡ AckCount cnt k ∷ ms → (h : IsCounting d (length given) w m c cnt k ms) → h.ph ≡ Ac → (cnt == (core w c).line.got) ≡ true → IsEnd d Plain [] (final_state d h.s Store named.AckCount) ch
    → IsRefinedWorld d given (with_message w c ms (result_of d ch (received_ordered (core w c).line (AckCount cnt k)) (core w c).line (core w c).slot))
all_true d given w m c cnt k ms ch wf sh low t queue h ac all end = by h.pends.0 h.pends.1 h.pends.2 (upgrade_kept d n w m c cnt k ms ch wf sh low t.orderly h all end)
  where
    n : ℕ
    n = length given

    l : Line
    l = (core w c).line

    met : Received
    met = received_ordered l (AckCount cnt k)

    late : Bool
    late = is_gone l.desc

    marks : ℕ → Mark
    marks = marked c (record { seen = suc h.entry; last = (m c).last }) m

    b : IsJoined d n w m
    b = joined d n w m wf sh t.orderly t.flags

    up : IsUpgraded d w m c h.s cnt k end.final h.entry
    up = upgrade_of d n w m c h.s cnt k end.final h.entry b low (h.desc ∙ ap (λ ph. Ask Store h.s ph h.t) ac ∙ ap (Ask Store h.s Ac) h.plain) h.slot (counted_head d n w m c cnt k ms low t.orderly queue h) end.from

    by : (o : Op) → l.pending ≡ Some o → event_of o ≡ Store
        → (result_of d ch met l (core w c).slot ≡ goes_to (Stable end.final) (complete o met (starts l None))) × IsOrderly d n (with_message w c ms (result_of d ch met l (core w c).slot)) marks
        → IsRefinedWorld d given (with_message w c ms (result_of d ch met l (core w c).slot))
    by op.Load pending is kept = cc is
    by op.Evict pending is kept = cc is
    by (op.Store x) pending is (effect, ok) = (
      marks,
      subst (λ z. IsRefined d given z marks) (sym world)
          (moved_true d given w m c y w.replies es marks t low (λ v a full brings. cc full)
          (takes_done w c y (op.Store x) es pending refl refl (makes_store c k x late) (λ e other. makes_no_other c e k (finish.Store x) late other)) (subst (λ z. IsOrderly d n z marks) world ok)
          (upgrade_told d n w m c h.s cnt k end.final x h.entry late y b low up refl refl refl refl t.faithful)),
    )
      where
        es : List DoneEntry
        es = record { stamp = k; core = c; fin = finish.Store x; late = late } ∷ []

        y : net.Core
        y = record { line = (goes_to (Stable end.final) (complete (op.Store x) met (starts l None))).line; left = (core w c).left; slot = None; queue = ms }

        world : with_message w c ms (result_of d ch met l (core w c).slot) ≡ moved c y w.replies (w.done ++ es) w
        world = ap (with_message w c ms) effect ∙ ap (λ rs. moved c y rs (w.done ++ es) w) (append-nil w.replies)

pub short_true : (d : Draft) (given : List (List Op)) (w : World) (m : ℕ → Mark) (c cnt k : ℕ) (ms : List Ordered) (ch : Choice) → IsWellFormed d → IsShaped d → c < length given → IsRefined d given w m
    → (core w c).queue ≡ AckCount cnt k ∷ ms → (h : IsCounting d (length given) w m c cnt k ms) → h.ph ≡ Ac → (cnt == (core w c).line.got) ≡ false → ch ≡ record { acts = act.Need ∷ []; next = Ask Store h.s A Plain }
    → IsRefinedWorld d given (with_message w c ms (result_of d ch (received_ordered (core w c).line (AckCount cnt k)) (core w c).line (core w c).slot))
short_true d given w m c cnt k ms ch wf sh low t queue h ac short is =
    let (effect, ok) = upgrade_part d n w m c cnt k ms ch wf sh low t.orderly h short is in
    let world : with_message w c ms (result_of d ch (received_ordered l (AckCount cnt k)) l (core w c).slot) ≡ moved c y w.replies w.done w = ap (with_message w c ms) effect ∙ silent in (
      marks,
      subst (λ z. IsRefined d given z marks) (sym world)
          (still_true d given w m c y w.replies marks t low (λ v a full brings. cc full) (takes_none w c y refl refl) (subst (λ z. IsOrderly d n z marks) world ok)
          (upgraded_told d n w m c h.s cnt k h.entry y (joined d n w m wf sh t.orderly t.flags) low (record {
            desc = h.desc ∙ ap (λ ph. Ask Store h.s ph h.t) ac ∙ ap (Ask Store h.s Ac) h.plain;
            slot = h.slot;
            head = head;
            own = h.own;
            does = h.event;
            counts = h.counts;
            line = refl;
            word = refl;
            stamp = stamp;
            empty = refl;
          }) t.faithful)),
    )
  where
    n : ℕ
    n = length given

    l : Line
    l = (core w c).line

    marks : ℕ → Mark
    marks = marked c (record { seen = suc h.entry; last = (m c).last }) m

    head : IsHead d (order_of d w) c (m c) h.entry (AckCount cnt k)
    head = counted_head d n w m c cnt k ms low t.orderly queue h

    -- a count is stamped with its entry
    stamp : k ≡ suc h.entry
    stamp = elim (from_whom d (order_of d w) c h.entry (AckCount cnt k) head.sends) [ inl mine ↦ stamped (mine.1) | inr theirs ↦ absurd (let is = theirs.4 in cc is) ]
      where
        stamped : own_message ((order_of d w).at h.entry).event (action_of d ((order_of d w).dir_entry h.entry) ((order_of d w).at h.entry)) (acks_needed ((order_of d w).dir_entry h.entry) ((order_of d w).at h.entry)) (suc h.entry) ≡ Some (AckCount cnt k) → k ≡ suc h.entry
        stamped e = let so : own_message Store (Some action.Count) (acks_needed ((order_of d w).dir_entry h.entry) ((order_of d w).at h.entry)) (suc h.entry) ≡ Some (AckCount cnt k) =
            sym (ap (λ x. own_message x (action_of d ((order_of d w).dir_entry h.entry) ((order_of d w).at h.entry)) (acks_needed ((order_of d w).dir_entry h.entry) ((order_of d w).at h.entry)) (suc h.entry)) h.event
            ∙ ap (λ x. own_message Store x (acks_needed ((order_of d w).dir_entry h.entry) ((order_of d w).at h.entry)) (suc h.entry)) h.counts) ∙ e in cc so

    y : net.Core
    y = record { line = record l { desc = Ask Store h.s A Plain; need = Some cnt; stamp = k }; left = (core w c).left; slot = None; queue = ms }

    silent : moved c y (w.replies ++ []) (w.done ++ []) w ≡ moved c y w.replies w.done w
    silent = ap (λ rs. moved c y rs (w.done ++ []) w) (append-nil w.replies) ∙ ap (λ dn. moved c y w.replies dn w) (append-nil w.done)

pub count_true : (d : Draft) (t : List TableState) (given : List (List Op)) (w : World) (m : ℕ → Mark) (c cnt k : ℕ) (ms : List Ordered) → IsWellFormed d → IsShaped d → IsSoundCache d t → IsRefined d given w m → IsComplete t (length given) w
    → c < length given → (core w c).queue ≡ AckCount cnt k ∷ ms → IsRefinedWorld d given (move d (picked t) w (Ordered_to c))
count_true d t given w m c cnt k ms wf sh sound h full low queue =
    let (ch, one, moves) = count_case d t (length given) w m c cnt k ms wf sh sound h.orderly full low queue in
    let (u, ok) = by ch one in (u, subst (λ z. IsRefined d given z u) (sym moves) ok)
  where
    by : (ch : Choice) → CountCase d (length given) w m c cnt k ms ch → IsRefinedWorld d given (with_message w c ms (result_of d ch (received_ordered (core w c).line (AckCount cnt k)) (core w c).line (core w c).slot))
    by ch (All it ac all end) = all_true d given w m c cnt k ms ch wf sh low h queue it ac all end
    by ch (Short it ac short is) = short_true d given w m c cnt k ms ch wf sh low h queue it ac short is

-- An invalidation that a load acknowledges early

pub early_true : (d : Draft) (t : List TableState) (given : List (List Op)) (w : World) (m : ℕ → Mark) (c f r i k : ℕ) (ms : List Ordered) → IsWellFormed d → IsShaped d → IsSoundCache d t → IsRefined d given w m → IsComplete t (length given) w
    → c < length given → (core w c).queue ≡ Forward f r i k ∷ ms → has_class Inv d f ≡ true → is_pending (core w c) ≡ true → answers_it d (core w c).line.desc f ≡ false → is_enabled (picked t) w (Ordered_to c) ≡ true
    → IsRefinedWorld d given (move d (picked t) w (Ordered_to c))
early_true d t given w m c f r i k ms wf sh sound h full low queue inv pend answers on =
    let (s, tg, it, moves) = early_case d t n w m c f r i k ms wf sh sound h.orderly full low queue inv pend answers on in
    let (g, ok, from, inside, quiet, sends) = acknowledged d n w m c s tg f r i k ms wf sh low h.orderly it in
    let marks = marked c (record { seen = suc g; last = (m c).last }) m in
    let plain = is_plain s tg it (is_ahead D tg) refl (lined s tg it) in
    let b = joined d n w m wf sh h.orderly h.flags in
    let level = it.level in
    let nothing = lacks_nothing d ((order_of d w).dir_entry (m c).seen) c s sh level.0.state (begins_lacks d Load s D sh level.1).1 in (
      marks,
      subst (λ z. IsRefined d given z marks) (sym moves)
          (still_true d given w m c (acked (core w c) s k ms) (w.replies ++ InvAck r k ∷ []) marks h low (λ v a full brings. cc full) (takes_none w c (acked (core w c) s k ms) refl refl) ok
          (acked_told d n w m c g s f r i k ms b low (it.desc ∙ ap (Ask Load s D) plain) it.slot (record { from = from; inside = inside; quiet = quiet; sends = sends }) nothing h.faithful)),
    )
  where
    n : ℕ
    n = length given

    lined : (s : ℕ) (tg : Tag) → IsEarly d w m c s tg f r i k ms → IsAsking d (order_of d w) c (core w c).line (m c) Load s D tg (is_ahead D tg)
    lined s tg it = (subst (IsLined d (order_of d w) c (core w c).line (m c) (Ask Load s D tg)) it.slot (subst (λ x. IsLined d (order_of d w) c (core w c).line (m c) x (core w c).slot) it.desc (h.orderly.placed c low).line)).1

    is_plain : (s : ℕ) (tg : Tag) → IsEarly d w m c s tg f r i k ms → (b : Bool) → is_ahead D tg ≡ b → IsAsking d (order_of d w) c (core w c).line (m c) Load s D tg b → tg ≡ Plain
    is_plain s tg it false level a = plain_of D tg level
    is_plain s tg it true lead a = absurd (let here = it.level in let behind = here.3 in let upto = a.upto in omega (arith, behind, upto))
