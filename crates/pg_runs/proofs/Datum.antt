-- Data, by whatever row: all is kept that goes along a run.
use Rattle.std.proofs.Common.{◌≡◌, ◌≢◌, ℕ, suc, ◌<◌, ◌≤◌, arith, Bool, true, false, List, [], ◌∷◌, ◌++◌, length, Some, None, refl, sym, ap, subst, ◌∙◌, ◌⊎◌, inl, inr, append-nil}
use Rattle.std.specs.Prelude.{◌==◌, slice_get}
use Rattle.std.specs.List.{remove}
use Rattle.std.proofs.Math.Path.{fun_ext}
use Rattle.std.proofs.lemmas.Bool.{eqb-true}
use Rattle.pg_perm.specs.declared.kinds.Event.{Event}
use Rattle.pg_perm.specs.declared.kinds.Event.TheVariants.{Load, Store, Evict}
use Rattle.pg_perm.specs.declared.kinds.Op.{Op}
use Rattle.pg_perm.specs.declared.kinds.Op.TheVariants as op
use Rattle.pg_perm.specs.declared.draft.Draft.{Draft}
use Rattle.pg_perm.specs.declared.draft.ReplyName.TheVariants as named
use Rattle.pg_perm.specs.Drafts.{IsWellFormed}
use Rattle.pg_terms.specs.Rows.{final_state}
use Rattle.pg_shape.specs.Shaped.{IsShaped}
use Rattle.pg_directory.specs.Sound.{fits}
use Rattle.pg_table.specs.declared.cache.Act.TheVariants as act
use Rattle.pg_table.specs.declared.cache.Desc.TheVariants.{Stable, Ask}
use Rattle.pg_table.specs.declared.cache.Phase.{Phase}
use Rattle.pg_table.specs.declared.cache.Phase.TheVariants.{D, Ad, Ac, A}
use Rattle.pg_table.specs.declared.cache.Tag.{Tag}
use Rattle.pg_table.specs.Tables.{TableState}
use Rattle.pg_table.specs.Descriptors.{end_under_tag}
use Rattle.pg_table.specs.Choices.{Choice}
use Rattle.pg_table.specs.Pick.{pick as picked}
use Rattle.pg_table.specs.Sound.{IsSoundCache}
use Rattle.pg_order.specs.Messages.{sent_between}
use Rattle.pg_order.specs.Orders.{DirOrder, entry_message}
use Rattle.pg_messages.specs.declared.messages.Finished.TheVariants as finish
use Rattle.pg_controllers.specs.Networks as net
use Rattle.pg_messages.specs.declared.messages.Reply.TheVariants.{Data}
use Rattle.pg_controllers.specs.Networks.{Line, event_of}
use Rattle.pg_controllers.specs.Lines.{Received, LineResult, goes_to, serve, result_of, received_reply, outcome_of, is_gone}
use Rattle.pg_messages.specs.declared.messages.DoneEntry.{DoneEntry}
use Rattle.pg_messages.specs.declared.messages.WorldEvent.TheVariants.{Reply as Reply_at}
use Rattle.pg_controllers.specs.Worlds.{World, core, order_of, done_of, done_as, move}
use Rattle.pg_orderly.specs.Orderly.{Mark, HasPending, IsAhead, IsLined, IsPhase, IsOrderly}
use Rattle.pg_orderly.proofs.Filled.{IsFilling}
use Rattle.pg_orderly.proofs.Keeping.{marked, moved}
use Rattle.pg_orderly.proofs.Rows.{IsEnd}
use Rattle.pg_safe.specs.Moving.{IsComplete}
use Rattle.pg_safe.proofs.Heads.{fits_at}
use Rattle.pg_safe.proofs.Replies.{data_quiet}
use Rattle.pg_serial.specs.Faithful.{IsFaithful}
use Rattle.pg_refined.specs.Shown.{accesses, shown}
use Rattle.pg_refined.specs.Operations.{MadeOf}
use Rattle.pg_serial.specs.Serial.{made_by}
use Rattle.pg_refined.specs.Kept.{IsRefined}
use Rattle.pg_refined.proofs.Granted.{IsJoined, joined}
use Rattle.pg_refined.proofs.Late.{inv_there, late_told}
use Rattle.pg_refined.proofs.Parts.{part_told}
use Rattle.pg_refined.proofs.Taken.{makes_load, makes_store, makes_no_other, takes_none, takes_done}
use Rattle.pg_refined.proofs.Whole.{IsServedTo, load_served, store_served}
use Rattle.pg_completions.proofs.Ending.{rests}
use Rattle.pg_completions.proofs.Late.{IsLate}
use Rattle.pg_completions.proofs.Picks.{with_reply}
use Rattle.pg_completions.proofs.Filled.{IsDone, done_line, done_kept}
use Rattle.pg_completions.proofs.LateFill.{late_kept}
use Rattle.pg_completions.proofs.PartFill.{IsParted, with_part, part_ahead, part_level}
use Rattle.pg_completions.proofs.DataKept.{DataCase, Done, Late, PartAhead, PartLevel, data_case}
use Rattle.pg_runs.specs.Headline.{IsRefinedWorld}
use Rattle.pg_runs.proofs.Moves.{moved_true, still_true}
use Rattle.pg_runs.proofs.Served.{served_as, served_true}

-- marks where a core's stay are the same
pub marks_same : (c : ℕ) (m : ℕ → Mark) → marked c (record { seen = (m c).seen; last = (m c).last }) m ≡ m
marks_same c m = fun_ext (λ e. at e (c == e) refl)
  where
    at : (e : ℕ) (b : Bool) → (c == e) ≡ b → marked c (record { seen = (m c).seen; last = (m c).last }) m e ≡ m e
    at e true is = let same = eqb-true c e is in rw is (ap m same)
    at e false ne = rw ne refl

-- a line that has its data, or the last acknowledgement, has an operation of its event
pub pends_of : (d : Draft) (n : ℕ) (w : World) (m : ℕ → Mark) (c : ℕ) (e : Event) (s : ℕ) (ph : Phase) (t : Tag) → IsOrderly d n w m → c < n → (core w c).line.desc ≡ Ask e s ph t → (core w c).slot ≡ None → HasPending (core w c).line e
pends_of d n w m c e s ph t o low desc slot =
    (subst (IsLined d (order_of d w) c (core w c).line (m c) (Ask e s ph t)) slot (subst (λ x. IsLined d (order_of d w) c (core w c).line (m c) x (core w c).slot) desc (o.placed c low).line)).0

-- It is done

pub done_true : (d : Draft) (given : List (List Op)) (w : World) (m : ℕ → Mark) (c : ℕ) (e : Event) (s : ℕ) (ph : Phase) (t : Tag) (i r v cnt k : ℕ) (ch : Choice) → IsWellFormed d → IsShaped d → c < length given → IsRefined d given w m
    → (e ≡ Load) ⊎ (e ≡ Store) → (cnt == (core w c).line.got) ≡ true → IsDone d w m c e s ph t i r v cnt k ch
    → IsRefinedWorld d given (with_reply w c i (result_of d ch (received_reply d (core w c).line (Data r c v cnt k)) (core w c).line (core w c).slot))
done_true d given w m c e s ph t i r v cnt k ch wf sh low h which all it =
    let (o, pending, is) = pends_of d n w m c e s ph t h.orderly low it.filling.desc it.filling.slot in
    by o (let known = it.pending in cc (known, pending)) pending is
  where
    n : ℕ
    n = length given

    l : Line
    l = (core w c).line

    met : Received
    met = received_reply d l (Data r c v cnt k)

    b : IsJoined d n w m
    b = joined d n w m wf sh h.orderly h.flags

    late : Bool
    late = is_gone l.desc

    after_it : Op → LineResult
    after_it o = goes_to (Stable it.end.state) (serve d it.end.final l.deferred (done_line o met l))

    effect : result_of d ch met l (core w c).slot ≡ after_it it.op
    effect = (done_kept d n w m c e s ph t i r v cnt k ch wf sh low h.orderly all it).0

    -- the world in which it is done
    ends : (o : Op) (es : List DoneEntry) → it.op ≡ o → l.pending ≡ Some o → es ≡ done_as c k late (outcome_of o v) → MadeOf c (o ∷ []) (made_by c (accesses es)) × ((e : ℕ) → e ≢ c → made_by e (accesses es) ≡ []) → IsServedTo d n c (core w c).queue (moved c (rests it.end.final (core w c) (done_line o met l) (l.deferred ++ (core w c).queue)) (remove w.replies i) (w.done ++ es) w) l.deferred
        → IsRefinedWorld d given (with_reply w c i (result_of d ch met l (core w c).slot))
    ends o es same pending is made served =
        let (u, ok) = served_true d given w m c (done_line o met l) it.end.final it.end.state l.deferred (core w c).queue (remove w.replies i) es o h low refl refl refl pending made.0 made.1 it.off it.leads served in (
          u,
          subst (λ z. IsRefined d given z u)
              (ap (λ dn. moved c (rests it.end.state (core w c) (serve d it.end.final l.deferred (done_line o met l)) (core w c).queue) (remove w.replies i ++ (serve d it.end.final l.deferred (done_line o met l)).replies) (w.done ++ dn) w)
              (is ∙ ap (done_of c) (sym (served_as d it.end.final l.deferred (done_line o met l)).done))
              ∙ ap (with_reply w c i) (sym (effect ∙ ap after_it same))) ok,
        )

    by : (o : Op) → it.op ≡ o → l.pending ≡ Some o → event_of o ≡ e → IsRefinedWorld d given (with_reply w c i (result_of d ch met l (core w c).slot))
    by op.Load same pending is = ends op.Load (record { stamp = k; core = c; fin = finish.Load v; late = late } ∷ []) same pending refl
        (makes_load c k v late, λ e other. makes_no_other c e k (finish.Load v) late other)
        (load_served d n w m c s ph t i r v cnt k it.end.final late b low (subst (λ e. IsFilling d w m c e s ph t i r v cnt k it.end.final) (sym is) it.filling) it.off h.faithful)
    by (op.Store x) same pending is = ends (op.Store x) (record { stamp = k; core = c; fin = finish.Store x; late = late } ∷ []) same pending refl
        (makes_store c k x late, λ e other. makes_no_other c e k (finish.Store x) late other)
        (store_served d n w m c s ph t i r v cnt k it.end.final x late b low (subst (λ e. IsFilling d w m c e s ph t i r v cnt k it.end.final) (sym is) it.filling) it.off h.faithful)
    by op.Evict same pending is = absurd (elim which [ inl load ↦ let z : Evict ≡ Load = is ∙ load in cc z | inr store ↦ let z : Evict ≡ Store = is ∙ store in cc z ])

-- A load comes late

pub late_true : (d : Draft) (given : List (List Op)) (w : World) (m : ℕ → Mark) (c s : ℕ) (ph : Phase) (t : Tag) (i r v cnt k : ℕ) (ch : Choice) → IsWellFormed d → IsShaped d → c < length given → IsRefined d given w m
    → slice_get w.replies i ≡ Some (Data r c v cnt k) → (core w c).line.desc ≡ Ask Load s ph t → (core w c).slot ≡ None → HasPending (core w c).line Load
    → IsEnd d t (act.Fill ∷ []) (final_state d s Load (named.Reply r)) ch → (a : IsAhead d (order_of d w) c (core w c).line (m c) Load s ph t)
    → IsLate d t (sent_between (entry_message d (order_of d w) c) (m c).last a.past)
    → IsRefinedWorld d given (with_reply w c i (result_of d ch (received_reply d (core w c).line (Data r c v cnt k)) (core w c).line (core w c).slot))
late_true d given w m c s ph t i r v cnt k ch wf sh low h get desc slot (o, pending, is_op) end a late = by o pending is_op (late_kept d n w m c s ph t i r v cnt k ch wf sh low h.orderly get desc slot (o, pending, is_op) end a late)
  where
    n : ℕ
    n = length given

    l : Line
    l = (core w c).line

    met : Received
    met = received_reply d l (Data r c v cnt k)

    phase_is : (ph : Phase) → IsPhase d Load s ph → ph ≡ D
    phase_is D q = refl
    phase_is Ad q = q.0.1
    phase_is Ac q = absurd q.1
    phase_is A q = let x = q.0 in cc x

    gone : is_gone l.desc ≡ true
    gone = ap is_gone (desc ∙ ap (Ask Load s ph) late.gone)

    told : (y : net.Core) → y.line.desc ≡ Stable end.state → y.slot ≡ None → IsFaithful d n (shown d (moved c y (remove w.replies i) (w.done ++ record { stamp = k; core = c; fin = finish.Load v; late = true } ∷ []) w) m)
    told y at empty =
        let (j, lo, hi, fw) = inv_there d (order_of d w) c (m c).last a.past late.f late.r late.n late.k late.only in
        late_told d n w m c s end.state t i r v cnt k a.ordered.entry j late.f y (joined d n w m wf sh h.orderly h.flags) low (record {
          desc = desc ∙ ap (λ ph. Ask Load s ph t) (phase_is ph a.phase);
          slot = slot;
          reply = get;
          last = a.ordered.last;
          does = a.ordered.event;
          from = lo;
          low = (let upto = a.upto in omega (arith, hi, upto));
          other = fw.other;
          sends = fw.sends;
          inv = late.inv;
          line = at;
          gone = ap (end_under_tag d end.final) (sym late.gone) ∙ end.after;
          empty = empty;
        }) h.faithful

    by : (o : Op) (pending : l.pending ≡ Some o) → (is_op : event_of o ≡ Load)
        → (result_of d ch met l (core w c).slot ≡ goes_to (Stable end.state) (done_line o met l)) × IsOrderly d n (with_reply w c i (result_of d ch met l (core w c).slot)) (marked c (record { seen = (m c).seen; last = (m c).last }) m)
        → IsRefinedWorld d given (with_reply w c i (result_of d ch met l (core w c).slot))
    by (op.Store x) pending is_op kept = cc is_op
    by op.Evict pending is_op kept = cc is_op
    by op.Load pending is_op (effect, ok) = (
      m,
      subst (λ z. IsRefined d given z m) (sym world)
          (moved_true d given w m c y (remove w.replies i) (record { stamp = k; core = c; fin = finish.Load v; late = true } ∷ []) m h low (λ v a full brings. cc full)
          (takes_done w c y op.Load (record { stamp = k; core = c; fin = finish.Load v; late = true } ∷ []) pending refl refl (makes_load c k v true) (λ e other. makes_no_other c e k (finish.Load v) true other))
          (subst (λ z. IsOrderly d n z m) world (subst (IsOrderly d n (with_reply w c i (result_of d ch met l (core w c).slot))) (marks_same c m) ok)) (told y refl refl)),
    )
      where
        y : net.Core
        y = rests end.state (core w c) (done_line op.Load met l) (core w c).queue

        world : with_reply w c i (result_of d ch met l (core w c).slot) ≡ moved c y (remove w.replies i) (w.done ++ record { stamp = k; core = c; fin = finish.Load v; late = true } ∷ []) w
        world = ap (with_reply w c i) effect
            ∙ ap (λ rs. moved c y rs (w.done ++ record { stamp = k; core = c; fin = finish.Load v; late = is_gone l.desc } ∷ []) w) (append-nil (remove w.replies i))
            ∙ ap (λ b. moved c y (remove w.replies i) (w.done ++ record { stamp = k; core = c; fin = finish.Load v; late = b } ∷ []) w) gone

-- Acknowledgements are missing

pub part_true : (d : Draft) (given : List (List Op)) (w : World) (m : ℕ → Mark) (c p s : ℕ) (t : Tag) (i r v cnt k seen : ℕ) (ch : Choice) → IsWellFormed d → IsShaped d → c < length given → IsRefined d given w m
    → slice_get w.replies i ≡ Some (Data r c v cnt k) → (core w c).line.desc ≡ Ask Store s Ad t → (core w c).slot ≡ None → (m c).last ≡ suc p → ((order_of d w).at p).event ≡ Store
    → fits d ((order_of d w).dir_entry p) c s ≡ true → (m c).seen ≤ seen → IsParted d (length given) w m c s t i r v cnt k seen ch
    → IsRefinedWorld d given (with_reply w c i (result_of d ch (received_reply d (core w c).line (Data r c v cnt k)) (core w c).line (core w c).slot))
part_true d given w m c p s t i r v cnt k seen ch wf sh low h get desc slot last does fit up (effect, ok) =
    let quiet = data_quiet d n w m i r c v cnt k wf sh h.orderly get in (
      marks,
      subst (λ z. IsRefined d given z marks) (sym world)
          (still_true d given w m c y (remove w.replies i) marks h low (λ v a full brings. cc full) (takes_none w c y refl refl) (subst (λ z. IsOrderly d n z marks) world ok)
          (part_told d n w m c p s t i r v cnt k seen y (joined d n w m wf sh h.orderly h.flags) low
          (record { desc = desc; slot = slot; reply = get; last = last; does = does; state = fit; quiet = λ j lo hi. quiet j lo (omega (arith, hi, last)); up = up; line = refl; word = refl; stamp = refl; empty = refl }) h.faithful)),
    )
  where
    n : ℕ
    n = length given

    marks : ℕ → Mark
    marks = marked c (record { seen = seen; last = (m c).last }) m

    y : net.Core
    y = with_part (core w c) s t v cnt k

    world : with_reply w c i (result_of d ch (received_reply d (core w c).line (Data r c v cnt k)) (core w c).line (core w c).slot) ≡ moved c y (remove w.replies i) w.done w
    world = ap (with_reply w c i) effect ∙ ap (λ rs. moved c y rs (w.done ++ []) w) (append-nil (remove w.replies i)) ∙ ap (λ dn. moved c y (remove w.replies i) dn w) (append-nil w.done)

-- Each of them

pub data_true : (d : Draft) (t : List TableState) (given : List (List Op)) (w : World) (m : ℕ → Mark) (i r c v cnt k : ℕ) → IsWellFormed d → IsShaped d → IsSoundCache d t → IsRefined d given w m → IsComplete t (length given) w
    → slice_get w.replies i ≡ Some (Data r c v cnt k) → IsRefinedWorld d given (move d (picked t) w (Reply_at i))
data_true d t given w m i r c v cnt k wf sh sound h full get =
    let (low, ch, one, moves) = data_case d t n w m i r c v cnt k wf sh sound h.orderly full get in
    let (u, ok) = by low ch one in (u, subst (λ z. IsRefined d given z u) (sym moves) ok)
  where
    n : ℕ
    n = length given

    p : DirOrder
    p = order_of d w

    b : IsJoined d n w m
    b = joined d n w m wf sh h.orderly h.flags

    by : c < n → (ch : Choice) → DataCase d n w m i r c v cnt k ch → IsRefinedWorld d given (with_reply w c i (result_of d ch (received_reply d (core w c).line (Data r c v cnt k)) (core w c).line (core w c).slot))
    by low ch (Done e s ph tg which same it) = done_true d given w m c e s ph tg i r v cnt k ch wf sh low h which same it
    by low ch (Late s ph tg desc slot pends end a late) = late_true d given w m c s ph tg i r v cnt k ch wf sh low h get desc slot pends end a late
    by low ch (PartAhead s tg desc slot pends short is a) =
        part_true d given w m c a.ordered.entry s tg i r v cnt k (m c).seen ch wf sh low h get desc slot a.ordered.last a.ordered.event a.state (omega arith)
        (part_ahead d n w m c s Ad tg i r v cnt k ch wf sh low h.orderly get desc slot pends short is a)
    by low ch (PartLevel s tg desc slot pends short is plain a) =
        let last = a.2.last in
        let behind = a.3 in
        let pl = h.orderly.placed c low in
        let top = pl.last_low in
        let quiet = data_quiet d n w m i r c v cnt k wf sh h.orderly get in
        part_true d given w m c a.2.entry s tg i r v cnt k (m c).last ch wf sh low h get desc slot last a.2.event
        (fits_at d n p b.known c (core w c) (m c) a.2.entry s pl (omega (arith, last, behind)) (omega (arith, last, top)) (λ j lo hi. quiet j lo (omega (arith, hi, last))) (inr (omega (arith, last))) a.0.state)
        (omega (arith, behind)) (part_level d n w m c s Ad tg i r v cnt k ch wf sh low h.orderly get desc slot pends short is plain a)
