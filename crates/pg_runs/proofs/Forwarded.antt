-- A core meets a forward, or the answer to its evict: all is kept that goes along a run.
use Rattle.std.proofs.Common.{◌≡◌, ℕ, suc, ◌<◌, arith, Bool, true, false, ◌&&◌, not, List, [], ◌∷◌, ◌++◌, length, Option, Some, None, refl, sym, ap, subst, ◌∙◌, inl, inr, append-nil}
use Rattle.std.specs.Prelude.{is_none, if◌then◌else◌}
use Rattle.std.specs.List.{list_any}
use Rattle.pg_perm.specs.declared.kinds.Event.{Event}
use Rattle.pg_perm.specs.declared.kinds.Event.TheVariants.{Load, Store, Evict}
use Rattle.pg_perm.specs.declared.kinds.FwdClass.TheVariants as class
use Rattle.pg_perm.specs.declared.kinds.Op.{Op}
use Rattle.pg_perm.specs.declared.kinds.Op.TheVariants as op
use Rattle.pg_perm.specs.declared.draft.Draft.{Draft}
use Rattle.pg_perm.specs.declared.draft.TakeLine.{TakeLine}
use Rattle.pg_perm.specs.Drafts.{IsWellFormed}
use Rattle.pg_terms.specs.Terms.{cache_is, out, has_class}
use Rattle.pg_terms.specs.Rows.{allows}
use Rattle.pg_shape.specs.Shaped.{IsShaped}
use Rattle.pg_directory.specs.DirEntries.{who, entry_after}
use Rattle.pg_atomic.proofs.Fits.{is_then_some}
use Rattle.pg_atomic.proofs.Transactions.{out_fits}
use Rattle.pg_table.specs.declared.cache.Desc.{Desc}
use Rattle.pg_table.specs.declared.cache.Desc.TheVariants.{Stable, Ask, Leave}
use Rattle.pg_table.specs.declared.cache.Phase.{Phase}
use Rattle.pg_table.specs.declared.cache.Phase.TheVariants.{D, Ad, Ac, A}
use Rattle.pg_table.specs.declared.cache.Tag.{Tag}
use Rattle.pg_table.specs.declared.cache.Act.TheVariants as act
use Rattle.pg_table.specs.declared.cache.Input.TheVariants as at
use Rattle.pg_table.specs.Descriptors.{out_state}
use Rattle.pg_table.specs.Stalls.{is_stall}
use Rattle.pg_table.specs.Choices.{Choice, answer_acts as answer, later_choices, earlier_choices, choices}
use Rattle.pg_messages.specs.declared.messages.Ordered.{Ordered}
use Rattle.pg_messages.specs.declared.messages.Ordered.TheVariants.{Forward, PutAck}
use Rattle.pg_order.specs.Orders.{DirOrder}
use Rattle.pg_order.proofs.Known.{IsKnown, known}
use Rattle.pg_order.proofs.Quiet.{forward_is}
use Rattle.pg_messages.specs.declared.messages.Ask.{Ask as SentRequest}
use Rattle.pg_messages.specs.declared.messages.Reply.{Reply}
use Rattle.pg_messages.specs.declared.messages.Reply.TheVariants.{InvAck}
use Rattle.pg_controllers.specs.Networks.{Core}
use Rattle.pg_controllers.specs.Lines.{LineResult, do_acts, goes_to, complete_pending, received_ordered}
use Rattle.pg_messages.specs.declared.messages.WorldEvent.TheVariants.{Ordered as Ordered_to}
use Rattle.pg_controllers.specs.Worlds.{Picks, World, core, order_of, settle, by_choice, deliver, move, is_stable}
use Rattle.pg_orderly.specs.Orderly.{Mark, is_pending, IsLined, IsPlaced, is_ahead, IsFirstPhase, IsOrderly}
use Rattle.pg_orderly.proofs.Acks.{ordered_is}
use Rattle.pg_orderly.proofs.Rows.{IsChosen, none_chosen, only_chosen, IsAnswer, answers, taken, laters}
use Rattle.pg_orderly.proofs.Keeping.{marked, moved}
use Rattle.pg_orderly.proofs.Answer.{base, with_base, owner_sends}
use Rattle.pg_orderly.proofs.Answered.{IsAnswering, with_answer, answers_kept}
use Rattle.pg_orderly.proofs.Invalidated.{IsInvalidating, invalidates_kept}
use Rattle.pg_orderly.proofs.Postponed.{IsPutOff, with_put_off, postponed}
use Rattle.pg_orderly.proofs.Due.{answer_there, level_head}
use Rattle.pg_orderly.proofs.Effects.{starts, answer_acts, later_puts_off}
use Rattle.pg_safe.proofs.Catch.{denied}
use Rattle.pg_safe.proofs.Heads.{IsHead, head_of, from_whom, own_last}
use Rattle.pg_safe.proofs.Sides.{answers_it, answered_before, put_off_after}
use Rattle.pg_serial.specs.Faithful.{IsFaithful}
use Rattle.pg_refined.specs.Shown.{shown}
use Rattle.pg_refined.specs.Kept.{IsRefined}
use Rattle.pg_refined.proofs.Granted.{IsJoined, joined}
use Rattle.pg_refined.proofs.Answers.{answers_told}
use Rattle.pg_refined.proofs.Parts.{invalidated_told, postponed_told, retired_told}
use Rattle.pg_refined.proofs.Taken.{takes_none, takes_done}
use Rattle.pg_moves.proofs.Forwarded.{IsAnswerable, answerable, answer_moves, inv_acts}
use Rattle.pg_moves.proofs.Retired.{retired, retires_kept, evicting, no_choice}
use Rattle.pg_runs.specs.Headline.{IsRefinedWorld}
use Rattle.pg_runs.proofs.Moves.{still_true}

-- A forward that is answered

pub answered_true : (d : Draft) (given : List (List Op)) (pick : Picks) (w : World) (m : ℕ → Mark) (c f r i k : ℕ) (ms : List Ordered) (ch : Choice) → IsWellFormed d → IsShaped d → c < length given → IsRefined d given w m
    → (core w c).queue ≡ Forward f r i k ∷ ms → answers_it d (core w c).line.desc f ≡ true → pick (core w c).line.desc (at.Forward f) ≡ Some ch → IsChosen (choices d (core w c).line.desc (at.Forward f)) ch
    → IsRefinedWorld d given (move d pick w (Ordered_to c))
answered_true d given pick w m c f r i k ms ch wf sh low t queue answers_here picks chosen = by (has_class class.Inv d f) refl
  where
    n : ℕ
    n = length given

    o : IsOrderly d n w m
    o = t.orderly

    p : DirOrder
    p = order_of d w

    pl : IsPlaced d p c (core w c) (m c)
    pl = o.placed c low

    k0 : IsKnown d n p
    k0 = known d n p wf sh o.past

    j : IsJoined d n w m
    j = joined d n w m wf sh o t.flags

    y : Desc
    y = (core w c).line.desc

    ready : IsAnswerable d y f
    ready = answerable d p c f (core w c).line (m c) y (core w c).slot pl.line answers_here

    h : IsAnswer d (base y) f (with_base d y) ch
    h = answers d (base y) f (with_base d y) ch (subst (λ cs. IsChosen cs ch) ready.same chosen)

    before : is_pending (core w c) ≡ true → k < (m c).last
    before pend = answered_before d n w m c f r i k ms wf sh o low queue answers_here pend

    denies : cache_is (allows Store) d h.take.next ≡ false
    denies =
        let (g, hd) = head_of d p c (core w c) (m c) (Forward f r i k) ms pl queue in
        let fw = forward_is d p c g f r i k hd.sends in
        let fit = level_head d n p k0 c (core w c) (m c) g pl ready.level hd.from hd.inside hd.quiet (λ pend. let lt = before pend in let stamp = fw.stamp in omega (arith, lt, stamp)) in
        let (t, row, fits_now, deny) = (k0.handled g hd.inside).applies c f (base y) fw.sends fit in
        let one : t ≡ h.take = (let row_here = h.row in cc (row, row_here)) in
        subst (λ (t : TakeLine). cache_is (allows Store) d t.next ≡ false) one
        (denied d sh (entry_after d (p.dir_entry g) (p.at g)).dir (who (entry_after d (p.dir_entry g) (p.at g)) c) t.next fits_now deny)

    -- the world once it is answered
    true_so : (rs : List Reply) (u : ℕ → Mark) → do_acts d (received_ordered (core w c).line (Forward f r i k)) (answer d f h.take.reply) (starts (core w c).line (core w c).slot) ≡ record { line = record (core w c).line { stamp = k }; slot = (core w c).slot; replies = rs; done = None }
        → IsOrderly d n (moved c (with_answer d (core w c) h.take.next k ms) (w.replies ++ rs) w.done w) u → IsFaithful d n (shown d (moved c (with_answer d (core w c) h.take.next k ms) (w.replies ++ rs) w.done w) u)
        → IsRefined d given (move d pick w (Ordered_to c)) u
    true_so rs u does ok told =
        subst (λ x. IsRefined d given x u) (sym (answer_moves d pick w c f r i k ms ch rs queue picks h does ∙ ap (λ dn. moved c (with_answer d (core w c) h.take.next k ms) (w.replies ++ rs) dn w) (append-nil w.done)))
        (still_true d given w m c (with_answer d (core w c) h.take.next k ms) (w.replies ++ rs) u t low (λ v a full brings. t.slots c v a low full brings) (takes_none w c (with_answer d (core w c) h.take.next k ms) refl refl) ok told)

    by : (b : Bool) → has_class class.Inv d f ≡ b → IsRefinedWorld d given (move d pick w (Ordered_to c))
    by true inv =
        let it : IsInvalidating d w m c f r i k ms h.take = record { level = ready.level; queue = queue; inv = inv; take = h.row; denies = denies; before = before } in
        let (g, ok, from, inside, quiet, sends) = invalidates_kept d n w m c f r i k ms h.take wf sh low o it in
        let marks = marked c (record { seen = suc g; last = (m c).last }) m in (
          marks,
          true_so (InvAck r k ∷ []) marks (inv_acts d (received_ordered (core w c).line (Forward f r i k)) (core w c).line (core w c).slot f h.take.reply inv) ok
              (invalidated_told d n w m c g f r i k ms h.take j low it (record { from = from; inside = inside; quiet = quiet; sends = sends }) t.faithful),
        )
    by false not_inv =
        let there = answer_there d n w m c f r i k ms wf sh low o ready.level queue not_inv before in
        let one : there.take ≡ h.take = (let row = there.row in let row_here = h.row in cc (row, row_here)) in
        let gives : h.take.reply ≡ Some there.reply = subst (λ (t : TakeLine). t.reply ≡ Some there.reply) one there.gives in
        let it : IsAnswering d w m c f r i k ms h.take there.reply = record { level = ready.level; queue = queue; not_inv = not_inv; take = h.row; gives = gives; denies = denies; before = before } in
        let (g, ok, from, inside, quiet, sends) = answers_kept d n w m c f r i k ms h.take there.reply wf sh low o it in
        let marks = marked c (record { seen = suc g; last = (m c).last }) m in (
          marks,
          true_so (owner_sends d f there.reply r (core w c).line.word i k) marks
              (ap (λ o. do_acts d (received_ordered (core w c).line (Forward f r i k)) (answer d f o) (starts (core w c).line (core w c).slot)) gives
              ∙ answer_acts d (received_ordered (core w c).line (Forward f r i k)) (core w c).line (core w c).slot f there.reply not_inv) ok
              (answers_told d n w m c f r i k ms h.take there.reply g j low it (record { from = from; inside = inside; quiet = quiet; sends = sends }) t.faithful),
        )

-- A forward that is put off

pub put_off_true : (d : Draft) (given : List (List Op)) (pick : Picks) (w : World) (m : ℕ → Mark) (c : ℕ) (e : Event) (s : ℕ) (ph : Phase) (t : Tag) (f r i k : ℕ) (ms : List Ordered) → IsWellFormed d → IsShaped d → c < length given → IsRefined d given w m
    → IsPutOff d w m c e s ph t f r i k ms → pick (Ask e s ph t) (at.Forward f) ≡ Some (taken d e s ph f) → IsRefinedWorld d given (move d pick w (Ordered_to c))
put_off_true d given pick w m c e s ph t f r i k ms wf sh low h it picks =
    let n = length given in
    let (g, ok, from, inside, quiet, sends) = postponed d n w m c e s ph t f r i k ms wf sh low h.orderly it in
    let marks = marked c (record { seen = suc g; last = (m c).last }) m in
    let y = with_put_off d (core w c) e s ph (Forward f r i k) f ms in (
      marks,
      subst (λ x. IsRefined d given x marks)
          (sym (later_puts_off d pick w c e s ph t f r i k ms it.desc it.slot it.queue it.not_inv picks ∙ ap (λ rs. moved c y rs (w.done ++ []) w) (append-nil w.replies) ∙ ap (λ dn. moved c y w.replies dn w) (append-nil w.done)))
          (still_true d given w m c y w.replies marks h low (λ v a full brings. cc full) (takes_none w c y refl refl) ok
          (postponed_told d n w m c g e s ph t f r i k ms (joined d n w m wf sh h.orderly h.flags) low it (record { from = from; inside = inside; quiet = quiet; sends = sends }) h.faithful)),
    )

-- what isn't answered at once, nor an invalidation, is put off
pub waits_true : (d : Draft) (given : List (List Op)) (pick : Picks) (w : World) (m : ℕ → Mark) (c f r i k : ℕ) (ms : List Ordered) (ch : Choice) → IsWellFormed d → IsShaped d → c < length given → IsRefined d given w m
    → (core w c).queue ≡ Forward f r i k ∷ ms → is_pending (core w c) ≡ true → answers_it d (core w c).line.desc f ≡ false → has_class class.Inv d f ≡ false
    → pick (core w c).line.desc (at.Forward f) ≡ Some ch → IsChosen (choices d (core w c).line.desc (at.Forward f)) ch → list_any is_stall ch.acts ≡ false → IsRefinedWorld d given (move d pick w (Ordered_to c))
waits_true d given pick w m c f r i k ms ch wf sh low true_now queue pend not_here not_inv picks chosen moves = by (core w c).line.desc refl (core w c).slot refl pend not_here chosen
  where
    put : (e : Event) (s : ℕ) (ph : Phase) (t : Tag) → (core w c).line.desc ≡ Ask e s ph t → (core w c).slot ≡ None → (is_ahead ph t ≡ false → IsFirstPhase ph) → IsChosen (later_choices d s e ph t f) ch → IsRefinedWorld d given (move d pick w (Ordered_to c))
    put e s ph t desc slot first h =
        let (is_late, which) = laters d s e ph t f ch h in
        elim which [
          | inl stalls ↦ absurd (let stall : list_any is_stall ch.acts ≡ true = ap (λ (c : Choice). list_any is_stall c.acts) stalls in cc (stall, moves))
          | inr takes ↦ put_off_true d given pick w m c e s ph t f r i k ms wf sh low true_now (record {
            desc = desc;
            slot = slot;
            queue = queue;
            later = is_late;
            not_inv = not_inv;
            first = λ level. (first level, put_off_after d (length given) w m c e s ph t f r i k ms wf sh true_now.orderly low desc slot queue not_inv (first level) level);
          }) (ap (λ y. pick y (at.Forward f)) (sym desc) ∙ picks ∙ ap Some takes)
        ]

    by : (y : Desc) → (core w c).line.desc ≡ y → (slot : Option SentRequest) → (core w c).slot ≡ slot → (not (is_stable y) && is_none slot) ≡ true → answers_it d y f ≡ false → IsChosen (choices d y (at.Forward f)) ch → IsRefinedWorld d given (move d pick w (Ordered_to c))
    by (Stable s) desc slot is_slot pend no_answer h = cc
    by (Leave s) desc slot is_slot pend no_answer h = cc
    by (Ask e s ph t) desc (Some a) is_slot pend no_answer h = cc
    by (Ask Load s D t) desc None is_slot pend no_answer h = put Load s D t desc is_slot (λ z. tt) h
    by (Ask Load s Ad t) desc None is_slot pend no_answer h = absurd (none_chosen ch h)
    by (Ask Load s Ac t) desc None is_slot pend no_answer h = absurd (none_chosen ch h)
    by (Ask Load s A t) desc None is_slot pend no_answer h = absurd (none_chosen ch h)
    by (Ask Store s D t) desc None is_slot pend no_answer h = absurd (none_chosen ch h)
    by (Ask Store s Ad t) desc None is_slot pend no_answer h = put Store s Ad t desc is_slot (λ z. tt) (subst (λ (b : Bool). IsChosen (if b then earlier_choices d s f else later_choices d s Store Ad t f) ch) no_answer h)
    by (Ask Store s Ac t) desc None is_slot pend no_answer h = cc
    by (Ask Store s A t) desc None is_slot pend no_answer h = put Store s A t desc is_slot (λ z. let x : is_ahead A t ≡ true = refl in cc) h
    by (Ask Evict s ph t) desc None is_slot pend no_answer h = absurd (none_chosen ch h)

-- An evict is acknowledged

pub put_ack_true : (d : Draft) (given : List (List Op)) (pick : Picks) (w : World) (m : ℕ → Mark) (c k : ℕ) (ms : List Ordered) (ch : Choice) → IsWellFormed d → IsShaped d → c < length given → IsRefined d given w m
    → (core w c).queue ≡ PutAck k ∷ ms → pick (core w c).line.desc at.PutAck ≡ Some ch → IsChosen (choices d (core w c).line.desc at.PutAck) ch → IsRefinedWorld d given (move d pick w (Ordered_to c))
put_ack_true d given pick w m c k ms ch wf sh low t queue picks chosen = by (core w c).line.desc refl (core w c).slot refl pl.line chosen
  where
    n : ℕ
    n = length given

    o : IsOrderly d n w m
    o = t.orderly

    p : DirOrder
    p = order_of d w

    pl : IsPlaced d p c (core w c) (m c)
    pl = o.placed c low

    x : Core
    x = core w c

    world_by : Choice → World
    world_by ch = by_choice d c (received_ordered x.line (PutAck k)) (record x { queue = ms }) w (Some ch)

    leaves : (s : ℕ) → x.line.desc ≡ Leave s → x.slot ≡ None → IsLined d p c x.line (m c) (Leave s) None → ch ≡ record { acts = act.Done ∷ []; next = Stable (out_state d) } → IsRefinedWorld d given (move d pick w (Ordered_to c))
    leaves s desc slot l same_choice =
        let (v, pending, is_evict) = l.0 in
        let (g, ok, from, inside, quiet, sends) = retires_kept d n w m c s k x.line.word x.line.stamp ms w.done wf sh low o desc slot queue in
        let marks = marked c (record { seen = suc g; last = (m c).last }) m in
        let hd : IsHead d p c (m c) g (PutAck k) = record { from = from; inside = inside; quiet = quiet; sends = sends } in
        let own : (p.at g).core ≡ c = elim (from_whom d p c g (PutAck k) sends) [ inl mine ↦ mine.0 | inr theirs ↦ absurd (let is = theirs.4 in cc is) ] in
        let does : (p.at g).event ≡ Evict = ordered_is p (m c) Evict l.2 g (own_last d p c x (m c) g pl from inside own) in (
          marks,
          subst (λ z. IsRefined d given z marks) (sym (moves pending (evicting v is_evict)))
              (still_true d given w m c y w.replies marks t low (λ v a full brings. absurd (cc (slot, full))) (takes_done w c y op.Evict [] (pending ∙ ap Some (evicting v is_evict)) refl refl refl (λ e other. refl)) ok
              (retired_told d n w m c g k (out_state d) y (joined d n w m wf sh o t.flags) low hd own does refl (is_then_some (out d) (out_state d) (out_fits d sh)) slot t.faithful)),
        )
      where
        y : Core
        y = retired d x x.line.word x.line.stamp ms

        end : Option Op → LineResult
        end t = goes_to (Stable (out_state d)) (complete_pending t (received_ordered x.line (PutAck k)) (record { line = x.line; slot = x.slot; replies = []; done = None }))

        moves : {v : Op} → x.line.pending ≡ Some v → v ≡ op.Evict → move d pick w (Ordered_to c) ≡ moved c y w.replies w.done w
        moves pending is_evict =
            ap (deliver d pick c x w) queue
            ∙ ap (by_choice d c (received_ordered x.line (PutAck k)) (record x { queue = ms }) w) picks
            ∙ ap world_by same_choice
            ∙ ap (λ a. settle c (record x { queue = ms }) a w) (ap end (pending ∙ ap Some is_evict))
            ∙ ap (λ rs. moved c y rs (w.done ++ []) w) (append-nil w.replies)
            ∙ ap (λ dn. moved c y w.replies dn w) (append-nil w.done)

    by : (y : Desc) → x.line.desc ≡ y → (slot : Option SentRequest) → x.slot ≡ slot → IsLined d p c x.line (m c) y slot → IsChosen (choices d y at.PutAck) ch → IsRefinedWorld d given (move d pick w (Ordered_to c))
    by (Stable s) desc slot is_slot l h = absurd (none_chosen ch h)
    by (Ask e s ph t) desc slot is_slot l h = absurd (none_chosen ch (subst (λ cs. IsChosen cs ch) (no_choice d e s ph t) h))
    by (Leave s) desc None is_slot l h = leaves s desc is_slot l (only_chosen (record { acts = act.Done ∷ []; next = Stable (out_state d) }) ch h)
    by (Leave s) desc (Some a) is_slot l h = absurd (
        let (g, hd) = head_of d p c x (m c) (PutAck k) ms pl queue in
        elim (from_whom d p c g (PutAck k) hd.sends) [
          | inl (mine, e) ↦ let last = own_last d p c x (m c) g pl hd.from hd.inside mine in let from = hd.from in let behind = l.3 in omega (arith, last, from, behind)
          | inr (f, r, i, k2, is_it, fw) ↦ cc is_it
        ])
