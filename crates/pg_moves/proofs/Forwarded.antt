-- A world stays orderly when a core meets a forward: from its row.
use Rattle.std.proofs.Common.{◌≡◌, ℕ, suc, ◌<◌, ◌≤◌, arith, Bool, true, false, ◌&&◌, not, List, [], ◌∷◌, ◌++◌, Option, Some, None, refl, sym, ap, subst, ◌∙◌, inl, inr, append-nil}
use Rattle.std.specs.Prelude.{is_none, if◌then◌else◌}
use Rattle.std.specs.List.{list_any}
use Rattle.pg_perm.specs.declared.kinds.Event.{Event}
use Rattle.pg_perm.specs.declared.kinds.Event.TheVariants.{Load, Store, Evict}
use Rattle.pg_perm.specs.declared.kinds.FwdClass.TheVariants as class
use Rattle.pg_perm.specs.declared.draft.Draft.{Draft}
use Rattle.pg_perm.specs.declared.draft.TakeLine.{TakeLine}
use Rattle.pg_perm.specs.Drafts.{IsWellFormed}
use Rattle.pg_terms.specs.Terms.{is, is_owner, cache_is, out, shared, has_class}
use Rattle.pg_terms.specs.Rows.{allows}
use Rattle.pg_shape.specs.Shaped.{IsShaped}
use Rattle.pg_directory.specs.DirEntries.{who, entry_after}
use Rattle.pg_directory.specs.Sound.{fits, fits_as}
use Rattle.pg_directory.proofs.Holders.{is_same}
use Rattle.pg_table.specs.declared.cache.Desc.{Desc}
use Rattle.pg_table.specs.declared.cache.Desc.TheVariants.{Stable, Ask, Leave}
use Rattle.pg_table.specs.declared.cache.Phase.{Phase}
use Rattle.pg_table.specs.declared.cache.Phase.TheVariants.{D, Ad, Ac, A}
use Rattle.pg_table.specs.declared.cache.Tag.{Tag}
use Rattle.pg_table.specs.declared.cache.Tag.TheVariants.{Plain, Kept, Gave, Gone}
use Rattle.pg_table.specs.declared.cache.Input.TheVariants as at
use Rattle.pg_table.specs.Descriptors.{store_phase}
use Rattle.pg_table.specs.Stalls.{is_stall}
use Rattle.pg_table.specs.Choices.{Choice, answer_acts as answer, answer_choices, is_later, is_earlier, later_choices, earlier_choices, choices}
use Rattle.pg_messages.specs.declared.messages.Ordered.{Ordered}
use Rattle.pg_messages.specs.declared.messages.Ordered.TheVariants.{Forward}
use Rattle.pg_order.specs.Orders.{DirOrder}
use Rattle.pg_order.proofs.Known.{IsKnown, known}
use Rattle.pg_order.proofs.Quiet.{IsSent, forward_is}
use Rattle.pg_order.proofs.Race.{sent_is}
use Rattle.pg_messages.specs.declared.messages.Ask.{Ask as SentRequest}
use Rattle.pg_messages.specs.declared.messages.Reply.{Reply}
use Rattle.pg_messages.specs.declared.messages.Reply.TheVariants.{InvAck}
use Rattle.pg_controllers.specs.Networks.{Line}
use Rattle.pg_controllers.specs.Lines.{Received, do_acts, goes_to, result_of, received_ordered}
use Rattle.pg_messages.specs.declared.messages.WorldEvent.TheVariants.{Ordered as Ordered_to}
use Rattle.pg_controllers.specs.Worlds.{Picks, World, core, order_of, settle, by_choice, deliver, move, is_stable}
use Rattle.pg_orderly.specs.Orderly.{Mark, is_pending, IsLined, IsPlaced, IsAsking, IsLevel, MayBegin, is_ahead, IsFirstPhase, IsOrderly}
use Rattle.pg_orderly.proofs.Rows.{IsChosen, none_chosen, IsAnswer, answers, taken, laters}
use Rattle.pg_orderly.proofs.Keeping.{marked, moved}
use Rattle.pg_orderly.proofs.Answer.{base, with_base, is_level, answering, owner_sends}
use Rattle.pg_orderly.proofs.Answered.{with_answer, answers_kept}
use Rattle.pg_orderly.proofs.Invalidated.{invalidates_kept}
use Rattle.pg_orderly.proofs.Postponed.{with_put_off, postponed}
use Rattle.pg_orderly.proofs.Due.{answer_there, level_head}
use Rattle.pg_orderly.proofs.Effects.{starts, answer_acts, later_puts_off}
use Rattle.pg_safe.proofs.Catch.{denied, sent_is_due}
use Rattle.pg_safe.proofs.Heads.{IsHead, head_of, fits_at, out_not_due}
use Rattle.pg_safe.proofs.Race.{store_waits_not}
use Rattle.pg_safe.proofs.Sides.{answers_it, answered_before, put_off_after}
use Rattle.pg_moves.specs.Kept.{IsOrderlyWorld}

-- A forward that is answered

pub inv_acts : (d : Draft) (m : Received) (l : Line) (slot : Option SentRequest) (f : ℕ) (o : Option ℕ) → has_class class.Inv d f ≡ true
    → do_acts d m (answer d f o) (starts l slot) ≡ record { line = record l { stamp = m.stamp }; slot = slot; replies = InvAck m.who m.stamp ∷ []; done = None }
inv_acts d m l slot f o inv = rw inv refl

-- at such a line the choices are those of its state
pub record IsAnswerable (d : Draft) (y : Desc) (f : ℕ) : Type 0 where
  pub level : is_level y ≡ true
  pub same : choices d y (at.Forward f) ≡ answer_choices d (base y) f (with_base d y)

earlier_plain : (d : Draft) (s f : ℕ) (t : Tag) → is_earlier d s t f ≡ true → t ≡ Plain
earlier_plain d s f Plain h = refl
earlier_plain d s f Kept h = cc
earlier_plain d s f Gave h = cc
earlier_plain d s f Gone h = cc

plain_if : (ph : Phase) (t : Tag) → is_ahead ph t ≡ false → t ≡ Plain
plain_if ph Plain h = refl
plain_if D Kept h = cc
plain_if D Gave h = cc
plain_if D Gone h = cc
plain_if Ad Kept h = cc
plain_if Ad Gave h = cc
plain_if Ad Gone h = cc
plain_if Ac Kept h = cc
plain_if Ac Gave h = cc
plain_if Ac Gone h = cc
plain_if A t h = cc

-- where a count is waited for nothing was taken
count_plain : (d : Draft) (p : DirOrder) (c s : ℕ) (l : Line) (m : Mark) (t : Tag) (slot : Option SentRequest) → IsLined d p c l m (Ask Store s Ac t) slot → t ≡ Plain
count_plain d p c s l m t (Some a) h = h.3
count_plain d p c s l m t None h = by (is_ahead Ac t) refl h.1
  where
    by : (b : Bool) → is_ahead Ac t ≡ b → IsAsking d p c l m Store s Ac t b → t ≡ Plain
    by true e a = absurd a.phase.1
    by false e a = plain_if Ac t e

pub answerable : (d : Draft) (p : DirOrder) (c f : ℕ) (l : Line) (m : Mark) (y : Desc) (slot : Option SentRequest) → IsLined d p c l m y slot → answers_it d y f ≡ true → IsAnswerable d y f
answerable d p c f l m (Stable s) slot h g = record { level = refl; same = refl }
answerable d p c f l m (Leave s) slot h g = record { level = refl; same = refl }
answerable d p c f l m (Ask Store s Ad t) slot h g =
    let plain = earlier_plain d s f t g in
    record {
      level = ap (λ t. not (is_ahead Ad t)) plain;
      same = ap (λ (b : Bool). if b then earlier_choices d s f else later_choices d s Store Ad t f) g ∙ ap (λ t. answer_choices d s f (λ x. Ask Store x (store_phase d x) t)) (sym plain);
    }
answerable d p c f l m (Ask Store s Ac t) slot h g =
    let plain = count_plain d p c s l m t slot h in
    record { level = ap (λ t. not (is_ahead Ac t)) plain; same = ap (λ t. answer_choices d s f (λ x. Ask Store x (store_phase d x) t)) (sym plain) }
answerable d p c f l m (Ask Store s D t) slot h g = cc
answerable d p c f l m (Ask Store s A t) slot h g = cc
answerable d p c f l m (Ask Load s ph t) slot h g = cc
answerable d p c f l m (Ask Evict s ph t) slot h g = cc

-- the move by an answer
pub answer_moves : (d : Draft) (pick : Picks) (w : World) (c f r i k : ℕ) (ms : List Ordered) (ch : Choice) (rs : List Reply) → (core w c).queue ≡ Forward f r i k ∷ ms → pick (core w c).line.desc (at.Forward f) ≡ Some ch
    → (h : IsAnswer d (base (core w c).line.desc) f (with_base d (core w c).line.desc) ch)
    → do_acts d (received_ordered (core w c).line (Forward f r i k)) (answer d f h.take.reply) (starts (core w c).line (core w c).slot)
    ≡ record { line = record (core w c).line { stamp = k }; slot = (core w c).slot; replies = rs; done = None }
    → move d pick w (Ordered_to c) ≡ moved c (with_answer d (core w c) h.take.next k ms) (w.replies ++ rs) (w.done ++ []) w
answer_moves d pick w c f r i k ms ch rs queue picks h does =
    ap (deliver d pick c (core w c) w) queue
    ∙ ap (by_choice d c m (record (core w c) { queue = ms }) w) picks
    ∙ ap (λ a. settle c (record (core w c) { queue = ms }) a w) effect
  where
    m : Received
    m = received_ordered (core w c).line (Forward f r i k)

    l : Line
    l = (core w c).line

    effect : result_of d ch m l (core w c).slot ≡ record { line = answering d l h.take.next k; slot = (core w c).slot; replies = rs; done = None }
    effect =
        ap (λ xs. goes_to ch.next (do_acts d m xs (starts l (core w c).slot))) h.acts
        ∙ ap (goes_to ch.next) does
        ∙ ap (λ s. goes_to s (record { line = record l { stamp = k }; slot = (core w c).slot; replies = rs; done = None })) h.next

pub answered_kept : (d : Draft) (n : ℕ) (pick : Picks) (w : World) (m : ℕ → Mark) (c f r i k : ℕ) (ms : List Ordered) (ch : Choice) → IsWellFormed d → IsShaped d → c < n → IsOrderly d n w m
    → (core w c).queue ≡ Forward f r i k ∷ ms → answers_it d (core w c).line.desc f ≡ true → pick (core w c).line.desc (at.Forward f) ≡ Some ch → IsChosen (choices d (core w c).line.desc (at.Forward f)) ch
    → IsOrderlyWorld d n (move d pick w (Ordered_to c))
answered_kept d n pick w m c f r i k ms ch wf sh low o queue answers_here picks chosen = by (has_class class.Inv d f) refl
  where
    p : DirOrder
    p = order_of d w

    pl : IsPlaced d p c (core w c) (m c)
    pl = o.placed c low

    k0 : IsKnown d n p
    k0 = known d n p wf sh o.past

    y : Desc
    y = (core w c).line.desc

    ready : IsAnswerable d y f
    ready = answerable d p c f (core w c).line (m c) y (core w c).slot pl.line answers_here

    h : IsAnswer d (base y) f (with_base d y) ch
    h = answers d (base y) f (with_base d y) ch (subst (λ cs. IsChosen cs ch) ready.same chosen)

    before : is_pending (core w c) ≡ true → k < (m c).last
    before pend = answered_before d n w m c f r i k ms wf sh o low queue answers_here pend

    no_more : (rs : List Reply) (u : ℕ → Mark) → IsOrderly d n (moved c (with_answer d (core w c) h.take.next k ms) (w.replies ++ rs) w.done w) u
        → IsOrderly d n (moved c (with_answer d (core w c) h.take.next k ms) (w.replies ++ rs) (w.done ++ []) w) u
    no_more rs u ok = subst (λ dn. IsOrderly d n (moved c (with_answer d (core w c) h.take.next k ms) (w.replies ++ rs) dn w) u) (sym (append-nil w.done)) ok

    denies : cache_is (allows Store) d h.take.next ≡ false
    denies =
        let (g, hd) = head_of d p c (core w c) (m c) (Forward f r i k) ms pl queue in
        let fw = forward_is d p c g f r i k hd.sends in
        let fit = level_head d n p k0 c (core w c) (m c) g pl ready.level hd.from hd.inside hd.quiet (λ pend. let lt = before pend in let stamp = fw.stamp in omega (arith, lt, stamp)) in
        let (t, row, fits_now, deny) = (k0.handled g hd.inside).applies c f (base y) fw.sends fit in
        let one : t ≡ h.take = (let row_here = h.row in cc (row, row_here)) in
        subst (λ (t : TakeLine). cache_is (allows Store) d t.next ≡ false) one
        (denied d sh (entry_after d (p.dir_entry g) (p.at g)).dir (who (entry_after d (p.dir_entry g) (p.at g)) c) t.next fits_now deny)

    by : (b : Bool) → has_class class.Inv d f ≡ b → IsOrderlyWorld d n (move d pick w (Ordered_to c))
    by true inv =
        let (g, ok, from, inside_g, quiet, sends) = invalidates_kept d n w m c f r i k ms h.take wf sh low o (record { level = ready.level; queue = queue; inv = inv; take = h.row; denies = denies; before = before }) in
        let marks = marked c (record { seen = suc g; last = (m c).last }) m in (
          marks,
          subst (λ x. IsOrderly d n x marks) (sym (answer_moves d pick w c f r i k ms ch (InvAck r k ∷ []) queue picks h
              (inv_acts d (received_ordered (core w c).line (Forward f r i k)) (core w c).line (core w c).slot f h.take.reply inv))) (no_more (InvAck r k ∷ []) marks ok),
        )
    by false not_inv =
        let there = answer_there d n w m c f r i k ms wf sh low o ready.level queue not_inv before in
        let one : there.take ≡ h.take = (let row = there.row in let row_here = h.row in cc (row, row_here)) in
        let gives : h.take.reply ≡ Some there.reply = subst (λ (t : TakeLine). t.reply ≡ Some there.reply) one there.gives in
        let (g, ok, from, inside_g, quiet, sends) = answers_kept d n w m c f r i k ms h.take there.reply wf sh low o (record { level = ready.level; queue = queue; not_inv = not_inv; take = h.row; gives = gives; denies = denies; before = before }) in
        let marks = marked c (record { seen = suc g; last = (m c).last }) m in
        let rs = owner_sends d f there.reply r (core w c).line.word i k in (
          marks,
          subst (λ x. IsOrderly d n x marks) (sym (answer_moves d pick w c f r i k ms ch rs queue picks h
              (ap (λ o. do_acts d (received_ordered (core w c).line (Forward f r i k)) (answer d f o) (starts (core w c).line (core w c).slot)) gives
              ∙ answer_acts d (received_ordered (core w c).line (Forward f r i k)) (core w c).line (core w c).slot f there.reply not_inv))) (no_more rs marks ok),
        )

-- A forward that is put off

pub put_off_kept : (d : Draft) (n : ℕ) (pick : Picks) (w : World) (m : ℕ → Mark) (c : ℕ) (e : Event) (s : ℕ) (ph : Phase) (t : Tag) (f r i k : ℕ) (ms : List Ordered) → IsWellFormed d → IsShaped d → c < n → IsOrderly d n w m
    → (core w c).line.desc ≡ Ask e s ph t → (core w c).slot ≡ None → (core w c).queue ≡ Forward f r i k ∷ ms → has_class class.Inv d f ≡ false → is_later d s e t f ≡ true → (is_ahead ph t ≡ false → IsFirstPhase ph)
    → pick (Ask e s ph t) (at.Forward f) ≡ Some (taken d e s ph f) → IsOrderlyWorld d n (move d pick w (Ordered_to c))
put_off_kept d n pick w m c e s ph t f r i k ms wf sh low o desc slot queue not_inv is_late first picks =
    let (g, ok, from, inside_g, quiet, sends) = postponed d n w m c e s ph t f r i k ms wf sh low o (record {
      desc = desc;
      slot = slot;
      queue = queue;
      later = is_late;
      not_inv = not_inv;
      first = λ level. (first level, put_off_after d n w m c e s ph t f r i k ms wf sh o low desc slot queue not_inv (first level) level);
    }) in
    let marks = marked c (record { seen = suc g; last = (m c).last }) m in (
      marks,
      subst (λ x. IsOrderly d n x marks) (sym (later_puts_off d pick w c e s ph t f r i k ms desc slot queue not_inv picks))
          (subst (λ rs. IsOrderly d n (moved c (with_put_off d (core w c) e s ph (Forward f r i k) f ms) rs (w.done ++ []) w) marks) (sym (append-nil w.replies))
          (subst (λ dn. IsOrderly d n (moved c (with_put_off d (core w c) e s ph (Forward f r i k) f ms) w.replies dn w) marks) (sym (append-nil w.done)) ok)),
    )

-- Which of them it is

-- a line that isn't pending answers whatever comes
pub idle_answers : (d : Draft) (n : ℕ) (w : World) (m : ℕ → Mark) (c f r i k : ℕ) (ms : List Ordered) → IsWellFormed d → IsShaped d → c < n → IsOrderly d n w m → (core w c).queue ≡ Forward f r i k ∷ ms
    → is_pending (core w c) ≡ false → answers_it d (core w c).line.desc f ≡ true
idle_answers d n w m c f r i k ms wf sh low o queue idle = by (core w c).line.desc (core w c).slot idle pl.line
  where
    p : DirOrder
    p = order_of d w

    pl : IsPlaced d p c (core w c) (m c)
    pl = o.placed c low

    k0 : IsKnown d n p
    k0 = known d n p wf sh o.past

    g : ℕ
    g = (head_of d p c (core w c) (m c) (Forward f r i k) ms pl queue).0

    hd : IsHead d p c (m c) g (Forward f r i k)
    hd = (head_of d p c (core w c) (m c) (Forward f r i k) ms pl queue).1

    fw : IsSent d p c g f r i k
    fw = forward_is d p c g f r i k hd.sends

    fit : (s : ℕ) → (m c).last ≤ (m c).seen → IsLevel d p c (core w c).line (m c) s → fits d (p.dir_entry g) c s ≡ true
    fit s behind lv = let inside = hd.inside in fits_at d n p k0 c (core w c) (m c) g s pl hd.from (omega (arith, inside)) hd.quiet (inl behind) lv.state

    storing : (s : ℕ) (ph : Phase) (t : Tag) → MayBegin d Store s ph → t ≡ Plain → fits d (p.dir_entry g) c s ≡ true → answers_it d (Ask Store s ph t) f ≡ true
    storing s D t begins plain fit = absurd (store_waits_not d s begins.1)
    storing s Ac t begins plain fit = refl
    storing s A t begins plain fit = absurd (never (cache_is (λ c. is_owner c.role) d s) begins.1)
      where
        never : (b : Bool) → A ≡ (if b then Ac else Ad) → ⊥
        never true e = cc
        never false e = cc
    storing s Ad t begins plain fit = subst (λ t. is_earlier d s t f ≡ true) (sym plain) (elim (sent_is d n (p.dir_entry g) (p.at g) c f (k0.handled g hd.inside) fw.other fw.sends) [
      | inl owns ↦ absurd (
          let owner = sh.lists.lists_owners (p.dir_entry g).dir s (ap (λ u. fits_as d (p.dir_entry g).dir u s) (sym owns) ∙ fit) in
          let ac : store_phase d s ≡ Ac = rw owner refl in let x : Ad ≡ Ac = begins.1 ∙ ac in cc)
      | inr (shares, inv) ↦ (let one : is (shared d) s ≡ true = ap (λ u. fits_as d (p.dir_entry g).dir u s) (sym shares) ∙ fit in rw (one, inv) refl)
    ])

    by : (y : Desc) (slot : Option SentRequest) → (not (is_stable y) && is_none slot) ≡ false → IsLined d p c (core w c).line (m c) y slot → answers_it d y f ≡ true
    by (Stable s) slot h l = refl
    by (Leave s) slot h l = refl
    by (Ask e s ph t) None h l = cc
    by (Ask Load s ph t) (Some a) h l = absurd (out_not_due d s f sh (is_same (out d) s l.2.0) (sent_is_due d n (p.dir_entry g) (p.at g) c f s sh (k0.handled g hd.inside) fw.other fw.sends (fit s l.5 l.1)))
    by (Ask Store s ph t) (Some a) h l = storing s ph t l.2 l.3 (fit s l.5 l.1)
    by (Ask Evict s ph t) (Some a) h l = absurd l.2

-- what isn't answered at once, nor an invalidation, is put off
pub waits_kept : (d : Draft) (n : ℕ) (pick : Picks) (w : World) (m : ℕ → Mark) (c f r i k : ℕ) (ms : List Ordered) (ch : Choice) → IsWellFormed d → IsShaped d → c < n → IsOrderly d n w m
    → (core w c).queue ≡ Forward f r i k ∷ ms → is_pending (core w c) ≡ true → answers_it d (core w c).line.desc f ≡ false → has_class class.Inv d f ≡ false
    → pick (core w c).line.desc (at.Forward f) ≡ Some ch → IsChosen (choices d (core w c).line.desc (at.Forward f)) ch → list_any is_stall ch.acts ≡ false → IsOrderlyWorld d n (move d pick w (Ordered_to c))
waits_kept d n pick w m c f r i k ms ch wf sh low o queue pend not_here not_inv picks chosen moves = by (core w c).line.desc refl (core w c).slot refl pend not_here chosen
  where
    put : (e : Event) (s : ℕ) (ph : Phase) (t : Tag) → (core w c).line.desc ≡ Ask e s ph t → (core w c).slot ≡ None → (is_ahead ph t ≡ false → IsFirstPhase ph) → IsChosen (later_choices d s e ph t f) ch → IsOrderlyWorld d n (move d pick w (Ordered_to c))
    put e s ph t desc slot first h =
        let (is_late, which) = laters d s e ph t f ch h in
        elim which [
          | inl stalls ↦ absurd (let stall : list_any is_stall ch.acts ≡ true = ap (λ (c : Choice). list_any is_stall c.acts) stalls in cc (stall, moves))
          | inr takes ↦ put_off_kept d n pick w m c e s ph t f r i k ms wf sh low o desc slot queue not_inv is_late first
              (ap (λ y. pick y (at.Forward f)) (sym desc) ∙ picks ∙ ap Some takes)
        ]

    by : (y : Desc) → (core w c).line.desc ≡ y → (slot : Option SentRequest) → (core w c).slot ≡ slot → (not (is_stable y) && is_none slot) ≡ true → answers_it d y f ≡ false → IsChosen (choices d y (at.Forward f)) ch → IsOrderlyWorld d n (move d pick w (Ordered_to c))
    by (Stable s) desc slot is_slot pend no_answer h = cc
    by (Leave s) desc slot is_slot pend no_answer h = cc
    by (Ask e s ph t) desc (Some a) is_slot pend no_answer h = cc
    by (Ask Load s D t) desc None is_slot pend no_answer h = put Load s D t desc is_slot (λ z. tt) h
    by (Ask Load s Ad t) desc None is_slot pend no_answer h = absurd (none_chosen ch h)
    by (Ask Load s Ac t) desc None is_slot pend no_answer h = absurd (none_chosen ch h)
    by (Ask Load s A t) desc None is_slot pend no_answer h = absurd (none_chosen ch h)
    by (Ask Store s D t) desc None is_slot pend no_answer h = absurd (none_chosen ch h)
    by (Ask Store s Ad t) desc None is_slot pend no_answer h = put Store s Ad t desc is_slot (λ z. tt) (subst (λ (b : Bool). IsChosen (if b then earlier_choices d s f else later_choices d s Store Ad t f) ch) no_answer h)
    by (Ask Store s Ac t) desc None is_slot pend no_answer h = cc
    by (Ask Store s A t) desc None is_slot pend no_answer h = put Store s A t desc is_slot (λ z. let x : is_ahead A t ≡ true = refl in cc) h
    by (Ask Evict s ph t) desc None is_slot pend no_answer h = absurd (none_chosen ch h)
