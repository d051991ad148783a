-- An invalidation at a line that doesn't answer it as where it began: the world stays orderly.
use Rattle.std.proofs.Common.{◌≡◌, ℕ, suc, ◌<◌, arith, Bool, true, false, not, List, [], ◌∷◌, ◌++◌, Option, Some, None, refl, sym, ap, subst, ◌∙◌, inl, inr}
use Rattle.std.specs.Prelude.{slice_get, if◌then◌else◌}
use Rattle.std.specs.List.{list_any}
use Rattle.std.specs.Option.{option_map, option_and_then}
use Rattle.std.proofs.lemmas.List.{append-nil}
use Rattle.pg_perm.proofs.Booleans.{and_true}
use Rattle.pg_perm.specs.declared.kinds.Event.{Event}
use Rattle.pg_perm.specs.declared.kinds.Event.TheVariants.{Load, Store, Evict}
use Rattle.pg_perm.specs.declared.kinds.Who.TheVariants.{Owner, Sharer}
use Rattle.pg_perm.specs.declared.kinds.FwdClass.TheVariants.{Inv, Keep}
use Rattle.pg_perm.specs.declared.draft.Draft.{Draft}
use Rattle.pg_perm.specs.declared.draft.TakeLine.{TakeLine}
use Rattle.pg_perm.specs.declared.draft.CacheLine.{CacheLine}
use Rattle.pg_perm.specs.declared.draft.ReplyName.{ReplyName}
use Rattle.pg_perm.specs.Drafts.{IsWellFormed}
use Rattle.pg_terms.specs.Terms.{is, is_owner, is_read_owner, is_read_perm, cache_is, shared, forward_of, has_class, take_row, keep_of}
use Rattle.pg_terms.specs.Rows.{may_keep, allows}
use Rattle.pg_shape.specs.Shaped.{IsShaped}
use Rattle.pg_shape.proofs.Bools.{true_not, and_of_both}
use Rattle.pg_shape.proofs.Searches.{map_or_get}
use Rattle.pg_directory.specs.DirEntries.{who}
use Rattle.pg_directory.specs.Sound.{fits, fits_as}
use Rattle.pg_directory.specs.Requests.{IsReply}
use Rattle.pg_directory.proofs.Facts.{first_has_class}
use Rattle.pg_atomic.proofs.Fits.{shared_stores}
use Rattle.pg_table.specs.declared.cache.Desc.{Desc}
use Rattle.pg_table.specs.declared.cache.Desc.TheVariants.{Stable, Ask, Leave}
use Rattle.pg_table.specs.declared.cache.Phase.{Phase}
use Rattle.pg_table.specs.declared.cache.Phase.TheVariants.{D, Ad, Ac, A}
use Rattle.pg_table.specs.declared.cache.Tag.{Tag}
use Rattle.pg_table.specs.declared.cache.Tag.TheVariants.{Plain, Kept, Gave, Gone}
use Rattle.pg_table.specs.declared.cache.Act.TheVariants as act
use Rattle.pg_table.specs.declared.cache.Input.TheVariants as at_input
use Rattle.pg_table.specs.Tables.{TableState}
use Rattle.pg_table.specs.Descriptors.{end_under_tag}
use Rattle.pg_table.specs.Choices.{Choice, is_later, is_earlier, earlier_choices, later_choices, tag_by, choices}
use Rattle.pg_table.specs.Pick.{pick as picked}
use Rattle.pg_table.specs.Sound.{IsSoundCache}
use Rattle.pg_table.specs.Stalls.{is_stall}
use Rattle.pg_messages.specs.declared.messages.Ordered.{Ordered}
use Rattle.pg_messages.specs.declared.messages.Ordered.TheVariants.{Forward}
use Rattle.pg_order.specs.Messages.{sent_between}
use Rattle.pg_order.specs.Orders.{DirOrder, entry_message}
use Rattle.pg_order.proofs.Known.{IsKnown, known}
use Rattle.pg_order.proofs.Quiet.{IsSent, forward_is}
use Rattle.pg_order.proofs.Invs.{who_sharer}
use Rattle.pg_order.proofs.Race.{before_own}
use Rattle.pg_messages.specs.declared.messages.Reply.TheVariants.{InvAck}
use Rattle.pg_controllers.specs.Networks.{Line}
use Rattle.pg_controllers.specs.Lines.{result_of, received_ordered}
use Rattle.pg_messages.specs.declared.messages.WorldEvent.TheVariants.{Ordered as Ordered_to}
use Rattle.pg_controllers.specs.Worlds.{World, core, order_of, move, is_stable, waits, has_head, is_enabled}
use Rattle.pg_orderly.specs.Orderly.{Mark, is_pending, HasPending, IsAhead, is_ahead, IsAsking, IsLined, IsPlaced, IsOrderly}
use Rattle.pg_orderly.proofs.Keeping.{marked, moved}
use Rattle.pg_orderly.proofs.Rows.{IsChosen, none_chosen, laters, taken}
use Rattle.pg_safe.specs.Moving.{IsComplete}
use Rattle.pg_safe.proofs.Ends.{none_after, none_before, begins_lacks}
use Rattle.pg_safe.proofs.Heads.{IsHead, head_of, fits_at, owner_owns}
use Rattle.pg_safe.proofs.Race.{plain_of}
use Rattle.pg_safe.proofs.Sides.{answers_it}
use Rattle.pg_safe.proofs.Waiting.{head_met}
use Rattle.pg_completions.specs.Answering as answering
use Rattle.pg_completions.proofs.Late.{inv_tag, IsGranted, ahead_grants}
use Rattle.pg_completions.proofs.Picks.{chosen_by, no_slot}
use Rattle.pg_completions.proofs.Counted.{with_message, message_moves}
use Rattle.pg_completions.proofs.Early.{IsEarly, acknowledged}

-- a state to which a keep leads is an owner's
keep_owns : (d : Draft) (x y : ℕ) → IsShaped d → keep_of d x ≡ Some y → cache_is (λ c. is_owner c.role) d y ≡ true
keep_owns d x y sh e = at (forward_of d Keep) refl e
  where
    owner : (c : CacheLine) → is_read_owner c ≡ true → is_owner c.role ≡ true
    owner c h = (and_true (is_owner c.role) (is_read_perm c.perm) h).0

    by_row : (k : ℕ) → forward_of d Keep ≡ Some k → (o : Option TakeLine) → take_row d x k ≡ o → option_map (λ (t : TakeLine). t.next) o ≡ Some y → cache_is (λ c. is_owner c.role) d y ≡ true
    by_row k is None row e = cc
    by_row k is (Some t) row e =
        let next : t.next ≡ y = cc in
        let reads : cache_is is_read_owner d t.next ≡ true = (sh.takes.keep x k t row (first_has_class d Keep k is)).1 in
        let (c, get, so) = map_or_get is_read_owner (slice_get d.caches y) (subst (λ y. cache_is is_read_owner d y ≡ true) next reads) in
        rw get (owner c so)

    at : (o : Option ℕ) → forward_of d Keep ≡ o → option_map (λ (t : TakeLine). t.next) (option_and_then (λ f. take_row d x f) o) ≡ Some y → cache_is (λ c. is_owner c.role) d y ≡ true
    at None is e = cc
    at (Some k) is e = by_row k is (take_row d x k) refl e

if_some : (b : Bool) (o : Option ℕ) (x : ℕ) → (if b then o else None) ≡ Some x → o ≡ Some x
if_some true o x e = e
if_some false o x e = cc

pub early_case : (d : Draft) (t : List TableState) (n : ℕ) (w : World) (m : ℕ → Mark) (c f r i k : ℕ) (ms : List Ordered) → IsWellFormed d → IsShaped d → IsSoundCache d t → IsOrderly d n w m → IsComplete t n w
    → c < n → (core w c).queue ≡ Forward f r i k ∷ ms → has_class Inv d f ≡ true → is_pending (core w c) ≡ true → answers_it d (core w c).line.desc f ≡ false → is_enabled (picked t) w (Ordered_to c) ≡ true
    → (s : ℕ) × (tg : Tag) × IsEarly d w m c s tg f r i k ms × (move d (picked t) w (Ordered_to c) ≡ moved c (Rattle.pg_completions.proofs.Early.with_early (core w c) s k ms) (w.replies ++ InvAck r k ∷ []) w.done w)
early_case d t n w m c f r i k ms wf sh sound o full low queue inv pend answers on =
    let met_it = head_met d n w m c g.0 (Forward f r i k) sh k0 low o g.1 in
    let (ch, picks, chosen) = chosen_by d t l.desc (at_input.Forward f) wf sh sound (full.states c low) met_it.due in
    let moves : list_any is_stall ch.acts ≡ false = true_not (list_any is_stall ch.acts) (ap (λ o. not (waits o)) (sym picks) ∙ ap (has_head (picked t) l) (sym queue) ∙ on) in
    let (s, tg, early, effect) = by ch moves l.desc refl answers chosen in
    (s, tg, early, message_moves d (picked t) w c (Forward f r i k) ms ch queue picks ∙ effect)
  where
    p : DirOrder
    p = order_of d w

    l : Line
    l = (core w c).line

    k0 : IsKnown d n p
    k0 = known d n p wf sh o.past

    pl : IsPlaced d p c (core w c) (m c)
    pl = o.placed c low

    g : (g : ℕ) × IsHead d p c (m c) g (Forward f r i k)
    g = head_of d p c (core w c) (m c) (Forward f r i k) ms pl queue

    fw : IsSent d p c g.0 f r i k
    fw = forward_is d p c g.0 f r i k g.1.sends

    slot : (core w c).slot ≡ None
    slot = no_slot (not (is_stable l.desc)) (core w c).slot pend

    shares : who (p.dir_entry g.0) c ≡ Sharer
    shares = who_sharer d n (p.dir_entry g.0) (p.at g.0) c f (k0.handled g.0 g.1.inside) fw.other fw.sends inv

    Done : Choice → Type 0
    Done ch = (s : ℕ) × (tg : Tag) × IsEarly d w m c s tg f r i k ms × (with_message w c ms (result_of d ch (received_ordered l (Forward f r i k)) l (core w c).slot) ≡ moved c (Rattle.pg_completions.proofs.Early.with_early (core w c) s k ms) (w.replies ++ InvAck r k ∷ []) w.done w)

    lined : (e : Event) (s : ℕ) (ph : Phase) (tg : Tag) → l.desc ≡ Ask e s ph tg → HasPending l e × IsAsking d p c l (m c) e s ph tg (is_ahead ph tg)
    lined e s ph tg desc = subst (IsLined d p c l (m c) (Ask e s ph tg)) slot (subst (λ x. IsLined d p c l (m c) x (core w c).slot) desc pl.line)

    -- a line that is ahead meets no invalidation
    never_ahead : (e : Event) (s : ℕ) (ph : Phase) (tg : Tag) → is_later d s e tg f ≡ true → (tg ≡ Plain → e ≡ Store) → IsAhead d p c l (m c) e s ph tg → ⊥
    never_ahead e s ph tg late plain a = by tg late plain a.tag grant.told
      where
        entry_low : a.ordered.entry < p.top
        entry_low = let last = a.ordered.last in let upto = pl.last_low in omega (arith, last, upto)

        reply : (name : ReplyName) × IsReply d (p.dir_entry a.ordered.entry) (p.at a.ordered.entry) name
        reply = (k0.handled a.ordered.entry entry_low).replied (λ z. (Rattle.pg_safe.proofs.Ends.phase_lacks d e s ph sh a.phase).0 (sym a.ordered.event ∙ z))

        grant : IsGranted d p c (m c).seen e s tg (sent_between (entry_message d p c) (m c).last a.past) reply.0
        grant = ahead_grants d n p sh k0 c (core w c) (m c) l e s ph tg pl a reply.0 reply.1

        fit : fits d (p.dir_entry g.0) c grant.state ≡ true
        fit = let inside = g.1.inside in let upto = a.upto in fits_at d n p k0 c (core w c) (m c) g.0 grant.state pl g.1.from (omega (arith, inside)) g.1.quiet (inl (omega (arith, upto))) grant.fits

        is_shared : is (shared d) grant.state ≡ true
        is_shared = ap (λ u. fits_as d (p.dir_entry g.0).dir u grant.state) (sym shares) ∙ fit

        by : (u : Tag) → is_later d s e u f ≡ true → (u ≡ Plain → e ≡ Store) → Rattle.pg_orderly.specs.Orderly.tag_from d Plain (sent_between (entry_message d p c) (m c).last a.past) ≡ Some tg → end_under_tag d grant.fin u ≡ Some grant.state → ⊥
        by Plain late plain tag told =
            let same : grant.fin ≡ grant.state = cc in
            let lacks = shared_stores d sh grant.state is_shared in
            let may : cache_is (allows Store) d grant.state ≡ true = subst (λ x. cache_is (allows Store) d x ≡ true) same (subst (λ e. cache_is (allows e) d grant.fin ≡ true) (plain refl) grant.may) in cc (lacks, may)
        by Kept late plain tag told =
            let owner = keep_owns d grant.fin grant.state sh (if_some (may_keep d grant.fin) (keep_of d grant.fin) grant.state told) in
            let owns = owner_owns d (p.dir_entry g.0) c grant.state sh fit owner in
            let x : Sharer ≡ Owner = sym shares ∙ owns in cc
        by Gave late plain tag told = cc
        by Gone late plain tag told = cc

    -- nor does a store that is level, and doesn't answer it
    never_level : (s : ℕ) (ph : Phase) (tg : Tag) → is_earlier d s Plain f ≡ false → IsAsking d p c l (m c) Store s ph tg false → ⊥
    never_level s ph tg not_early a =
        let last = a.2.last in
        let behind = a.3 in
        let inside = g.1.inside in
        let upto = pl.last_low in
        let before = before_own d n p k0 c a.2.entry g.0 f (omega (arith, last, upto)) g.1.inside (pl.last_own a.2.entry last) a.2.event
        (λ j lo hi. none_after d p c (core w c) (m c) pl (suc a.2.entry) p.top (omega (arith, last)) (omega arith) j lo hi)
        (λ j lo hi. g.1.quiet j (omega (arith, lo, last, behind)) hi) fw.other fw.sends inv in
        let fit = fits_at d n p k0 c (core w c) (m c) g.0 s pl g.1.from (omega (arith, inside)) g.1.quiet (inr (omega (arith, last, before))) a.0.state in
        let is_shared : is (shared d) s ≡ true = ap (λ u. fits_as d (p.dir_entry g.0).dir u s) (sym shares) ∙ fit in
        let early = and_of_both (is (shared d) s) (has_class Inv d f) is_shared inv in cc (early, not_early)

    -- a load acknowledges it
    loads : (ch : Choice) (s : ℕ) (tg : Tag) → list_any is_stall ch.acts ≡ false → l.desc ≡ Ask Load s D tg → IsChosen (later_choices d s Load D tg f) ch → Done ch
    loads ch s tg moves desc h =
        let (late, which) = laters d s Load D tg f ch h in
        elim which [
          | inl stalls ↦ absurd (let waits_here : list_any is_stall ch.acts ≡ true = ap (λ (c : Choice). list_any is_stall c.acts) stalls in cc (moves, waits_here))
          | inr takes ↦ at late takes (is_ahead D tg) refl (lined Load s D tg desc).1
        ]
      where
        plain_level : (tg : Tag) → tg ≡ Plain → is_ahead D tg ≡ false
        plain_level tg e = ap (is_ahead D) e

        at : is_later d s Load tg f ≡ true → ch ≡ taken d Load s D f → (b : Bool) → is_ahead D tg ≡ b → IsAsking d p c l (m c) Load s D tg b → Done ch
        at late takes true lead a = absurd (never_ahead Load s D tg late (λ plain. absurd (let level = plain_level tg plain in cc (level, lead))) a)
        at late takes false level a =
            (s, tg, record { desc = desc; slot = slot; queue = queue; inv = inv; pends = (lined Load s D tg desc).0; level = a }, effect)
          where
            gone : (if has_class Inv d f then act.Ack else act.Defer) ≡ act.Ack
            gone = rw inv refl

            acts : result_of d ch (received_ordered l (Forward f r i k)) l (core w c).slot ≡ record { line = record l { desc = Ask Load s D Gone; stamp = k }; slot = None; replies = InvAck r k ∷ []; done = None }
            acts =
                ap (result_of d ch (received_ordered l (Forward f r i k)) l) slot
                ∙ ap (λ (ch : Choice). result_of d ch (received_ordered l (Forward f r i k)) l None) takes
                ∙ ap (λ a. result_of d (record { acts = a ∷ []; next = Ask Load s D (tag_by d f) }) (received_ordered l (Forward f r i k)) l None) gone
                ∙ ap (λ u. result_of d (record { acts = act.Ack ∷ []; next = Ask Load s D u }) (received_ordered l (Forward f r i k)) l None) (inv_tag d f inv)

            effect : with_message w c ms (result_of d ch (received_ordered l (Forward f r i k)) l (core w c).slot) ≡ moved c (Rattle.pg_completions.proofs.Early.with_early (core w c) s k ms) (w.replies ++ InvAck r k ∷ []) w.done w
            effect = ap (with_message w c ms) acts
                ∙ ap (λ dn. moved c (Rattle.pg_completions.proofs.Early.with_early (core w c) s k ms) (w.replies ++ InvAck r k ∷ []) dn w) (append-nil w.done)

    -- a store doesn't meet it
    stores : (ch : Choice) (s : ℕ) (ph : Phase) (tg : Tag) → l.desc ≡ Ask Store s ph tg → (tg ≡ Plain → is_ahead ph tg ≡ false → is_earlier d s Plain f ≡ false) → IsChosen (later_choices d s Store ph tg f) ch → Done ch
    stores ch s ph tg desc not_early h = absurd (at (laters d s Store ph tg f ch h).0 (is_ahead ph tg) refl (lined Store s ph tg desc).1)
      where
        at : is_later d s Store tg f ≡ true → (b : Bool) → is_ahead ph tg ≡ b → IsAsking d p c l (m c) Store s ph tg b → ⊥
        at late true lead a = never_ahead Store s ph tg late (λ plain. refl) a
        at late false level a = never_level s ph tg (not_early (plain_of ph tg level) level) a

    by : (ch : Choice) → list_any is_stall ch.acts ≡ false → (x : Desc) → l.desc ≡ x → answers_it d x f ≡ false → IsChosen (choices d x (at_input.Forward f)) ch → Done ch
    by ch moves (Stable s) desc not_it h = cc
    by ch moves (Leave s) desc not_it h = cc
    by ch moves (Ask Load s D tg) desc not_it h = loads ch s tg moves desc h
    by ch moves (Ask Load s Ad tg) desc not_it h = absurd (none_chosen ch h)
    by ch moves (Ask Load s Ac tg) desc not_it h = absurd (none_chosen ch h)
    by ch moves (Ask Load s A tg) desc not_it h = absurd (none_chosen ch h)
    by ch moves (Ask Store s D tg) desc not_it h = absurd (none_chosen ch h)
    by ch moves (Ask Store s Ad tg) desc not_it h =
        stores ch s Ad tg desc (λ plain level. ap (λ tg. is_earlier d s tg f) (sym plain) ∙ not_it)
        (subst (λ (b : Bool). IsChosen (if b then earlier_choices d s f else later_choices d s Store Ad tg f) ch) not_it h)
    by ch moves (Ask Store s Ac tg) desc not_it h = cc
    by ch moves (Ask Store s A tg) desc not_it h = stores ch s A tg desc (λ plain level. cc) h
    by ch moves (Ask Evict s ph tg) desc not_it h = absurd (none_chosen ch h)

pub early_kept : (d : Draft) (t : List TableState) (n : ℕ) (w : World) (m : ℕ → Mark) (c f r i k : ℕ) (ms : List Ordered) → IsWellFormed d → IsShaped d → IsSoundCache d t → IsOrderly d n w m → IsComplete t n w
    → c < n → (core w c).queue ≡ Forward f r i k ∷ ms → has_class Inv d f ≡ true → is_pending (core w c) ≡ true → answers_it d (core w c).line.desc f ≡ false → is_enabled (picked t) w (Ordered_to c) ≡ true
    → (u : ℕ → Mark) × IsOrderly d n (move d (picked t) w (Ordered_to c)) u
early_kept d t n w m c f r i k ms wf sh sound o full low queue inv pend answers on =
    let (s, tg, early, moves) = early_case d t n w m c f r i k ms wf sh sound o full low queue inv pend answers on in
    let (h, ok, from, inside_h, quiet, sends) = acknowledged d n w m c s tg f r i k ms wf sh low o early in
    (marked c (record { seen = suc h; last = (m c).last }) m, subst (λ z. IsOrderly d n z (marked c (record { seen = suc h; last = (m c).last }) m)) (sym moves) ok)

-- the two definitions of what is answered are one
pub same_answers : (d : Draft) (x : Desc) (f : ℕ) → answers_it d x f ≡ answering.answers_it d x f
same_answers d (Stable s) f = refl
same_answers d (Leave s) f = refl
same_answers d (Ask Load s ph t) f = refl
same_answers d (Ask Store s D t) f = refl
same_answers d (Ask Store s Ad t) f = refl
same_answers d (Ask Store s Ac t) f = refl
same_answers d (Ask Store s A t) f = refl
same_answers d (Ask Evict s ph t) f = refl
