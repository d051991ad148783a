-- Data, by whatever row: the world stays orderly.
use Rattle.std.proofs.Common.{◌≡◌, ℕ, ◌<◌, arith, Bool, true, false, not, List, [], ◌∷◌, Some, None, refl, sym, ap, subst, ◌∙◌, ◌⊎◌, inl, inr}
use Rattle.std.specs.Prelude.{◌==◌, slice_get, is_some, if◌then◌else◌}
use Rattle.pg_perm.specs.declared.kinds.Event.{Event}
use Rattle.pg_perm.specs.declared.kinds.Event.TheVariants.{Load, Store, Evict}
use Rattle.pg_perm.specs.declared.draft.Draft.{Draft}
use Rattle.pg_perm.specs.declared.draft.ReplyName.TheVariants as named
use Rattle.pg_perm.specs.Drafts.{IsWellFormed}
use Rattle.pg_terms.specs.Terms.{cache_is, shared}
use Rattle.pg_terms.specs.Rows.{allows, final_state}
use Rattle.pg_shape.specs.Shaped.{IsShaped}
use Rattle.pg_directory.specs.Requests.{IsReply}
use Rattle.pg_table.specs.declared.cache.Desc.{Desc}
use Rattle.pg_table.specs.declared.cache.Desc.TheVariants.{Stable, Ask, Leave}
use Rattle.pg_table.specs.declared.cache.Phase.{Phase}
use Rattle.pg_table.specs.declared.cache.Phase.TheVariants.{D, Ad, Ac, A}
use Rattle.pg_table.specs.declared.cache.Tag.{Tag}
use Rattle.pg_table.specs.declared.cache.Tag.TheVariants.{Plain}
use Rattle.pg_orderly.proofs.Keeping.{marked}
use Rattle.pg_table.specs.declared.cache.Act.TheVariants as act
use Rattle.pg_table.specs.declared.cache.Input.TheVariants as at_input
use Rattle.pg_table.specs.Tables.{TableState}
use Rattle.pg_table.specs.Choices.{Choice, only_choice, choices_if_some, choices}
use Rattle.pg_table.specs.Pick.{pick as picked}
use Rattle.pg_table.specs.Sound.{IsSoundCache}
use Rattle.pg_order.specs.Messages.{sent_between}
use Rattle.pg_order.specs.Orders.{DirOrder, entry_message}
use Rattle.pg_order.proofs.Known.{IsKnown, known}
use Rattle.pg_messages.specs.declared.messages.Reply.TheVariants.{Data}
use Rattle.pg_controllers.specs.Networks.{Line}
use Rattle.pg_controllers.specs.Lines.{result_of, reply_input, received_reply}
use Rattle.pg_messages.specs.declared.messages.WorldEvent.TheVariants.{Reply as Reply_at}
use Rattle.pg_controllers.specs.Worlds.{World, core, order_of, move, is_stable}
use Rattle.pg_orderly.specs.Orderly.{Mark, HasPending, IsAhead, is_ahead, IsAsking, IsLined, IsPlaced, IsOrderly}
use Rattle.pg_orderly.proofs.Rows.{IsChosen, none_chosen, only_chosen, where_true, where_given, IsEnd, ends_so}
use Rattle.pg_safe.specs.Moving.{IsComplete}
use Rattle.pg_safe.proofs.Race.{plain_of}
use Rattle.pg_safe.proofs.Replies.{IsDatum, datum, data_due}
use Rattle.pg_completions.proofs.Late.{IsLate, ahead_grants, tag_splits, store_not_late}
use Rattle.pg_completions.proofs.Picks.{chosen_by, with_reply, data_moves, no_slot}
use Rattle.pg_completions.proofs.Filled.{IsDone, done_kept, ahead_done, level_done}
use Rattle.pg_completions.proofs.LateFill.{late_kept}
use Rattle.pg_completions.proofs.PartFill.{part_ahead, part_level}

pub data DataCase (d : Draft) (n : ℕ) (w : World) (m : ℕ → Mark) (i r c v cnt k : ℕ) (ch : Choice) : Type 0 where
  Done : (e : Event) (s : ℕ) (ph : Phase) (t : Tag) → (e ≡ Load) ⊎ (e ≡ Store) → (cnt == (core w c).line.got) ≡ true → IsDone d w m c e s ph t i r v cnt k ch → DataCase d n w m i r c v cnt k ch
  Late : (s : ℕ) (ph : Phase) (t : Tag) → (core w c).line.desc ≡ Ask Load s ph t → (core w c).slot ≡ None → HasPending (core w c).line Load → IsEnd d t (act.Fill ∷ []) (final_state d s Load (named.Reply r)) ch
      → (a : IsAhead d (order_of d w) c (core w c).line (m c) Load s ph t) → IsLate d t (sent_between (entry_message d (order_of d w) c) (m c).last a.past) → DataCase d n w m i r c v cnt k ch
  PartAhead : (s : ℕ) (t : Tag) → (core w c).line.desc ≡ Ask Store s Ad t → (core w c).slot ≡ None → HasPending (core w c).line Store → (cnt == (core w c).line.got) ≡ false
      → ch ≡ record { acts = act.Fill ∷ act.Need ∷ []; next = Ask Store s A t } → IsAhead d (order_of d w) c (core w c).line (m c) Store s Ad t → DataCase d n w m i r c v cnt k ch
  PartLevel : (s : ℕ) (t : Tag) → (core w c).line.desc ≡ Ask Store s Ad t → (core w c).slot ≡ None → HasPending (core w c).line Store → (cnt == (core w c).line.got) ≡ false
      → ch ≡ record { acts = act.Fill ∷ act.Need ∷ []; next = Ask Store s A t } → t ≡ Plain → IsAsking d (order_of d w) c (core w c).line (m c) Store s Ad t false → DataCase d n w m i r c v cnt k ch

pub data_case : (d : Draft) (t : List TableState) (n : ℕ) (w : World) (m : ℕ → Mark) (i r c v cnt k : ℕ) → IsWellFormed d → IsShaped d → IsSoundCache d t → IsOrderly d n w m → IsComplete t n w
    → slice_get w.replies i ≡ Some (Data r c v cnt k) → (c < n) × (ch : Choice) × DataCase d n w m i r c v cnt k ch × (move d (picked t) w (Reply_at i) ≡ with_reply w c i (result_of d ch (received_reply d (core w c).line (Data r c v cnt k)) (core w c).line (core w c).slot))
data_case d t n w m i r c v cnt k wf sh sound o full get =
    let (low, due) = data_due d n w m i r c v cnt k wf sh o get in
    let (ch, picks, chosen) = chosen_by d t l.desc (reply_input l (Data r c v cnt k)) wf sh sound (full.states c low) due in
    let one = by low ch l.desc refl chosen in
    (low, ch, one, data_moves d (picked t) w i r c v cnt k ch get picks)
  where
    p : DirOrder
    p = order_of d w

    l : Line
    l = (core w c).line

    k0 : IsKnown d n p
    k0 = known d n p wf sh o.past

    z : IsDatum d n w m c r cnt
    z = datum d n w m i r c v cnt k wf sh o get

    slot : (core w c).slot ≡ None
    slot = no_slot (not (is_stable l.desc)) (core w c).slot z.pending

    Kept : Choice → Type 0
    Kept ch = DataCase d n w m i r c v cnt k ch

    lined : c < n → (e : Event) (s : ℕ) (ph : Phase) (tg : Tag) → l.desc ≡ Ask e s ph tg → HasPending l e × IsAsking d p c l (m c) e s ph tg (is_ahead ph tg)
    lined low e s ph tg desc = let pl = o.placed c low in subst (IsLined d p c l (m c) (Ask e s ph tg)) slot (subst (λ x. IsLined d p c l (m c) x (core w c).slot) desc pl.line)

    -- it is done
    all : c < n → (ch : Choice) (e : Event) (s : ℕ) (ph : Phase) (tg : Tag) → l.desc ≡ Ask e s ph tg → (e ≡ Load) ⊎ (e ≡ Store) → (cnt == l.got) ≡ true → IsEnd d tg (act.Fill ∷ []) (final_state d s e (named.Reply r)) ch → Kept ch
    all low ch e s ph tg desc which same end = at (is_ahead ph tg) refl (lined low e s ph tg desc).1
      where
        pl : IsPlaced d p c (core w c) (m c)
        pl = o.placed c low

        pends : HasPending l e
        pends = (lined low e s ph tg desc).0

        at : (b : Bool) → is_ahead ph tg ≡ b → IsAsking d p c l (m c) e s ph tg b → Kept ch
        at false level a = Done e s ph tg which same (level_done d n w m c e s ph tg i r v cnt k ch wf sh low o get desc slot pends same end (plain_of ph tg level) a)
        at true lead a = elim (tag_splits d tg (sent_between (entry_message d p c) (m c).last a.past) a.tag) [
          | inl off ↦ Done e s ph tg which same (ahead_done d n w m c e s ph tg i r v cnt k ch wf sh low o get desc slot pends same end a off)
          | inr late ↦ elim which [
            | inl load ↦
                Late s ph tg (desc ∙ ap (λ e. Ask e s ph tg) load) slot (subst (HasPending l) load pends) (subst (λ e. IsEnd d tg (act.Fill ∷ []) (final_state d s e (named.Reply r)) ch) load end)
                (as_load late load).0 (as_load late load).1
            | inr store ↦ absurd (
                let entry : z.entry ≡ a.ordered.entry = (let last = a.ordered.last in let at_it = z.last in omega (arith, last, at_it)) in
                let grant = ahead_grants d n p sh k0 c (core w c) (m c) l e s ph tg pl a (named.Reply r) (subst (λ j. IsReply d (p.dir_entry j) (p.at j) (named.Reply r)) entry z.reply) in
                store_not_late d grant.fin grant.state tg (sent_between (entry_message d p c) (m c).last a.past) sh (subst (λ e. cache_is (allows e) d grant.fin ≡ true) store grant.may) grant.leads late)
          ]
        ]
          where
            as_load : IsLate d tg (sent_between (entry_message d p c) (m c).last a.past) → e ≡ Load → (b : IsAhead d p c l (m c) Load s ph tg) × IsLate d tg (sent_between (entry_message d p c) (m c).last b.past)
            as_load late load = subst (λ e. (b : IsAhead d p c l (m c) e s ph tg) × IsLate d tg (sent_between (entry_message d p c) (m c).last b.past)) load (a, late)

    -- acknowledgements are missing
    part : c < n → (ch : Choice) (s : ℕ) (tg : Tag) → l.desc ≡ Ask Store s Ad tg → (cnt == l.got) ≡ false → ch ≡ record { acts = act.Fill ∷ act.Need ∷ []; next = Ask Store s A tg } → Kept ch
    part low ch s tg desc short is = at (is_ahead Ad tg) refl (lined low Store s Ad tg desc).1
      where
        pends : HasPending l Store
        pends = (lined low Store s Ad tg desc).0

        at : (b : Bool) → is_ahead Ad tg ≡ b → IsAsking d p c l (m c) Store s Ad tg b → Kept ch
        at false level a = PartLevel s tg desc slot pends short is (plain_of Ad tg level) a
        at true lead a = PartAhead s tg desc slot pends short is a

    by : c < n → (ch : Choice) (x : Desc) → l.desc ≡ x → IsChosen (choices d x (reply_input l (Data r c v cnt k))) ch → Kept ch
    by low ch (Stable s) desc h = at (cnt == l.got) h
      where
        at : (b : Bool) → IsChosen (choices d (Stable s) (if b then at_input.DataAll r else at_input.DataPart r)) ch → Kept ch
        at true h = absurd (none_chosen ch h)
        at false h = absurd (none_chosen ch h)
    by low ch (Leave s) desc h = at (cnt == l.got) h
      where
        at : (b : Bool) → IsChosen (choices d (Leave s) (if b then at_input.DataAll r else at_input.DataPart r)) ch → Kept ch
        at true h = absurd (none_chosen ch h)
        at false h = absurd (none_chosen ch h)
    by low ch (Ask Load s D tg) desc h = at (cnt == l.got) refl h
      where
        at : (b : Bool) → (cnt == l.got) ≡ b → IsChosen (choices d (Ask Load s D tg) (if b then at_input.DataAll r else at_input.DataPart r)) ch → Kept ch
        at true same h = all low ch Load s D tg desc (inl refl) same (ends_so d tg (act.Fill ∷ []) (final_state d s Load (named.Reply r)) ch h)
        at false short h = absurd (none_chosen ch h)
    by low ch (Ask Store s Ad tg) desc h = at (cnt == l.got) refl h
      where
        at : (b : Bool) → (cnt == l.got) ≡ b → IsChosen (choices d (Ask Store s Ad tg) (if b then at_input.DataAll r else at_input.DataPart r)) ch → Kept ch
        at true same h = all low ch Store s Ad tg desc (inr refl) same (ends_so d tg (act.Fill ∷ []) (final_state d s Store (named.Reply r)) ch h)
        at false short h =
            let (some, h) = where_true (is_some (shared d)) (choices_if_some (final_state d s Store (named.Reply r)) (λ x. only_choice (act.Fill ∷ act.Need ∷ []) (Ask Store s A tg))) ch h in
            let (x, ends, h) = where_given (final_state d s Store (named.Reply r)) (λ x. only_choice (act.Fill ∷ act.Need ∷ []) (Ask Store s A tg)) ch h in
            part low ch s tg desc short (only_chosen (record { acts = act.Fill ∷ act.Need ∷ []; next = Ask Store s A tg }) ch h)
    by low ch (Ask Load s Ad tg) desc h = absurd (none_chosen ch h)
    by low ch (Ask Load s Ac tg) desc h = absurd (none_chosen ch h)
    by low ch (Ask Load s A tg) desc h = absurd (none_chosen ch h)
    by low ch (Ask Store s D tg) desc h = absurd (none_chosen ch h)
    by low ch (Ask Store s Ac tg) desc h = at (cnt == l.got) h
      where
        at : (b : Bool) → IsChosen (choices d (Ask Store s Ac tg) (if b then at_input.DataAll r else at_input.DataPart r)) ch → Kept ch
        at true h = absurd (none_chosen ch h)
        at false h = absurd (none_chosen ch h)
    by low ch (Ask Store s A tg) desc h = at (cnt == l.got) h
      where
        at : (b : Bool) → IsChosen (choices d (Ask Store s A tg) (if b then at_input.DataAll r else at_input.DataPart r)) ch → Kept ch
        at true h = absurd (none_chosen ch h)
        at false h = absurd (none_chosen ch h)
    by low ch (Ask Evict s ph tg) desc h = absurd (none_chosen ch h)

pub data_kept : (d : Draft) (t : List TableState) (n : ℕ) (w : World) (m : ℕ → Mark) (i r c v cnt k : ℕ) → IsWellFormed d → IsShaped d → IsSoundCache d t → IsOrderly d n w m → IsComplete t n w
    → slice_get w.replies i ≡ Some (Data r c v cnt k) → (u : ℕ → Mark) × IsOrderly d n (move d (picked t) w (Reply_at i)) u
data_kept d t n w m i r c v cnt k wf sh sound o full get = let (low, ch, one, moves) = data_case d t n w m i r c v cnt k wf sh sound o full get in by low ch one moves
  where
    by : c < n → (ch : Choice) → DataCase d n w m i r c v cnt k ch → move d (picked t) w (Reply_at i) ≡ with_reply w c i (result_of d ch (received_reply d (core w c).line (Data r c v cnt k)) (core w c).line (core w c).slot)
        → (u : ℕ → Mark) × IsOrderly d n (move d (picked t) w (Reply_at i)) u
    by low ch (Done e s ph tg which same h) moves =
        let (u, ok) = (done_kept d n w m c e s ph tg i r v cnt k ch wf sh low o same h).1 in (u, subst (λ z. IsOrderly d n z u) (sym moves) ok)
    by low ch (Late s ph tg desc slot pends end a late) moves =
        let marks = marked c (record { seen = (m c).seen; last = (m c).last }) m in
        (marks, subst (λ z. IsOrderly d n z marks) (sym moves) (late_kept d n w m c s ph tg i r v cnt k ch wf sh low o get desc slot pends end a late).1)
    by low ch (PartAhead s tg desc slot pends short is a) moves =
        let marks = marked c (record { seen = (m c).seen; last = (m c).last }) m in
        (marks, subst (λ z. IsOrderly d n z marks) (sym moves) (part_ahead d n w m c s Ad tg i r v cnt k ch wf sh low o get desc slot pends short is a).1)
    by low ch (PartLevel s tg desc slot pends short is plain a) moves =
        let marks = marked c (record { seen = (m c).last; last = (m c).last }) m in
        (marks, subst (λ z. IsOrderly d n z marks) (sym moves) (part_level d n w m c s Ad tg i r v cnt k ch wf sh low o get desc slot pends short is plain a).1)
