-- An acknowledgement, by whatever row: the world stays orderly.
use Rattle.std.proofs.Common.{◌≡◌, ℕ, suc, ◌<◌, arith, Bool, true, false, ◌&&◌, not, List, [], ◌∷◌, Some, None, refl, sym, ap, subst, ◌∙◌}
use Rattle.std.specs.Prelude.{slice_get, is_some, if◌then◌else◌}
use Rattle.pg_perm.proofs.Booleans.{and_true}
use Rattle.pg_perm.specs.declared.kinds.Event.TheVariants.{Load, Store, Evict}
use Rattle.pg_perm.specs.declared.draft.Draft.{Draft}
use Rattle.pg_perm.specs.Drafts.{IsWellFormed}
use Rattle.pg_terms.specs.Terms.{is, shared}
use Rattle.pg_shape.specs.Shaped.{IsShaped}
use Rattle.pg_table.specs.declared.cache.Desc.{Desc}
use Rattle.pg_table.specs.declared.cache.Desc.TheVariants.{Stable, Ask, Leave}
use Rattle.pg_table.specs.declared.cache.Phase.{Phase}
use Rattle.pg_table.specs.declared.cache.Phase.TheVariants.{D, Ad, Ac, A}
use Rattle.pg_table.specs.declared.cache.Tag.{Tag}
use Rattle.pg_table.specs.declared.cache.Tag.TheVariants.{Plain}
use Rattle.pg_table.specs.declared.cache.Act.TheVariants as act
use Rattle.pg_table.specs.declared.cache.Input.TheVariants as at_input
use Rattle.pg_table.specs.Tables.{TableState}
use Rattle.pg_table.specs.Descriptors.{final_states}
use Rattle.pg_table.specs.Choices.{Choice, only_choice, choices, store_final}
use Rattle.pg_table.specs.Pick.{pick as picked}
use Rattle.pg_table.specs.Sound.{IsSoundCache}
use Rattle.pg_order.specs.Messages.{tally}
use Rattle.pg_order.specs.Orders.{DirOrder}
use Rattle.pg_messages.specs.declared.messages.Reply.TheVariants.{InvAck}
use Rattle.pg_controllers.specs.Networks.{Line}
use Rattle.pg_controllers.specs.Lines.{result_of, reply_input, received_reply}
use Rattle.pg_messages.specs.declared.messages.WorldEvent.TheVariants.{Reply as Reply_at}
use Rattle.pg_controllers.specs.Worlds.{World, core, order_of, move, is_stable}
use Rattle.pg_orderly.specs.Orderly.{Mark, is_pending, view_of, HasPending, IsAhead, is_ahead, IsAsking, IsLined, is_storing, is_ack_to, AcksAre, IsOrderly}
use Rattle.pg_orderly.proofs.Keeping.{marked}
use Rattle.pg_orderly.proofs.Rows.{IsChosen, none_chosen, only_chosen, where_true, IsEnd, ends_so}
use Rattle.pg_safe.specs.Moving.{IsComplete}
use Rattle.pg_safe.proofs.Race.{plain_of}
use Rattle.pg_safe.proofs.Replies.{ack_due}
use Rattle.pg_completions.proofs.Picks.{chosen_by, with_reply, ack_moves, no_slot}
use Rattle.pg_completions.proofs.Taken.{ack_taken}
use Rattle.pg_completions.proofs.CountMore.{more_kept}
use Rattle.pg_completions.proofs.CountLast.{last_kept}

pub data AckCase (d : Draft) (n : ℕ) (w : World) (m : ℕ → Mark) (i c k : ℕ) (ch : Choice) : Type 0 where
  More : (s : ℕ) (ph : Phase) (t : Tag) → (core w c).line.desc ≡ Ask Store s ph t → (core w c).slot ≡ None → is (core w c).line.need (suc (core w c).line.got) ≡ false
      → HasPending (core w c).line Store → IsAsking d (order_of d w) c (core w c).line (m c) Store s ph t (is_ahead ph t) → ch ≡ record { acts = act.Count ∷ []; next = Ask Store s ph t } → AckCase d n w m i c k ch
  Last : (s : ℕ) (t : Tag) → (core w c).line.desc ≡ Ask Store s A t → (core w c).slot ≡ None → is (core w c).line.need (suc (core w c).line.got) ≡ true
      → HasPending (core w c).line Store → IsAhead d (order_of d w) c (core w c).line (m c) Store s A t → IsEnd d t (act.Count ∷ []) (store_final (final_states d s Store)) ch → AckCase d n w m i c k ch

pub ack_case : (d : Draft) (t : List TableState) (n : ℕ) (w : World) (m : ℕ → Mark) (i c k : ℕ) → IsWellFormed d → IsShaped d → IsSoundCache d t → IsOrderly d n w m → IsComplete t n w
    → slice_get w.replies i ≡ Some (InvAck c k) → (c < n) × (ch : Choice) × AckCase d n w m i c k ch × (move d (picked t) w (Reply_at i) ≡ with_reply w c i (result_of d ch (received_reply d (core w c).line (InvAck c k)) (core w c).line (core w c).slot))
ack_case d t n w m i c k wf sh sound o full get =
    let (low, due) = ack_due d t n w m i c k wf sh sound o full get in
    let (ch, picks, chosen) = chosen_by d t l.desc (reply_input l (InvAck c k)) wf sh sound (full.states c low) due in
    let one = by low ch l.desc refl chosen in
    (low, ch, one, ack_moves d (picked t) w i c k ch get picks)
  where
    p : DirOrder
    p = order_of d w

    l : Line
    l = (core w c).line

    waits : (b : Bool) → (is_pending (core w c) && is_storing l.desc) ≡ b → AcksAre p (view_of w m) (core w c) (tally (is_ack_to c) w.replies) (m c).last b → is_pending (core w c) ≡ true
    waits true so h = (and_true (is_pending (core w c)) (is_storing l.desc) so).0
    waits false so h = absurd (let none = h.1 in let some = (ack_taken w i c k get).own in omega (arith, none, some))

    slot : c < n → (core w c).slot ≡ None
    slot low = no_slot (not (is_stable l.desc)) (core w c).slot (waits (is_pending (core w c) && is_storing l.desc) refl (o.answered c low).acks)

    Kept : Choice → Type 0
    Kept ch = AckCase d n w m i c k ch

    lined : c < n → (s : ℕ) (ph : Phase) (tg : Tag) → l.desc ≡ Ask Store s ph tg → HasPending l Store × IsAsking d p c l (m c) Store s ph tg (is_ahead ph tg)
    lined low s ph tg desc = let pl = o.placed c low in subst (IsLined d p c l (m c) (Ask Store s ph tg)) (slot low) (subst (λ x. IsLined d p c l (m c) x (core w c).slot) desc pl.line)

    more : c < n → (ch : Choice) (s : ℕ) (ph : Phase) (tg : Tag) → l.desc ≡ Ask Store s ph tg → is l.need (suc l.got) ≡ false → ch ≡ record { acts = act.Count ∷ []; next = Ask Store s ph tg } → Kept ch
    more low ch s ph tg desc short is = More s ph tg desc (slot low) short (lined low s ph tg desc).0 (lined low s ph tg desc).1 is

    -- one that waits for a count has no tag
    no_tag : c < n → (s : ℕ) (tg : Tag) → l.desc ≡ Ask Store s Ac tg → tg ≡ Plain
    no_tag low s tg desc = at (is_ahead Ac tg) refl (lined low s Ac tg desc).1
      where
        at : (b : Bool) → is_ahead Ac tg ≡ b → IsAsking d p c l (m c) Store s Ac tg b → tg ≡ Plain
        at true lead a = absurd a.phase.1
        at false level a = plain_of Ac tg level

    by : c < n → (ch : Choice) (x : Desc) → l.desc ≡ x → IsChosen (choices d x (reply_input l (InvAck c k))) ch → Kept ch
    by low ch (Stable s) desc h = at (is l.need (suc l.got)) h
      where
        at : (b : Bool) → IsChosen (choices d (Stable s) (if b then at_input.AckLast else at_input.AckMore)) ch → Kept ch
        at true h = absurd (none_chosen ch h)
        at false h = absurd (none_chosen ch h)
    by low ch (Leave s) desc h = at (is l.need (suc l.got)) h
      where
        at : (b : Bool) → IsChosen (choices d (Leave s) (if b then at_input.AckLast else at_input.AckMore)) ch → Kept ch
        at true h = absurd (none_chosen ch h)
        at false h = absurd (none_chosen ch h)
    by low ch (Ask Load s D tg) desc h = at (is l.need (suc l.got)) h
      where
        at : (b : Bool) → IsChosen (choices d (Ask Load s D tg) (if b then at_input.AckLast else at_input.AckMore)) ch → Kept ch
        at true h = absurd (none_chosen ch h)
        at false h = absurd (none_chosen ch h)
    by low ch (Ask Store s Ad tg) desc h = at (is l.need (suc l.got)) refl h
      where
        at : (b : Bool) → is l.need (suc l.got) ≡ b → IsChosen (choices d (Ask Store s Ad tg) (if b then at_input.AckLast else at_input.AckMore)) ch → Kept ch
        at true it h = absurd (none_chosen ch h)
        at false it h =
            let (some, h) = where_true (is_some (shared d)) (only_choice (act.Count ∷ []) (Ask Store s Ad tg)) ch h in
            more low ch s Ad tg desc it (only_chosen (record { acts = act.Count ∷ []; next = Ask Store s Ad tg }) ch h)
    by low ch (Ask Store s Ac tg) desc h = at (is l.need (suc l.got)) refl h
      where
        at : (b : Bool) → is l.need (suc l.got) ≡ b → IsChosen (choices d (Ask Store s Ac tg) (if b then at_input.AckLast else at_input.AckMore)) ch → Kept ch
        at true it h = absurd (none_chosen ch h)
        at false it h =
            let (some, h) = where_true (is_some (shared d)) (only_choice (act.Count ∷ []) (Ask Store s Ac Plain)) ch h in
            more low ch s Ac tg desc it (only_chosen (record { acts = act.Count ∷ []; next = Ask Store s Ac Plain }) ch h ∙ ap (λ tg. record { acts = act.Count ∷ []; next = Ask Store s Ac tg }) (sym (no_tag low s tg desc)))
    by low ch (Ask Store s A tg) desc h = at (is l.need (suc l.got)) refl h
      where
        at : (b : Bool) → is l.need (suc l.got) ≡ b → IsChosen (choices d (Ask Store s A tg) (if b then at_input.AckLast else at_input.AckMore)) ch → Kept ch
        at true it h = Last s tg desc (slot low) it (lined low s A tg desc).0 (lined low s A tg desc).1 (ends_so d tg (act.Count ∷ []) (store_final (final_states d s Store)) ch h)
        at false it h = more low ch s A tg desc it (only_chosen (record { acts = act.Count ∷ []; next = Ask Store s A tg }) ch h)
    by low ch (Ask Load s Ad tg) desc h = absurd (none_chosen ch h)
    by low ch (Ask Load s Ac tg) desc h = absurd (none_chosen ch h)
    by low ch (Ask Load s A tg) desc h = absurd (none_chosen ch h)
    by low ch (Ask Store s D tg) desc h = absurd (none_chosen ch h)
    by low ch (Ask Evict s ph tg) desc h = absurd (none_chosen ch h)

pub ack_kept : (d : Draft) (t : List TableState) (n : ℕ) (w : World) (m : ℕ → Mark) (i c k : ℕ) → IsWellFormed d → IsShaped d → IsSoundCache d t → IsOrderly d n w m → IsComplete t n w
    → slice_get w.replies i ≡ Some (InvAck c k) → (u : ℕ → Mark) × IsOrderly d n (move d (picked t) w (Reply_at i)) u
ack_kept d t n w m i c k wf sh sound o full get = let (low, ch, one, moves) = ack_case d t n w m i c k wf sh sound o full get in by low ch one moves
  where
    by : c < n → (ch : Choice) → AckCase d n w m i c k ch → move d (picked t) w (Reply_at i) ≡ with_reply w c i (result_of d ch (received_reply d (core w c).line (InvAck c k)) (core w c).line (core w c).slot)
        → (u : ℕ → Mark) × IsOrderly d n (move d (picked t) w (Reply_at i)) u
    by low ch (More s ph tg desc slot short pends asking is) moves =
        let marks = marked c (record { seen = (m c).seen; last = (m c).last }) m in
        (marks, subst (λ z. IsOrderly d n z marks) (sym moves) (more_kept d n w m c s ph tg i k ch wf sh low o get desc slot short pends asking is).1)
    by low ch (Last s tg desc slot it pends a end) moves =
        let h = last_kept d n w m c s tg i k ch wf sh low o get desc slot it pends a end in (h.marks, subst (λ z. IsOrderly d n z h.marks) (sym moves) h.orderly)
