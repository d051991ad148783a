-- What holds of the worlds that are reached, from what holds of orderly ones.
use Rattle.std.proofs.Common.{◌≡◌, ◌≢◌, ℕ, zero, suc, ◌+◌, ◌*◌, ◌<◌, ◌≤◌, arith, Bool, true, false, cond, List, [], ◌∷◌, ◌++◌, length, map, Some, None, if◌then◌else◌, refl, sym, ap, subst, ◌∙◌, ◌⊎◌, inl, inr}
use Rattle.std.specs.Prelude.{slice_get}
use Rattle.pg_perm.proofs.Booleans.{and_true}
use Rattle.pg_perm.specs.declared.kinds.Event.{Event}
use Rattle.pg_perm.specs.declared.kinds.Op.{Op}
use Rattle.pg_perm.specs.declared.kinds.Perm.TheVariants as perm
use Rattle.pg_perm.specs.declared.draft.Draft.{Draft}
use Rattle.pg_perm.specs.Drafts.{IsWellFormed}
use Rattle.pg_shape.specs.Shaped.{IsShaped}
use Rattle.pg_directory.specs.DirEntries.{DirEntry, Request, initial_entry, entry_after, entry_after_all}
use Rattle.pg_table.specs.declared.cache.Desc.TheVariants.{Stable}
use Rattle.pg_table.specs.declared.cache.Input.TheVariants as at_input
use Rattle.pg_table.specs.declared.directory.DirInput.TheVariants as met
use Rattle.pg_table.specs.Tables.{TableState}
use Rattle.pg_table.specs.Pick.{pick as picked}
use Rattle.pg_table.specs.Sound.{IsSoundCache}
use Rattle.pg_messages.specs.declared.messages.Ask.{Ask as SentRequest}
use Rattle.pg_messages.specs.declared.messages.Ordered.{Ordered}
use Rattle.pg_messages.specs.declared.messages.Reply.TheVariants.{Data, InvAck, WbData}
use Rattle.pg_messages.specs.declared.messages.WorldEvent.{WorldEvent}
use Rattle.pg_messages.specs.declared.messages.WorldEvent.TheVariants.{Ordered as Ordered_to}
use Rattle.pg_order.specs.Messages.{stamp_of, tally}
use Rattle.pg_order.specs.Orders.{acks_needed, dir_entry_at}
use Rattle.pg_controllers.specs.Networks.{Core}
use Rattle.pg_controllers.specs.Directories.{is_busy, dir_entry_of, dir_input}
use Rattle.pg_controllers.specs.Lines.{ordered_input, reply_input}
use Rattle.pg_controllers.specs.Worlds.{Picks, World, core, order_of, request_in, move, with_event, step, is_enabled, has_row, can_happen}
use Rattle.pg_controllers.specs.Runs.{opening, replay, AreEnabled, IsReached}
use Rattle.pg_orderly.specs.Orderly.{Mark, IsOrderly, is_pending, is_storing, is_ack_to}
use Rattle.pg_controllers.specs.Usable.{usable}
use Rattle.pg_safe.specs.Moving.{is_settled, is_finished, is_issue, IsThrough}
use Rattle.pg_safe.specs.Invs.{invs_at, open_shares}
use Rattle.pg_safe.specs.Standing.{IsPendingEntry}
use Rattle.pg_safe.specs.OneRow.{HasOneRow, HasDirRow}
use Rattle.pg_safe.specs.Work.{total, operation_work, work}
use Rattle.pg_safe.proofs.AddUp.{pending_stands, acks_add_up, acks_not_begun}
use Rattle.pg_safe.proofs.Bounds.{networks_bounded, deferred_bounded}
use Rattle.pg_safe.proofs.DirRows.{request_row, wb_row}
use Rattle.pg_safe.proofs.OpenShares.{busy_is_one_share}
use Rattle.pg_safe.proofs.Requests.{operation_row, head_row, data_row, ack_row}
use Rattle.pg_safe.proofs.States.{move_journal, step_is}
use Rattle.pg_safe.proofs.Through.{through_kept}
use Rattle.pg_safe.proofs.Waiting.{early_moves, never_stuck, tables_pick, unfinished_moves}
use Rattle.pg_safe.proofs.Work.{work_less}
use Rattle.pg_moves.specs.Kept.{IsSoundWorld}
use Rattle.pg_reached.specs.Reached.{IsReachedWorld}
use Rattle.pg_reached.proofs.Happens.{enabled_happens}
use Rattle.pg_reached.proofs.Join.{reached_orderly, reached_single, runs_end}

-- Runs

pub openings_reached : (d : Draft) (t : List TableState) (given : List (List Op)) → IsWellFormed d → IsShaped d → IsSoundCache d t → IsReachedWorld d t given (opening d given)
openings_reached d t given wf sh sound = record { well_formed = wf; shaped = sh; sound = sound; reached = record { enabled = tt; same = refl } }

pub sound_world : (d : Draft) (t : List TableState) (given : List (List Op)) (w : World) → IsReachedWorld d t given w → IsSoundWorld d t (length given) w
sound_world d t given w r = reached_orderly d t given w r.well_formed r.shaped r.sound r.reached

pub can_happen_there : (d : Draft) (t : List TableState) (given : List (List Op)) (w : World) (e : WorldEvent) → IsReachedWorld d t given w → is_enabled (picked t) w e ≡ true → can_happen d (picked t) w e ≡ true
can_happen_there d t given w e r on =
    let s = sound_world d t given w r in enabled_happens d t (length given) w s.marks e r.well_formed r.shaped r.sound s.orderly s.complete on

replay_more : (d : Draft) (pick : Picks) (w : World) (es : List (ℕ × WorldEvent)) (e : ℕ × WorldEvent) → replay d pick w (es ++ e ∷ []) ≡ step d pick (replay d pick w es) e
replay_more d pick w [] e = refl
replay_more d pick w (x ∷ es) e = replay_more d pick (step d pick w x) es e

enabled_more : (d : Draft) (pick : Picks) (w : World) (es : List (ℕ × WorldEvent)) (e : ℕ × WorldEvent) → AreEnabled d pick w es → can_happen d pick (replay d pick w es) e.1 ≡ true → AreEnabled d pick w (es ++ e ∷ [])
enabled_more d pick w [] e on last = (last, tt)
enabled_more d pick w (x ∷ es) e on last = (on.0, enabled_more d pick (step d pick w x) es e on.1 last)

pub steps_reach : (d : Draft) (t : List TableState) (given : List (List Op)) (w : World) (e : ℕ × WorldEvent) → IsReachedWorld d t given w → is_enabled (picked t) w e.1 ≡ true → IsReachedWorld d t given (step d (picked t) w e)
steps_reach d t given w e r on =
    let may = can_happen_there d t given w e.1 r on in
    let longer : (step d (picked t) w e).journal ≡ w.journal ++ e ∷ [] = ap (λ z. z.journal) (step_is d (picked t) w e may) ∙ ap (λ z. z ++ e ∷ []) (move_journal d (picked t) w e.1) in
    record {
      well_formed = r.well_formed;
      shaped = r.shaped;
      sound = r.sound;
      reached = record {
        enabled = subst (AreEnabled d (picked t) (opening d given)) (sym longer)
            (enabled_more d (picked t) (opening d given) w.journal e r.reached.enabled (ap (λ z. can_happen d (picked t) z e.1) r.reached.same ∙ may));
        same = ap (replay d (picked t) (opening d given)) longer ∙ replay_more d (picked t) (opening d given) w.journal e ∙ ap (λ z. step d (picked t) z e) r.reached.same;
      };
    }

-- Single writer

pub one_writer : (d : Draft) (t : List TableState) (given : List (List Op)) (w : World) (c e : ℕ) → IsReachedWorld d t given w → c < length given → e < length given → e ≢ c
    → usable d (core w c).line.desc ≡ perm.Write → usable d (core w e).line.desc ≡ perm.None
one_writer d t given w c e r low lower apart may = reached_single d t given w c e r.well_formed r.shaped r.sound r.reached low lower apart may

-- One row each

pub operation_has_row : (d : Draft) (t : List TableState) (given : List (List Op)) (w : World) (c s : ℕ) (e : Event) → IsReachedWorld d t given w → c < length given → (core w c).line.desc ≡ Stable s
    → HasOneRow t (core w c).line.desc (at_input.Core e)
operation_has_row d t given w c s e r low desc = operation_row d t (length given) w c s e r.well_formed r.shaped r.sound (sound_world d t given w r).complete low desc

pub head_has_row : (d : Draft) (t : List TableState) (given : List (List Op)) (w : World) (c : ℕ) (m : Ordered) (ms : List Ordered) → IsReachedWorld d t given w → c < length given → (core w c).queue ≡ m ∷ ms
    → HasOneRow t (core w c).line.desc (ordered_input (core w c).line m)
head_has_row d t given w c m ms r low queue =
    let s = sound_world d t given w r in head_row d t (length given) w s.marks c m ms r.well_formed r.shaped r.sound s.orderly s.complete low queue

pub data_has_row : (d : Draft) (t : List TableState) (given : List (List Op)) (w : World) (i r c v n k : ℕ) → IsReachedWorld d t given w → slice_get w.replies i ≡ Some (Data r c v n k)
    → (c < length given) × HasOneRow t (core w c).line.desc (reply_input (core w c).line (Data r c v n k))
data_has_row d t given w i m c v n k r there =
    let s = sound_world d t given w r in data_row d t (length given) w s.marks i m c v n k r.well_formed r.shaped r.sound s.orderly s.complete there

pub acknowledgement_has_row : (d : Draft) (t : List TableState) (given : List (List Op)) (w : World) (i c k : ℕ) → IsReachedWorld d t given w → slice_get w.replies i ≡ Some (InvAck c k)
    → (c < length given) × HasOneRow t (core w c).line.desc (reply_input (core w c).line (InvAck c k))
acknowledgement_has_row d t given w i c k r there =
    let s = sound_world d t given w r in ack_row d t (length given) w s.marks i c k r.well_formed r.shaped r.sound s.orderly s.complete there

pub write_back_has_row : (d : Draft) (t : List TableState) (given : List (List Op)) (w : World) (i v k : ℕ) → IsReachedWorld d t given w → slice_get w.replies i ≡ Some (WbData v k) → HasDirRow d w.directory.desc met.Wb
write_back_has_row d t given w i v k r there = let s = sound_world d t given w r in wb_row d (length given) w s.marks i v k s.orderly s.directory there

pub request_has_row : (d : Draft) (t : List TableState) (given : List (List Op)) (w : World) (c : ℕ) (a : SentRequest) → IsReachedWorld d t given w → c < length given → (core w c).slot ≡ Some a → is_busy w.directory.desc ≡ false
    → HasDirRow d w.directory.desc (dir_input w.directory.desc (dir_entry_of w.directory) (record { core = c; event = a.event }))
request_has_row d t given w c a r low slot free =
    let s = sound_world d t given w r in request_row d (length given) w s.marks c a r.well_formed r.shaped s.orderly s.directory low slot free

-- Heads that wait

pub head_is_later : (d : Draft) (t : List TableState) (given : List (List Op)) (w : World) (c : ℕ) (m : Ordered) (ms : List Ordered) → IsReachedWorld d t given w → c < length given → (core w c).queue ≡ m ∷ ms
    → is_enabled (picked t) w (Ordered_to c) ≡ false → (j : ℕ) × IsPendingEntry d w c j × (suc j < stamp_of m)
head_is_later d t given w c m ms r low queue waits = by (is_pending (core w c)) refl
  where
    s : IsSoundWorld d t (length given) w
    s = sound_world d t given w r

    moves : (is_pending (core w c) ≡ true → stamp_of m ≤ (s.marks c).last) → ⊥
    moves early = let on = early_moves d t (length given) w s.marks c m ms r.well_formed r.shaped r.sound s.orderly s.complete low queue early in cc (on, waits)

    later_or : (a b : ℕ) → (a ≤ b) ⊎ (b < a)
    later_or a b = search arith

    by : (b : Bool) → is_pending (core w c) ≡ b → (j : ℕ) × IsPendingEntry d w c j × (suc j < stamp_of m)
    by false idle = absurd (moves (λ pend. absurd (cc (pend, idle))))
    by true pend =
        let (j, last, entry) = pending_stands d (length given) w s.marks c s.orderly low pend in
        elim (later_or (stamp_of m) (suc j)) [
          | inl early ↦ absurd (moves (λ p. subst (λ k. stamp_of m ≤ k) (sym last) early))
          | inr late ↦ (j, entry, late)
        ]

-- Acknowledgements

pub pending_has_entry : (d : Draft) (t : List TableState) (given : List (List Op)) (w : World) (c : ℕ) → IsReachedWorld d t given w → c < length given → is_pending (core w c) ≡ true → (j : ℕ) × IsPendingEntry d w c j
pending_has_entry d t given w c r low pend =
    let s = sound_world d t given w r in let (j, last, entry) = pending_stands d (length given) w s.marks c s.orderly low pend in (j, entry)

pub acknowledgements_sum : (d : Draft) (t : List TableState) (given : List (List Op)) (w : World) (c : ℕ) → IsReachedWorld d t given w → c < length given → is_pending (core w c) ≡ true → is_storing (core w c).line.desc ≡ true
    → (j : ℕ) × IsPendingEntry d w c j × (acks_needed ((order_of d w).dir_entry j) ((order_of d w).at j) ≡ (core w c).line.got + tally (is_ack_to c) w.replies + invs_at d (suc j) w)
acknowledgements_sum d t given w c r low pend stores =
    let s = sound_world d t given w r in acks_add_up d (length given) w s.marks c r.well_formed r.shaped s.orderly low pend stores

pub acknowledgements_none : (d : Draft) (t : List TableState) (given : List (List Op)) (w : World) (c : ℕ) → IsReachedWorld d t given w → c < length given → is_pending (core w c) ≡ false
    → ((core w c).line.got ≡ 0) × (tally (is_ack_to c) w.replies ≡ 0)
acknowledgements_none d t given w c r low idle = let s = sound_world d t given w r in acks_not_begun d (length given) w s.marks c s.orderly low idle

-- The directory

last_entry : (d : Draft) (s : DirEntry) (qs : List Request) → dir_entry_at d s qs (length qs) ≡ entry_after_all d s qs
last_entry d s [] = refl
last_entry d s (q ∷ qs) = last_entry d (entry_after d s q) qs

pub entry_of_requests : (d : Draft) (t : List TableState) (given : List (List Op)) (w : World) → IsReachedWorld d t given w → dir_entry_of w.directory ≡ entry_after_all d (initial_entry d) (map request_in w.order)
entry_of_requests d t given w r = (sound_world d t given w r).orderly.directory ∙ last_entry d (initial_entry d) (map request_in w.order)

pub busy_with_share : (d : Draft) (t : List TableState) (given : List (List Op)) (w : World) → IsReachedWorld d t given w → open_shares d w ≡ cond {A = ℕ} (is_busy w.directory.desc) 1 0
busy_with_share d t given w r = let s = sound_world d t given w r in busy_is_one_share d (length given) w s.marks r.well_formed r.shaped s.orderly

-- Bounds

pub messages_bounded : (d : Draft) (t : List TableState) (given : List (List Op)) (w : World) → IsReachedWorld d t given w
    → total (λ (x : Core). length x.queue) w.cores + length w.replies ≤ length given * length given + 1
messages_bounded d t given w r = let s = sound_world d t given w r in networks_bounded d (length given) w s.marks r.well_formed r.shaped s.orderly

pub deferred_bound : (d : Draft) (t : List TableState) (given : List (List Op)) (w : World) (c : ℕ) → IsReachedWorld d t given w → c < length given → length (core w c).line.deferred < length given
deferred_bound d t given w c r low =
    let s = sound_world d t given w r in let few = deferred_bounded d (length given) w s.marks c r.well_formed r.shaped s.orderly low in omega (arith, few)

-- Progress

pub delivery_can_happen : (d : Draft) (t : List TableState) (given : List (List Op)) (w : World) → IsReachedWorld d t given w → is_settled w ≡ false → (e : WorldEvent) × (is_issue e ≡ false) × (can_happen d (picked t) w e ≡ true)
delivery_can_happen d t given w r unsettled =
    let s = sound_world d t given w r in
    let (e, kind, on) = never_stuck d (length given) w s.marks (picked t) r.well_formed r.shaped s.orderly (tables_pick d t (length given) w r.sound s.complete) unsettled in
    (e, kind, can_happen_there d t given w e r on)

pub event_can_happen : (d : Draft) (t : List TableState) (given : List (List Op)) (w : World) → IsReachedWorld d t given w → is_finished w ≡ false → (e : WorldEvent) × (can_happen d (picked t) w e ≡ true)
event_can_happen d t given w r unfinished =
    let s = sound_world d t given w r in
    let (e, on) = unfinished_moves d (length given) w s.marks (picked t) r.well_formed r.shaped s.orderly (tables_pick d t (length given) w r.sound s.complete) unfinished in
    (e, can_happen_there d t given w e r on)

pub journal_bounded : (d : Draft) (t : List TableState) (given : List (List Op)) (w : World) → IsReachedWorld d t given w → length w.journal + work d (length given) w ≤ total (total (operation_work (length given))) given
journal_bounded d t given w r = subst (λ z. length z.journal + work d (length given) z ≤ total (total (operation_work (length given))) given) r.reached.same
    (runs_end d t given w.journal r.well_formed r.shaped r.sound r.reached.enabled)

pub work_lowered : (d : Draft) (t : List TableState) (given : List (List Op)) (w : World) (e : ℕ × WorldEvent) → IsReachedWorld d t given w → is_enabled (picked t) w e.1 ≡ true
    → work d (length given) (step d (picked t) w e) < work d (length given) w
work_lowered d t given w e r on =
    let s = sound_world d t given w r in
    subst (λ z. work d (length given) z < work d (length given) w) (sym (step_is d (picked t) w e (can_happen_there d t given w e.1 r on)))
    (work_less d t (length given) w s.marks e.1 r.well_formed r.shaped r.sound s.orderly s.complete on)

pub through_stays : (d : Draft) (t : List TableState) (given : List (List Op)) (w : World) (e : ℕ × WorldEvent) (c : ℕ) → IsReachedWorld d t given w → c < length given → IsThrough w c → IsThrough (step d (picked t) w e) c
through_stays d t given w e c r low through = by (can_happen d (picked t) w e.1) refl
  where
    s : IsSoundWorld d t (length given) w
    s = sound_world d t given w r

    same : (b : Bool) → can_happen d (picked t) w e.1 ≡ b → step d (picked t) w e ≡ with_event e (if b then move d (picked t) w e.1 else w)
    same b on = ap (λ (b : Bool). with_event e (if b then move d (picked t) w e.1 else w)) on

    by : (b : Bool) → can_happen d (picked t) w e.1 ≡ b → IsThrough (step d (picked t) w e) c
    by false on = subst (λ z. IsThrough z c) (sym (same false on)) (record { left = through.left; stable = through.stable })
    by true on =
        let there = through_kept d (length given) (picked t) w e.1 c (tables_pick d t (length given) w r.sound s.complete) s.orderly.cores low through in
        subst (λ z. IsThrough z c) (sym (same true on)) (record { left = there.left; stable = there.stable })
