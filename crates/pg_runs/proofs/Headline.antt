-- Each event keeps all that goes along a run, so in each world that is reached the order with the accesses placed in it is a run of the atomic machine.
use Rattle.std.proofs.Common.{◌≡◌, ℕ, zero, suc, ◌<◌, arith, Bool, true, false, not, List, [], ◌∷◌, ◌++◌, length, get_or, Option, Some, None, refl, sym, ap, subst, ◌∙◌, inl, inr, append-nil}
use Rattle.std.specs.Prelude.{◌&&◌, is_none, map, slice_get}
use Rattle.std.specs.List.{list_all, list_any, remove}
use Rattle.std.proofs.lemmas.Bool.{ltb-true}
use Rattle.std.proofs.lemmas.List.{length-map}
use Rattle.pg_perm.specs.declared.kinds.Op.{Op}
use Rattle.pg_perm.specs.declared.kinds.FwdClass.TheVariants.{Inv}
use Rattle.pg_perm.specs.declared.draft.Draft.{Draft}
use Rattle.pg_perm.specs.Drafts.{IsWellFormed}
use Rattle.pg_terms.specs.Terms.{has_class}
use Rattle.pg_shape.specs.Shaped.{IsShaped}
use Rattle.pg_perm.specs.declared.step.Step.{Step}
use Rattle.pg_perm.specs.declared.step.Step.TheVariants as taken
use Rattle.pg_atomic.specs.Steps.{IsRun}
use Rattle.pg_atomic.specs.Stores.{last_word_stored}
use Rattle.pg_atomic.proofs.Parts.{load_gives_last_store}
use Rattle.pg_table.specs.declared.cache.Input.TheVariants as at_input
use Rattle.pg_table.specs.Tables.{TableState}
use Rattle.pg_table.specs.Choices.{Choice}
use Rattle.pg_table.specs.Pick.{pick as picked}
use Rattle.pg_table.specs.Sound.{IsSoundCache}
use Rattle.pg_table.specs.Stalls.{is_stall}
use Rattle.pg_messages.specs.declared.messages.Ordered.{Ordered}
use Rattle.pg_messages.specs.declared.messages.Ordered.TheVariants.{Forward, AckCount, PutAck}
use Rattle.pg_messages.specs.declared.messages.Reply.{Reply}
use Rattle.pg_messages.specs.declared.messages.Reply.TheVariants.{Data, InvAck, WbData}
use Rattle.pg_controllers.specs.Networks.{Core, Line, idle_core}
use Rattle.pg_controllers.specs.Lines.{received_ordered}
use Rattle.pg_messages.specs.declared.messages.WorldEvent.{WorldEvent}
use Rattle.pg_messages.specs.declared.messages.WorldEvent.TheVariants.{Issue, Request as Request_of, Ordered as Ordered_to, Reply as Reply_at}
use Rattle.pg_controllers.specs.Worlds.{World, core, order_of, is_stable, by_choice, issue, deliver, request, reply as replied, move, with_event, step, waits, has_head, has_row, is_enabled, can_happen}
use Rattle.pg_controllers.specs.Runs.{opening_core, opening, replay, AreEnabled, IsReached}
use Rattle.pg_orderly.specs.Orderly.{Mark, is_pending, IsLined}
use Rattle.pg_orderly.proofs.Opening.{opens}
use Rattle.pg_safe.specs.Moving.{ArePicked, IsComplete, is_at_rest, is_empty, is_finished, is_settled}
use Rattle.pg_order.specs.Orders.{DirOrder}
use Rattle.pg_messages.specs.declared.messages.Ask.{Ask as SentRequest}
use Rattle.pg_table.specs.declared.cache.Desc.{Desc}
use Rattle.pg_table.specs.declared.cache.Desc.TheVariants.{Stable, Ask, Leave}
use Rattle.pg_controllers.specs.Directories.{is_busy}
use Rattle.pg_safe.proofs.Sides.{answers_it}
use Rattle.pg_safe.proofs.States.{complete_kept, opening_states, step_is}
use Rattle.pg_perm.proofs.Booleans.{and_true}
use Rattle.pg_safe.proofs.Waiting.{tables_pick}
use Rattle.pg_serial.specs.Serial.{serial_of, accesses_of}
use Rattle.pg_refined.specs.Shown.{accesses, entry_of}
use Rattle.pg_refined.specs.Operations.{MadeOf, pending_ops}
use Rattle.pg_refined.specs.Kept.{IsRefined}
use Rattle.pg_refined.proofs.Refines.{opening_flags, opening_told, refines}
use Rattle.pg_refined.proofs.Taken.{opening_taken}
use Rattle.pg_refined.proofs.Whole.{opening_slots}
use Rattle.pg_moves.proofs.Forwarded.{idle_answers}
use Rattle.pg_moves.proofs.Kept.{below_or, default_beyond, noted_kept}
use Rattle.pg_reached.specs.Reached.{IsReachedWorld}
use Rattle.pg_runs.specs.Headline.{IsAtomicRun, IsRefinedWorld, serial_order}
use Rattle.pg_runs.proofs.Issued.{issue_true}
use Rattle.pg_runs.proofs.Requested.{request_true, back_true, taken_same}
use Rattle.pg_runs.proofs.Forwarded.{answered_true, waits_true, put_ack_true}
use Rattle.pg_runs.proofs.Datum.{data_true}
use Rattle.pg_runs.proofs.Acks.{ack_true, count_true, early_true}

-- Each event

-- a forward at the head of a queue
forward_true : (d : Draft) (t : List TableState) (given : List (List Op)) (w : World) (m : ℕ → Mark) (c f r i k : ℕ) (ms : List Ordered) → IsWellFormed d → IsShaped d → IsSoundCache d t → IsRefined d given w m → IsComplete t (length given) w
    → c < length given → (core w c).queue ≡ Forward f r i k ∷ ms → is_enabled (picked t) w (Ordered_to c) ≡ true → IsRefinedWorld d given (move d (picked t) w (Ordered_to c))
forward_true d t given w m c f r i k ms wf sh sound h full low queue on = at (picked t (core w c).line.desc (at_input.Forward f)) refl
  where
    n : ℕ
    n = length given

    picks_one : ArePicked d (picked t) n w
    picks_one = tables_pick d t n w sound full

    moves : (ch : Choice) → picked t (core w c).line.desc (at_input.Forward f) ≡ Some ch → list_any is_stall ch.acts ≡ false
    moves ch picks = no_true (list_any is_stall ch.acts) (ap (λ o. not (waits o)) (sym picks) ∙ ap (has_head (picked t) (core w c).line) (sym queue) ∙ on)
      where
        no_true : (b : Bool) → not b ≡ true → b ≡ false
        no_true false h = refl
        no_true true h = cc

    by : (ch : Choice) → picked t (core w c).line.desc (at_input.Forward f) ≡ Some ch → (a : Bool) → answers_it d (core w c).line.desc f ≡ a → (p : Bool) → is_pending (core w c) ≡ p → (v : Bool) → has_class Inv d f ≡ v
        → IsRefinedWorld d given (move d (picked t) w (Ordered_to c))
    by ch picks true answers p pend v inv = answered_true d given (picked t) w m c f r i k ms ch wf sh low h queue answers picks (picks_one c low (at_input.Forward f) ch picks)
    by ch picks false answers false pend v inv = absurd (let here = idle_answers d n w m c f r i k ms wf sh low h.orderly queue pend in cc (here, answers))
    by ch picks false answers true pend true inv = early_true d t given w m c f r i k ms wf sh sound h full low queue inv pend answers on
    by ch picks false answers true pend false inv = waits_true d given (picked t) w m c f r i k ms ch wf sh low h queue pend answers inv picks (picks_one c low (at_input.Forward f) ch picks) (moves ch picks)

    at : (q : Option Choice) → picked t (core w c).line.desc (at_input.Forward f) ≡ q → IsRefinedWorld d given (move d (picked t) w (Ordered_to c))
    at None picks = subst (λ ms. IsRefinedWorld d given (deliver d (picked t) c (core w c) w ms)) (sym queue)
        (subst (λ q. IsRefinedWorld d given (by_choice d c (received_ordered (core w c).line (Forward f r i k)) (record (core w c) { queue = ms }) w q)) (sym picks) (m, h))
    at (Some ch) picks = by ch picks (answers_it d (core w c).line.desc f) refl (is_pending (core w c)) refl (has_class Inv d f) refl

pub event_true : (d : Draft) (t : List TableState) (given : List (List Op)) (w : World) (m : ℕ → Mark) (e : WorldEvent) → IsWellFormed d → IsShaped d → IsSoundCache d t → IsRefined d given w m → IsComplete t (length given) w
    → is_enabled (picked t) w e ≡ true → IsRefinedWorld d given (move d (picked t) w e)
event_true d t given w m (Issue c) wf sh sound h full on = elim (below_or c (length given)) [
  | inl low ↦ issue_true d given (picked t) w m c wf sh (tables_pick d t (length given) w sound full) low h on
  | inr out ↦ let cores = h.orderly.cores in let idle : core w c ≡ idle_core = default_beyond w.cores c (omega (arith, out, cores)) in
      subst (λ os. IsRefinedWorld d given (issue d (picked t) c (core w c) w os)) (sym (ap (λ (x : Core). x.left) idle)) (m, h)
]
event_true d t given w m (Request_of c) wf sh sound h full on = elim (below_or c (length given)) [
  | inl low ↦ request_true d given (picked t) w m c wf sh low h on
  | inr out ↦ let cores = h.orderly.cores in let idle : core w c ≡ idle_core = default_beyond w.cores c (omega (arith, out, cores)) in
      subst (λ a. IsRefinedWorld d given (request d c w a)) (sym (ap (λ (x : Core). x.slot) idle)) (m, h)
]
event_true d t given w m (Ordered_to c) wf sh sound h full on = elim (below_or c (length given)) [
  | inl low ↦ at low (core w c).queue refl
  | inr out ↦ let cores = h.orderly.cores in let idle : core w c ≡ idle_core = default_beyond w.cores c (omega (arith, out, cores)) in nothing [] (ap (λ (x : Core). x.queue) idle) refl
]
  where
    nothing : (ms : List Ordered) → (core w c).queue ≡ ms → ms ≡ [] → IsRefinedWorld d given (move d (picked t) w (Ordered_to c))
    nothing ms queue none = subst (λ ms. IsRefinedWorld d given (deliver d (picked t) c (core w c) w ms)) (sym (queue ∙ none)) (m, h)

    answered : (k : ℕ) (ms : List Ordered) → c < length given → (core w c).queue ≡ PutAck k ∷ ms → (q : Option Choice) → picked t (core w c).line.desc at_input.PutAck ≡ q → IsRefinedWorld d given (move d (picked t) w (Ordered_to c))
    answered k ms low queue None picks = subst (λ ms. IsRefinedWorld d given (deliver d (picked t) c (core w c) w ms)) (sym queue)
        (subst (λ q. IsRefinedWorld d given (by_choice d c (received_ordered (core w c).line (PutAck k)) (record (core w c) { queue = ms }) w q)) (sym picks) (m, h))
    answered k ms low queue (Some ch) picks = put_ack_true d given (picked t) w m c k ms ch wf sh low h queue picks (tables_pick d t (length given) w sound full c low at_input.PutAck ch picks)

    at : c < length given → (ms : List Ordered) → (core w c).queue ≡ ms → IsRefinedWorld d given (move d (picked t) w (Ordered_to c))
    at low [] queue = nothing [] queue refl
    at low (Forward f r i k ∷ ms) queue = forward_true d t given w m c f r i k ms wf sh sound h full low queue on
    at low (AckCount cnt k ∷ ms) queue = count_true d t given w m c cnt k ms wf sh sound h full low queue
    at low (PutAck k ∷ ms) queue = answered k ms low queue (picked t (core w c).line.desc at_input.PutAck) refl
event_true d t given w m (Reply_at i) wf sh sound h full on = at (slice_get w.replies i) refl
  where
    there : (xs : List Reply) (i : ℕ) → i < length xs → slice_get xs i ≡ None → ⊥
    there [] i lt e = omega (arith, lt)
    there (x ∷ xs) zero lt e = cc
    there (x ∷ xs) (suc i) lt e = there xs i (omega (arith, lt)) e

    at : (x : Option Reply) → slice_get w.replies i ≡ x → IsRefinedWorld d given (move d (picked t) w (Reply_at i))
    at None get = absurd (there w.replies i (ltb-true i (length w.replies) on) get)
    at (Some (Data r c v cnt k)) get = data_true d t given w m i r c v cnt k wf sh sound h full get
    at (Some (InvAck c k)) get = ack_true d t given w m i c k wf sh sound h full get
    at (Some (WbData v k)) get = subst (λ x. IsRefinedWorld d given (replied d (picked t) (record w { replies = remove w.replies i }) x)) (sym get) (back_true d given w m i v k h get)

-- Runs

noted_true : (d : Draft) (given : List (List Op)) (w : World) (e : ℕ × WorldEvent) (m : ℕ → Mark) → IsRefined d given w m → IsRefined d given (with_event e w) m
noted_true d given w e m h = record {
  orderly = noted_kept d (length given) w e m h.orderly;
  flags = h.flags;
  slots = h.slots;
  taken = taken_same given w (with_event e w) refl refl h.taken;
  faithful = h.faithful;
}

-- with each line in a state of the table
pub record IsTold (d : Draft) (t : List TableState) (given : List (List Op)) (w : World) : Type 0 where
  pub marks : ℕ → Mark
  pub true_now : IsRefined d given w marks
  pub complete : IsComplete t (length given) w

step_told : (d : Draft) (t : List TableState) (given : List (List Op)) (w : World) (e : ℕ × WorldEvent) → IsWellFormed d → IsShaped d → IsSoundCache d t → can_happen d (picked t) w e.1 ≡ true → IsTold d t given w
    → IsTold d t given (step d (picked t) w e)
step_told d t given w e wf sh sound on h =
    let (u, ok) = event_true d t given w h.marks e.1 wf sh sound h.true_now h.complete (and_true (is_enabled (picked t) w e.1) (has_row d (picked t) w e.1) on).0 in
    let complete = complete_kept d t (length given) w e.1 sound h.true_now.orderly.cores ok.orderly.cores h.complete in
    subst (IsTold d t given) (sym (step_is d (picked t) w e on)) (record { marks = u; true_now = noted_true d given (move d (picked t) w e.1) e u ok; complete = record { states = complete.states } })

run_told : (d : Draft) (t : List TableState) (given : List (List Op)) → IsWellFormed d → IsShaped d → IsSoundCache d t → (es : List (ℕ × WorldEvent)) (w : World) → IsTold d t given w → AreEnabled d (picked t) w es → IsTold d t given (replay d (picked t) w es)
run_told d t given wf sh sound [] w h on = h
run_told d t given wf sh sound (e ∷ es) w h on = run_told d t given wf sh sound es (step d (picked t) w e) (step_told d t given w e wf sh sound on.0 h) on.1

opening_told_now : (d : Draft) (t : List TableState) (given : List (List Op)) → IsWellFormed d → IsShaped d → IsSoundCache d t → IsTold d t given (opening d given)
opening_told_now d t given wf sh sound =
    let long : length (opening d given).cores ≡ length given = length-map given (opening_core d) in
    record {
      marks = λ c. record { seen = 0; last = 0 };
      true_now = record { orderly = opens d given wf sh; flags = opening_flags d given; slots = opening_slots d given; taken = opening_taken d given; faithful = opening_told d given wf sh };
      complete = record { states = λ c low. opening_states d t given sh sound c (omega (arith, low, long)) };
    }

-- every world that is reached
pub reached_told : (d : Draft) (t : List TableState) (given : List (List Op)) (w : World) → IsReachedWorld d t given w → IsTold d t given w
reached_told d t given w r = subst (IsTold d t given) r.reached.same
    (run_told d t given r.well_formed r.shaped r.sound w.journal (opening d given) (opening_told_now d t given r.well_formed r.shaped r.sound) r.reached.enabled)

pub reached_runs : (d : Draft) (t : List TableState) (given : List (List Op)) (w : World) → IsReachedWorld d t given w → IsAtomicRun d given w
reached_runs d t given w r =
    let h = reached_told d t given w r in
    let run = refines d (length given) w h.marks r.well_formed r.shaped h.true_now.orderly h.true_now.flags h.true_now.faithful in
    record {
      run = run.0;
      order = λ c low. let k = h.true_now.taken c low in record { completed = k.taken; all = k.all; same = run.1 c low; made = subst (MadeOf c k.taken) (sym (run.1 c low)) k.made };
    }

pub latest_store : (d : Draft) (t : List TableState) (given : List (List Op)) (w : World) (before after : List Step) (c v : ℕ) → IsReachedWorld d t given w
    → serial_order (length given) w ≡ before ++ taken.Load c v ∷ after → v ≡ last_word_stored before
latest_store d t given w before after c v r same =
    load_gives_last_store d (length given) before after c v (subst (IsRun d (length given)) same (reached_runs d t given w r).run)

-- Finished worlds

at_rest : (xs : List Core) (c : ℕ) → list_all is_at_rest xs ≡ true → is_at_rest (get_or xs c idle_core) ≡ true
at_rest [] c h = refl
at_rest (x ∷ xs) zero h = (and_true (is_at_rest x) (list_all is_at_rest xs) h).0
at_rest (x ∷ xs) (suc c) h = at_rest xs c (and_true (is_at_rest x) (list_all is_at_rest xs) h).1

nothing_left : (xs : List Core) (c : ℕ) → list_all (λ (x : Core). is_empty x.left) xs ≡ true → is_empty (get_or xs c idle_core).left ≡ true
nothing_left [] c h = refl
nothing_left (x ∷ xs) zero h = (and_true (is_empty x.left) (list_all (λ (x : Core). is_empty x.left) xs) h).0
nothing_left (x ∷ xs) (suc c) h = nothing_left xs c (and_true (is_empty x.left) (list_all (λ (x : Core). is_empty x.left) xs) h).1

empty_is : {A : Type 0} (xs : List A) → is_empty xs ≡ true → xs ≡ []
empty_is [] h = refl
empty_is (x ∷ xs) h = cc

-- a line at rest has nothing pending
none_pending : (d : Draft) (p : DirOrder) (c : ℕ) (l : Line) (m : Mark) (y : Desc) (s : Option SentRequest) → IsLined d p c l m y s → is_stable y ≡ true → l.pending ≡ None
none_pending d p c l m (Stable x) None h on = h.1
none_pending d p c l m (Stable x) (Some a) h on = absurd h
none_pending d p c l m (Ask e x ph t) s h on = cc
none_pending d p c l m (Leave x) s h on = cc

pub finished_runs : (d : Draft) (t : List TableState) (given : List (List Op)) (w : World) (c : ℕ) → IsReachedWorld d t given w → c < length given → is_finished w ≡ true
    → MadeOf c (get_or given c []) (accesses_of c (serial_order (length given) w))
finished_runs d t given w c r low done =
    let parts = and_true (is_settled w) (list_all (λ (x : Core). is_empty x.left) w.cores) done in
    let quiet = and_true (list_all is_at_rest w.cores) (is_empty w.replies) (and_true (list_all is_at_rest w.cores && is_empty w.replies) (not (is_busy w.directory.desc)) parts.0).0 in
    let rests = at_rest w.cores c quiet.0 in
    let stable = (and_true (is_stable (core w c).line.desc) (is_none (core w c).slot) (and_true (is_stable (core w c).line.desc && is_none (core w c).slot) (is_empty (core w c).queue) rests).0).0 in
    let h = reached_told d t given w r in
    let idle : (core w c).line.pending ≡ None = none_pending d (order_of d w) c (core w c).line (h.marks c) (core w c).line.desc (core w c).slot (h.true_now.orderly.placed c low).line stable in
    let none : (core w c).left ≡ [] = empty_is (core w c).left (nothing_left w.cores c parts.1) in
    let kept = (reached_runs d t given w r).order c low in
    let same : get_or given c [] ≡ kept.completed =
    kept.all ∙ ap (λ o. kept.completed ++ (pending_ops o ++ (core w c).left)) idle ∙ ap (λ xs. kept.completed ++ xs) none ∙ append-nil kept.completed in
    subst (λ os. MadeOf c os (accesses_of c (serial_order (length given) w))) (sym same) kept.made
