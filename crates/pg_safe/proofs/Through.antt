-- A core that is through stays so; and what holds of a whole run, where each event keeps worlds orderly.
use Rattle.std.proofs.Common.{◌≡◌, ℕ, zero, suc, ◌+◌, ◌<◌, ◌≤◌, arith, Bool, true, false, List, [], ◌∷◌, ◌++◌, length, get_or, set, Option, Some, None, refl, sym, ap, subst, ◌∙◌}
use Rattle.std.specs.Prelude.{◌==◌, slice_get}
use Rattle.std.specs.List.{remove}
use Rattle.std.proofs.lemmas.Bool.{eqb-true, eqb-false}
use Rattle.std.proofs.lemmas.List.{get_or-set_same, get_or-set_other}
use Rattle.pg_perm.specs.declared.kinds.Op.{Op}
use Rattle.pg_perm.specs.declared.draft.Draft.{Draft}
use Rattle.pg_perm.specs.Drafts.{IsWellFormed}
use Rattle.pg_shape.specs.Shaped.{IsShaped}
use Rattle.pg_table.specs.declared.cache.Desc.{Desc}
use Rattle.pg_table.specs.declared.cache.Desc.TheVariants.{Stable, Ask, Leave}
use Rattle.pg_table.specs.declared.cache.Input.{Input}
use Rattle.pg_table.specs.declared.cache.Input.TheVariants as at_input
use Rattle.pg_table.specs.declared.directory.DirInput.TheVariants as met
use Rattle.pg_table.specs.Tables.{TableState}
use Rattle.pg_table.specs.Choices.{Choice, choices}
use Rattle.pg_table.specs.Directory.{DirChoice, dir_choice}
use Rattle.pg_table.specs.Pick.{pick as picked}
use Rattle.pg_table.specs.Sound.{IsSoundCache}
use Rattle.pg_messages.specs.declared.messages.Ordered.{Ordered}
use Rattle.pg_messages.specs.declared.messages.Ordered.TheVariants.{Forward, AckCount, PutAck}
use Rattle.pg_messages.specs.declared.messages.Ask.{Ask as SentRequest}
use Rattle.pg_messages.specs.declared.messages.Reply.{Reply}
use Rattle.pg_messages.specs.declared.messages.Reply.TheVariants.{Data, InvAck, WbData}
use Rattle.pg_controllers.specs.Networks.{Line, Core, idle_core, event_of}
use Rattle.pg_controllers.specs.Lines.{Received, result_of, ordered_input, reply_input, received_op, received_ordered, received_reply}
use Rattle.pg_controllers.specs.Directories.{dir_entry_of, dir_input, do_dir_acts}
use Rattle.pg_messages.specs.declared.messages.WorldEvent.{WorldEvent}
use Rattle.pg_messages.specs.declared.messages.WorldEvent.TheVariants.{Issue, Request as Request_of, Ordered as Ordered_to, Reply as Reply_at}
use Rattle.pg_controllers.specs.Worlds.{Picks, World, core, settle, by_choice, issue, deliver, post, handle_by, request, after_write_back, reply as replied, move, with_event, step, is_stable}
use Rattle.pg_controllers.specs.Runs.{opening, replay, AreEnabled}
use Rattle.pg_orderly.specs.Orderly.{Mark, IsOrderly}
use Rattle.pg_orderly.proofs.Rows.{IsChosen, none_chosen, answers}
use Rattle.pg_safe.specs.Moving.{ArePicked, IsComplete, IsThrough, KeepsOrderly}
use Rattle.pg_safe.specs.Work.{total, operation_work, work}
use Rattle.std.proofs.lemmas.List.{length-map}
use Rattle.pg_controllers.specs.Runs.{opening_core}
use Rattle.pg_orderly.proofs.Opening.{no_marks, opens}
use Rattle.pg_safe.proofs.States.{complete_kept, opening_states, opening_work, step_is, step_bounded}

stable_is : (x : Desc) → is_stable x ≡ true → (s : ℕ) × (x ≡ Stable s)
stable_is (Stable s) h = (s, refl)
stable_is (Ask e s p t) h = cc
stable_is (Leave s) h = cc

-- at rest nothing that comes from others leads anywhere else
stays_stable : (d : Draft) (s : ℕ) (i : Input) (ch : Choice) → ((e : Rattle.pg_perm.specs.declared.kinds.Event.Event) → i ≡ at_input.Core e → ⊥) → IsChosen (choices d (Stable s) i) ch → is_stable ch.next ≡ true
stays_stable d s (at_input.Core e) ch other h = absurd (other e refl)
stays_stable d s (at_input.Forward f) ch other h = ap is_stable (answers d s f (λ t. Stable t) ch h).next
stays_stable d s _ ch other h = absurd (none_chosen ch h)

-- a core that isn't set stays
set_left : (xs : List Core) (k c : ℕ) (y : Core) → y.left ≡ (get_or xs k idle_core).left → y.line ≡ (get_or xs k idle_core).line
    → ((get_or (set xs k y) c idle_core).left ≡ (get_or xs c idle_core).left) × ((get_or (set xs k y) c idle_core).line ≡ (get_or xs c idle_core).line)
set_left [] k c y left line = (refl, refl)
set_left (x ∷ xs) zero zero y left line = (left, line)
set_left (x ∷ xs) zero (suc c) y left line = (refl, refl)
set_left (x ∷ xs) (suc k) zero y left line = (refl, refl)
set_left (x ∷ xs) (suc k) (suc c) y left line = set_left xs k c y left line

post_left : (ps : List (ℕ × Ordered)) (xs : List Core) (c : ℕ) → ((get_or (post ps xs) c idle_core).left ≡ (get_or xs c idle_core).left) × ((get_or (post ps xs) c idle_core).line ≡ (get_or xs c idle_core).line)
post_left [] xs c = (refl, refl)
post_left (p ∷ ps) xs c =
    let y : Core = record (get_or xs p.0 idle_core) { queue = (get_or xs p.0 idle_core).queue ++ p.1 ∷ [] } in
    let (left, line) = post_left ps (set xs p.0 y) c in
    let (here, also) = set_left xs p.0 c y refl refl in (left ∙ here, line ∙ also)

-- an event at a core by a choice
choice_through : (d : Draft) (n : ℕ) (pick : Picks) (w : World) (e c : ℕ) (m : Received) (y : Core) (i : Input) (x : World) → ArePicked d pick n w → c < n → c < length x.cores → ((z : ℕ) → core x z ≡ core w z) → y.left ≡ (core w e).left
    → ((v : Rattle.pg_perm.specs.declared.kinds.Event.Event) → i ≡ at_input.Core v → ⊥) → IsThrough w c → IsThrough (by_choice d e m y x (pick (core w e).line.desc i)) c
choice_through d n pick w e c m y i x picks low inside same left other h = at (pick (core w e).line.desc i) refl
  where
    as_was : IsThrough x c
    as_was = record { left = ap (λ (z : Core). z.left) (same c) ∙ h.left; stable = ap (λ (z : Core). is_stable z.line.desc) (same c) ∙ h.stable }

    own : (ch : Choice) → e ≡ c → pick (core w e).line.desc i ≡ Some ch → is_stable ch.next ≡ true
    own ch is picked_it =
        let here : pick (core w c).line.desc i ≡ Some ch = ap (λ e. pick (core w e).line.desc i) (sym is) ∙ picked_it in
        let (s, desc) = stable_is (core w c).line.desc h.stable in
        stays_stable d s i ch other (subst (λ x. IsChosen (choices d x i) ch) desc (picks c low i ch here))

    done : (ch : Choice) → pick (core w e).line.desc i ≡ Some ch → (b : Bool) → (e == c) ≡ b → IsThrough (settle e y (result_of d ch m y.line y.slot) x) c
    done ch picked_it true is =
        let a = result_of d ch m y.line y.slot in
        let eq = eqb-true e c is in
        let there : core (settle e y a x) c ≡ record y { line = a.line; slot = a.slot } = ap (λ k. get_or (set x.cores k (record y { line = a.line; slot = a.slot })) c idle_core) eq ∙ get_or-set_same x.cores c (record y { line = a.line; slot = a.slot }) idle_core inside in
        record { left = ap (λ (z : Core). z.left) there ∙ left ∙ ap (λ e. (core w e).left) eq ∙ h.left; stable = ap (λ (z : Core). is_stable z.line.desc) there ∙ own ch eq picked_it }
    done ch picked_it false ne =
        let a = result_of d ch m y.line y.slot in
        let there : core (settle e y a x) c ≡ core x c = get_or-set_other x.cores e c (record y { line = a.line; slot = a.slot }) idle_core (λ z. eqb-false e c ne (sym z)) in
        record { left = ap (λ (z : Core). z.left) there ∙ as_was.left; stable = ap (λ (z : Core). is_stable z.line.desc) there ∙ as_was.stable }

    at : (o : Option Choice) → pick (core w e).line.desc i ≡ o → IsThrough (by_choice d e m y x o) c
    at None picked_it = as_was
    at (Some ch) picked_it = done ch picked_it (e == c) refl

-- where another core begins an operation
issue_through : (d : Draft) (pick : Picks) (w : World) (e c : ℕ) → IsThrough w c → (b : Bool) → (e == c) ≡ b → (os : List Op) → (core w e).left ≡ os → IsThrough (issue d pick e (core w e) w os) c
issue_through d pick w e c h b is [] left = h
issue_through d pick w e c h true is (o ∷ os) left = absurd (let none = ap (λ e. (core w e).left) (eqb-true e c is) ∙ h.left in let z : o ∷ os ≡ [] = sym left ∙ none in cc)
issue_through d pick w e c h false ne (o ∷ os) left = at (pick (core w e).line.desc (at_input.Core (event_of o)))
  where
    at : (p : Option Choice) → IsThrough (by_choice d e (received_op (core w e).line o) (record (core w e) { left = os }) w p) c
    at None = h
    at (Some ch) =
        let y : Core = record (core w e) { left = os } in
        let a = result_of d ch (received_op (core w e).line o) y.line y.slot in
        let there : core (settle e y a w) c ≡ core w c = get_or-set_other w.cores e c (record y { line = a.line; slot = a.slot }) idle_core (λ z. eqb-false e c ne (sym z)) in
        record { left = ap (λ (z : Core). z.left) there ∙ h.left; stable = ap (λ (z : Core). is_stable z.line.desc) there ∙ h.stable }

not_core : (l : Line) (q : Ordered) (v : Rattle.pg_perm.specs.declared.kinds.Event.Event) → ordered_input l q ≡ at_input.Core v → ⊥
not_core l (Forward f r i k) v e = cc
not_core l (AckCount i k) v e = at (i == l.got) e
  where
    at : (b : Bool) → (Rattle.std.specs.Prelude.if◌then◌else◌ b at_input.CountAll at_input.CountPart) ≡ at_input.Core v → ⊥
    at true e = cc
    at false e = cc
not_core l (PutAck k) v e = cc

reply_not_core : (l : Line) (x : Reply) (v : Rattle.pg_perm.specs.declared.kinds.Event.Event) → reply_input l x ≡ at_input.Core v → ⊥
reply_not_core l (Data r c w i k) v e = at (i == l.got) e
  where
    at : (b : Bool) → (Rattle.std.specs.Prelude.if◌then◌else◌ b (at_input.DataAll r) (at_input.DataPart r)) ≡ at_input.Core v → ⊥
    at true e = cc
    at false e = cc
reply_not_core l (InvAck c k) v e = at (Rattle.pg_terms.specs.Terms.is l.need (suc l.got)) e
  where
    at : (b : Bool) → (Rattle.std.specs.Prelude.if◌then◌else◌ b at_input.AckLast at_input.AckMore) ≡ at_input.Core v → ⊥
    at true e = cc
    at false e = cc
reply_not_core l (WbData w k) v e = cc

pub through_kept : (d : Draft) (n : ℕ) (pick : Picks) (w : World) (e : WorldEvent) (c : ℕ) → ArePicked d pick n w → length w.cores ≡ n → c < n → IsThrough w c → IsThrough (move d pick w e) c
through_kept d n pick w (Issue e) c picks cores low h = issue_through d pick w e c h (e == c) refl (core w e).left refl
through_kept d n pick w (Request_of e) c picks cores low h = at (core w e).slot
  where
    by : (a : SentRequest) (o : Option DirChoice) → IsThrough (handle_by d e a w o) c
    by a None = h
    by a (Some ch) =
        let ps = (do_dir_acts d (dir_entry_of w.directory) e (suc w.directory.last) a.word ch.acts (record { memory = w.directory.memory; invs = 0; posts = []; replies = [] })).posts in
        let (left, line) = post_left ps (set w.cores e (record (core w e) { slot = None })) c in
        let (here, also) = set_left w.cores e c (record (core w e) { slot = None }) refl refl in
        record { left = left ∙ here ∙ h.left; stable = ap (λ (l : Line). is_stable l.desc) (line ∙ also) ∙ h.stable }

    at : (s : Option SentRequest) → IsThrough (request d e w s) c
    at None = h
    at (Some a) = by a (dir_choice d w.directory.desc (dir_input w.directory.desc (dir_entry_of w.directory) (record { core = e; event = a.event })))
through_kept d n pick w (Ordered_to e) c picks cores low h = at (core w e).queue
  where
    at : (ms : List Ordered) → IsThrough (deliver d pick e (core w e) w ms) c
    at [] = h
    at (q ∷ ms) = choice_through d n pick w e c (received_ordered (core w e).line q) (record (core w e) { queue = ms }) (ordered_input (core w e).line q) w picks low (omega (arith, cores, low)) (λ z. refl) refl
        (λ v. not_core (core w e).line q v) h
through_kept d n pick w (Reply_at i) c picks cores low h = at (slice_get w.replies i)
  where
    u : World
    u = record w { replies = remove w.replies i }

    back : (v : ℕ) (o : Option DirChoice) → IsThrough (after_write_back d v u o) c
    back v None = record { left = h.left; stable = h.stable }
    back v (Some ch) = record { left = h.left; stable = h.stable }

    at : (x : Option Reply) → IsThrough (replied d pick u x) c
    at None = record { left = h.left; stable = h.stable }
    at (Some (Data r e v k s)) = choice_through d n pick w e c (received_reply d (core w e).line (Data r e v k s)) (core w e) (reply_input (core w e).line (Data r e v k s)) u picks low (omega (arith, cores, low)) (λ z. refl) refl
        (λ z. reply_not_core (core w e).line (Data r e v k s) z) h
    at (Some (InvAck e s)) = choice_through d n pick w e c (received_reply d (core w e).line (InvAck e s)) (core w e) (reply_input (core w e).line (InvAck e s)) u picks low (omega (arith, cores, low)) (λ z. refl) refl
        (λ z. reply_not_core (core w e).line (InvAck e s) z) h
    at (Some (WbData v s)) = back v (dir_choice d u.directory.desc met.Wb)

-- Runs

-- where a run leads from a world: it is orderly, and the journal has grown by no more than the work was lowered
pub record IsLed (d : Draft) (t : List TableState) (n : ℕ) (w x : World) : Type 0 where
  pub marks : ℕ → Mark
  pub orderly : IsOrderly d n x marks
  pub complete : IsComplete t n x
  pub journal : length x.journal + work d n x ≤ length w.journal + work d n w

pub runs_lead : (d : Draft) (t : List TableState) (n : ℕ) → IsWellFormed d → IsShaped d → IsSoundCache d t → KeepsOrderly d t n → (es : List (ℕ × WorldEvent)) (w : World) (m : ℕ → Mark) → IsOrderly d n w m → IsComplete t n w
    → AreEnabled d (picked t) w es → IsLed d t n w (replay d (picked t) w es)
runs_lead d t n wf sh sound kept [] w m o full on = record { marks = m; orderly = o; complete = full; journal = omega arith }
runs_lead d t n wf sh sound kept (e ∷ es) w m o full on =
    let (u, next) = kept w m e o full on.0 in
    let more = step_bounded d t n w m e.0 e.1 wf sh sound o full on.0 in
    let rest = runs_lead d t n wf sh sound kept es (step d (picked t) w e) u next (complete (step_is d (picked t) w e on.0)) on.1 in
    let after = rest.journal in
    record { marks = rest.marks; orderly = rest.orderly; complete = rest.complete; journal = omega (arith, more, after) }
  where
    complete : step d (picked t) w e ≡ with_event e (move d (picked t) w e.1) → IsComplete t n (step d (picked t) w e)
    complete same =
        let long : length (move d (picked t) w e.1).cores ≡ n = sym (ap (λ z. length z.cores) same) ∙ (kept w m e o full on.0).1.cores in
        subst (IsComplete t n) (sym same) (record { states = (complete_kept d t n w e.1 sound o.cores long full).states })

-- so no run is longer than its operations allow
pub runs_bounded : (d : Draft) (t : List TableState) (given : List (List Op)) (es : List (ℕ × WorldEvent)) → IsWellFormed d → IsShaped d → IsSoundCache d t → KeepsOrderly d t (length given)
    → AreEnabled d (picked t) (opening d given) es
    → length (replay d (picked t) (opening d given) es).journal + work d (length given) (replay d (picked t) (opening d given) es) ≤ total (total (operation_work (length given))) given
runs_bounded d t given es wf sh sound kept on =
    let long : length (opening d given).cores ≡ length given = length-map given (opening_core d) in
    let led = runs_lead d t (length given) wf sh sound kept es (opening d given) no_marks (opens d given wf sh) (record { states = λ c low. opening_states d t given sh sound c (omega (arith, low, long)) }) on in
    let journal = led.journal in
    let first = opening_work d (length given) given in
    omega (arith, journal, first)
