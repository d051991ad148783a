-- Each line's state stays one of the table, and the journal and the work that is left never grow together.
use Rattle.std.proofs.Common.{◌≡◌, ℕ, zero, suc, ◌+◌, ◌<◌, ◌≤◌, arith, Bool, true, List, [], ◌∷◌, ◌++◌, length, get_or, set, Option, Some, None, refl, sym, ap, subst}
use Rattle.pg_perm.proofs.Booleans.{and_true}
use Rattle.std.specs.Prelude.{map, slice_get, if◌then◌else◌}
use Rattle.std.specs.List.{remove}
use Rattle.std.proofs.lemmas.List.{length-append}
use Rattle.pg_perm.specs.declared.kinds.Mode.TheVariants as mode
use Rattle.pg_perm.specs.declared.kinds.Op.{Op}
use Rattle.pg_perm.specs.declared.draft.Draft.{Draft}
use Rattle.pg_perm.specs.Drafts.{IsWellFormed}
use Rattle.pg_shape.specs.Shaped.{IsShaped}
use Rattle.pg_table.specs.declared.cache.Desc.{Desc}
use Rattle.pg_table.specs.declared.cache.Desc.TheVariants.{Stable}
use Rattle.pg_table.specs.declared.cache.Input.{Input}
use Rattle.pg_table.specs.declared.cache.Input.TheVariants as at_input
use Rattle.pg_table.specs.declared.directory.DirInput.TheVariants as met
use Rattle.pg_table.specs.Tables.{TableState}
use Rattle.pg_table.specs.Choices.{Choice}
use Rattle.pg_table.specs.Descriptors.{out_state}
use Rattle.pg_table.specs.Directory.{DirChoice, dir_choice}
use Rattle.pg_table.specs.Pick.{pick as picked}
use Rattle.pg_table.specs.Sound.{is_among, states_of, IsSoundCache}
use Rattle.pg_table.proofs.Members.{out_is_out_state, out_below, is_listed}
use Rattle.pg_table.proofs.Picked.{picks_onward}
use Rattle.pg_messages.specs.declared.messages.Ordered.{Ordered}
use Rattle.pg_messages.specs.declared.messages.Ask.{Ask as SentRequest}
use Rattle.pg_messages.specs.declared.messages.Reply.{Reply}
use Rattle.pg_messages.specs.declared.messages.Reply.TheVariants.{Data, InvAck, WbData}
use Rattle.pg_controllers.specs.Networks.{Core, idle_core, event_of}
use Rattle.pg_controllers.specs.Lines.{Received, result_of, ordered_input, reply_input, received_op, received_ordered, received_reply}
use Rattle.pg_controllers.specs.Directories.{dir_entry_of, dir_input, do_dir_acts}
use Rattle.pg_messages.specs.declared.messages.WorldEvent.{WorldEvent}
use Rattle.pg_messages.specs.declared.messages.WorldEvent.TheVariants.{Issue, Request as Request_of, Ordered as Ordered_to, Reply as Reply_at}
use Rattle.pg_controllers.specs.Worlds.{Picks, World, core, by_choice, issue, deliver, post, handle_by, request, after_write_back, reply as replied, move, with_event, step, is_enabled, has_row, can_happen}
use Rattle.pg_controllers.specs.Runs.{opening_core, opening}
use Rattle.pg_orderly.specs.Orderly.{Mark, IsOrderly}
use Rattle.pg_safe.specs.Moving.{IsComplete}
use Rattle.pg_safe.specs.Work.{total, operation_work, core_work, work}
use Rattle.pg_safe.proofs.Work.{work_less}

-- the cores of a list have states of the table
abbrev pub AreStates : List TableState → List Core → Type 0
AreStates t xs = (c : ℕ) → c < length xs → is_among (states_of t) (get_or xs c idle_core).line.desc ≡ true

set_states : (t : List TableState) (xs : List Core) (k : ℕ) (y : Core) → (k < length xs → is_among (states_of t) y.line.desc ≡ true) → AreStates t xs → AreStates t (set xs k y)
set_states t [] k y own h c lt = h c lt
set_states t (x ∷ xs) zero y own h zero lt = own (omega arith)
set_states t (x ∷ xs) zero y own h (suc c) lt = h (suc c) lt
set_states t (x ∷ xs) (suc k) y own h zero lt = h zero (omega arith)
set_states t (x ∷ xs) (suc k) y own h (suc c) lt = set_states t xs k y (λ low. own (omega (arith, low))) (λ c lt. h (suc c) (omega (arith, lt))) c (omega (arith, lt))

post_states : (t : List TableState) (ps : List (ℕ × Ordered)) (xs : List Core) → AreStates t xs → AreStates t (post ps xs)
post_states t [] xs h = h
post_states t (p ∷ ps) xs h =
    post_states t ps (set xs p.0 (record (get_or xs p.0 idle_core) { queue = (get_or xs p.0 idle_core).queue ++ p.1 ∷ [] }))
    (set_states t xs p.0 (record (get_or xs p.0 idle_core) { queue = (get_or xs p.0 idle_core).queue ++ p.1 ∷ [] }) (λ low. h p.0 low) h)

chosen_states : (d : Draft) (t : List TableState) (c : ℕ) (m : Received) (y : Core) (w : World) (x : Desc) (i : Input) → IsSoundCache d t → AreStates t w.cores → (c < length w.cores → is_among (states_of t) x ≡ true)
    → AreStates t (by_choice d c m y w (picked t x i)).cores
chosen_states d t c m y w x i sound h own = at (picked t x i) refl
  where
    at : (o : Option Choice) → picked t x i ≡ o → AreStates t (by_choice d c m y w o).cores
    at None picks = h
    at (Some ch) picks =
        let a = result_of d ch m y.line y.slot in
        set_states t w.cores c (record y { line = a.line; slot = a.slot }) (λ low. picks_onward d t x i ch sound (own low) picks) h

-- an event leads each line to a state of the table
pub move_states : (d : Draft) (t : List TableState) (w : World) (e : WorldEvent) → IsSoundCache d t → AreStates t w.cores → AreStates t (move d (picked t) w e).cores
move_states d t w (Issue c) sound h = at (core w c).left
  where
    at : (os : List Op) → AreStates t (issue d (picked t) c (core w c) w os).cores
    at [] = h
    at (o ∷ os) = chosen_states d t c (received_op (core w c).line o) (record (core w c) { left = os }) w (core w c).line.desc (at_input.Core (event_of o)) sound h (λ low. h c low)
move_states d t w (Request_of c) sound h = at (core w c).slot
  where
    by : (a : SentRequest) (o : Option DirChoice) → AreStates t (handle_by d c a w o).cores
    by a None = h
    by a (Some ch) =
        post_states t (do_dir_acts d (dir_entry_of w.directory) c (suc w.directory.last) a.word ch.acts (record { memory = w.directory.memory; invs = 0; posts = []; replies = [] })).posts (set w.cores c (record (core w c) { slot = None }))
        (set_states t w.cores c (record (core w c) { slot = None }) (λ low. h c low) h)

    at : (s : Option SentRequest) → AreStates t (request d c w s).cores
    at None = h
    at (Some a) = by a (dir_choice d w.directory.desc (dir_input w.directory.desc (dir_entry_of w.directory) (record { core = c; event = a.event })))
move_states d t w (Ordered_to c) sound h = at (core w c).queue
  where
    at : (ms : List Ordered) → AreStates t (deliver d (picked t) c (core w c) w ms).cores
    at [] = h
    at (q ∷ ms) = chosen_states d t c (received_ordered (core w c).line q) (record (core w c) { queue = ms }) w (core w c).line.desc (ordered_input (core w c).line q) sound h (λ low. h c low)
move_states d t w (Reply_at i) sound h = at (slice_get w.replies i)
  where
    u : World
    u = record w { replies = remove w.replies i }

    back : (v : ℕ) (o : Option DirChoice) → AreStates t (after_write_back d v u o).cores
    back v None = h
    back v (Some ch) = h

    at : (x : Option Reply) → AreStates t (replied d (picked t) u x).cores
    at None = h
    at (Some (Data r c v n k)) = chosen_states d t c (received_reply d (core w c).line (Data r c v n k)) (core w c) u (core w c).line.desc (reply_input (core w c).line (Data r c v n k)) sound h (λ low. h c low)
    at (Some (InvAck c k)) = chosen_states d t c (received_reply d (core w c).line (InvAck c k)) (core w c) u (core w c).line.desc (reply_input (core w c).line (InvAck c k)) sound h (λ low. h c low)
    at (Some (WbData v k)) = back v (dir_choice d u.directory.desc met.Wb)

opened : (t : List TableState) (d : Draft) (given : List (List Op)) → is_among (states_of t) (Stable (out_state d)) ≡ true → AreStates t (map (opening_core d) given)
opened t d [] there c lt = absurd (omega (arith, lt))
opened t d (ops ∷ given) there zero lt = there
opened t d (ops ∷ given) there (suc c) lt = opened t d given there c (omega (arith, lt))

-- and the opening begins in one
pub opening_states : (d : Draft) (t : List TableState) (given : List (List Op)) → IsShaped d → IsSoundCache d t → AreStates t (opening d given).cores
opening_states d t given sh sound =
    opened t d given (sound.needed (Stable (out_state d)) (is_listed d mode.Stall (Stable (out_state d)) sh.perms (out_below d (out_state d) (out_is_out_state d sh.perms))))

-- so the fact is kept
pub complete_kept : (d : Draft) (t : List TableState) (n : ℕ) (w : World) (e : WorldEvent) → IsSoundCache d t → length w.cores ≡ n → length (move d (picked t) w e).cores ≡ n → IsComplete t n w → IsComplete t n (move d (picked t) w e)
complete_kept d t n w e sound before now full = record { states = λ c low. move_states d t w e sound (λ c lt. full.states c (omega (arith, lt, before))) c (omega (arith, low, now)) }

-- The journal

choice_journal : (d : Draft) (c : ℕ) (m : Received) (y : Core) (w : World) (o : Option Choice) → (by_choice d c m y w o).journal ≡ w.journal
choice_journal d c m y w None = refl
choice_journal d c m y w (Some ch) = refl

pub move_journal : (d : Draft) (pick : Picks) (w : World) (e : WorldEvent) → (move d pick w e).journal ≡ w.journal
move_journal d pick w (Issue c) = at (core w c).left
  where
    at : (os : List Op) → (issue d pick c (core w c) w os).journal ≡ w.journal
    at [] = refl
    at (o ∷ os) = choice_journal d c (received_op (core w c).line o) (record (core w c) { left = os }) w (pick (core w c).line.desc (at_input.Core (event_of o)))
move_journal d pick w (Request_of c) = at (core w c).slot
  where
    by : (a : SentRequest) (o : Option DirChoice) → (handle_by d c a w o).journal ≡ w.journal
    by a None = refl
    by a (Some ch) = refl

    at : (s : Option SentRequest) → (request d c w s).journal ≡ w.journal
    at None = refl
    at (Some a) = by a (dir_choice d w.directory.desc (dir_input w.directory.desc (dir_entry_of w.directory) (record { core = c; event = a.event })))
move_journal d pick w (Ordered_to c) = at (core w c).queue
  where
    at : (ms : List Ordered) → (deliver d pick c (core w c) w ms).journal ≡ w.journal
    at [] = refl
    at (q ∷ ms) = choice_journal d c (received_ordered (core w c).line q) (record (core w c) { queue = ms }) w (pick (core w c).line.desc (ordered_input (core w c).line q))
move_journal d pick w (Reply_at i) = at (slice_get w.replies i)
  where
    u : World
    u = record w { replies = remove w.replies i }

    back : (v : ℕ) (o : Option DirChoice) → (after_write_back d v u o).journal ≡ w.journal
    back v None = refl
    back v (Some ch) = refl

    at : (x : Option Reply) → (replied d pick u x).journal ≡ w.journal
    at None = refl
    at (Some (Data r c v n k)) = choice_journal d c (received_reply d (core w c).line (Data r c v n k)) (core w c) u (pick (core w c).line.desc (reply_input (core w c).line (Data r c v n k)))
    at (Some (InvAck c k)) = choice_journal d c (received_reply d (core w c).line (InvAck c k)) (core w c) u (pick (core w c).line.desc (reply_input (core w c).line (InvAck c k)))
    at (Some (WbData v k)) = back v (dir_choice d u.directory.desc met.Wb)

-- what can happen happens
pub step_is : (d : Draft) (pick : Picks) (w : World) (e : ℕ × WorldEvent) → can_happen d pick w e.1 ≡ true → step d pick w e ≡ with_event e (move d pick w e.1)
step_is d pick w e on = ap (λ (b : Bool). with_event e (if b then move d pick w e.1 else w)) on

pub step_bounded : (d : Draft) (t : List TableState) (n : ℕ) (w : World) (m : ℕ → Mark) (by : ℕ) (e : WorldEvent) → IsWellFormed d → IsShaped d → IsSoundCache d t → IsOrderly d n w m → IsComplete t n w
    → can_happen d (picked t) w e ≡ true → length (step d (picked t) w (by, e)).journal + work d n (step d (picked t) w (by, e)) ≤ length w.journal + work d n w
step_bounded d t n w m by e wf sh sound o full on =
    let less = work_less d t n w m e wf sh sound o full (and_true (is_enabled (picked t) w e) (has_row d (picked t) w e) on).0 in
    let more = length-append (move d (picked t) w e).journal ((by, e) ∷ []) in
    let same : length (move d (picked t) w e).journal ≡ length w.journal = ap length (move_journal d (picked t) w e) in
    subst (λ z. length z.journal + work d n z ≤ length w.journal + work d n w) (sym (step_is d (picked t) w (by, e) on)) (omega (arith, less, more, same))

pub opening_work : (d : Draft) (n : ℕ) (given : List (List Op)) → work d n (opening d given) ≡ total (total (operation_work n)) given
opening_work d n given = let all = cores given in omega (arith, all)
  where
    cores : (given : List (List Op)) → total (core_work d n) (map (opening_core d) given) ≡ total (total (operation_work n)) given
    cores [] = refl
    cores (ops ∷ given) = let rest = cores given in omega (arith, rest)
