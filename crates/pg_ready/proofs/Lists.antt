-- Each event adds at most one entry to the order and one to the completed accesses.
use Rattle.std.proofs.Common.{◌≡◌, ℕ, ◌+◌, ◌≤◌, arith, Bool, true, false, List, [], ◌∷◌, length, Option, Some, None, subst, ◌∙◌}
use Rattle.std.specs.Prelude.{slice_get, if◌then◌else◌}
use Rattle.std.specs.List.{remove}
use Rattle.std.proofs.lemmas.List.{length-append, length-map}
use Rattle.pg_perm.specs.declared.kinds.Op.{Op}
use Rattle.pg_perm.specs.declared.draft.Draft.{Draft}
use Rattle.pg_table.specs.declared.cache.Input.TheVariants as at_input
use Rattle.pg_table.specs.declared.directory.DirInput.TheVariants as met
use Rattle.pg_table.specs.Choices.{Choice}
use Rattle.pg_table.specs.Directory.{DirChoice, dir_choice}
use Rattle.pg_table.specs.Tables.{TableState}
use Rattle.pg_table.specs.Pick.{pick}
use Rattle.pg_messages.specs.declared.messages.Ask.{Ask as SentRequest}
use Rattle.pg_messages.specs.declared.messages.Finished.{Finished}
use Rattle.pg_messages.specs.declared.messages.Finished.TheVariants as finish
use Rattle.pg_messages.specs.declared.messages.Finish.{Finish}
use Rattle.pg_messages.specs.declared.messages.Ordered.{Ordered}
use Rattle.pg_messages.specs.declared.messages.Reply.{Reply}
use Rattle.pg_messages.specs.declared.messages.Reply.TheVariants.{Data, InvAck, WbData}
use Rattle.pg_messages.specs.declared.messages.WorldEvent.{WorldEvent}
use Rattle.pg_messages.specs.declared.messages.WorldEvent.TheVariants.{Issue, Request as Request_of, Ordered as Ordered_to, Reply as Reply_at}
use Rattle.pg_order.specs.Orders.{is_stale}
use Rattle.pg_controllers.specs.Networks.{Core, event_of}
use Rattle.pg_controllers.specs.Directories.{dir_entry_of, dir_input}
use Rattle.pg_controllers.specs.Lines.{Received, result_of, ordered_input, reply_input, received_op, received_ordered, received_reply}
use Rattle.pg_controllers.specs.Worlds.{Picks, World, core, request_in, done_as, done_of, by_choice, issue, deliver, handle_by, request, after_write_back, reply as replied, move, step, can_happen}
use Rattle.pg_controllers.specs.Runs.{opening, replay}
use Rattle.pg_reached.specs.Reached.{IsReachedWorld}
use Rattle.pg_reached.proofs.Reached.{sound_world}

-- at most one entry more stands in each
abbrev pub AddsOne : World → World → Type 0
AddsOne w v = (length v.order ≤ length w.order + 1) × (length v.done ≤ length w.done + 1)

-- what is completed is at most one access
pub one_done : (c : ℕ) (o : Option Finish) → length (done_of c o) ≤ 1
one_done c None = omega arith
one_done c (Some f) = at f.fin
  where
    at : (fin : Finished) → length (done_as c f.stamp f.late fin) ≤ 1
    at (finish.Load v) = omega arith
    at (finish.Store v) = omega arith
    at finish.Evict = omega arith

choice_adds : (d : Draft) (c : ℕ) (m : Received) (x : Core) (w : World) (o : Option Choice) → AddsOne w (by_choice d c m x w o)
choice_adds d c m x w None = (omega arith, omega arith)
choice_adds d c m x w (Some ch) =
    let a = result_of d ch m x.line x.slot in
    let more = length-append w.done (done_of c a.done) in
    let one = one_done c a.done in (omega arith, omega (arith, more, one))

move_adds : (d : Draft) (picks : Picks) (w : World) (e : WorldEvent) → AddsOne w (move d picks w e)
move_adds d picks w (Issue c) = at (core w c).left
  where
    at : (os : List Op) → AddsOne w (issue d picks c (core w c) w os)
    at [] = (omega arith, omega arith)
    at (o ∷ os) = choice_adds d c (received_op (core w c).line o) (record (core w c) { left = os }) w (picks (core w c).line.desc (at_input.Core (event_of o)))
move_adds d picks w (Request_of c) = at (core w c).slot
  where
    by : (a : SentRequest) (o : Option DirChoice) → AddsOne w (handle_by d c a w o)
    by a None = (omega arith, omega arith)
    by a (Some ch) =
        let more = length-append w.order (record { core = c; event = a.event; stale = is_stale (dir_entry_of w.directory) (record { core = c; event = a.event }) } ∷ []) in (omega (arith, more), omega arith)

    at : (s : Option SentRequest) → AddsOne w (request d c w s)
    at None = (omega arith, omega arith)
    at (Some a) = by a (dir_choice d w.directory.desc (dir_input w.directory.desc (dir_entry_of w.directory) (record { core = c; event = a.event })))
move_adds d picks w (Ordered_to c) = at (core w c).queue
  where
    at : (ms : List Ordered) → AddsOne w (deliver d picks c (core w c) w ms)
    at [] = (omega arith, omega arith)
    at (q ∷ ms) = choice_adds d c (received_ordered (core w c).line q) (record (core w c) { queue = ms }) w (picks (core w c).line.desc (ordered_input (core w c).line q))
move_adds d picks w (Reply_at i) = at (slice_get w.replies i)
  where
    u : World
    u = record w { replies = remove w.replies i }

    back : (v : ℕ) (o : Option DirChoice) → AddsOne w (after_write_back d v u o)
    back v None = (omega arith, omega arith)
    back v (Some ch) = (omega arith, omega arith)

    at : (x : Option Reply) → AddsOne w (replied d picks u x)
    at None = (omega arith, omega arith)
    at (Some (Data r c v n k)) = choice_adds d c (received_reply d (core w c).line (Data r c v n k)) (core w c) u (picks (core w c).line.desc (reply_input (core w c).line (Data r c v n k)))
    at (Some (InvAck c k)) = choice_adds d c (received_reply d (core w c).line (InvAck c k)) (core w c) u (picks (core w c).line.desc (reply_input (core w c).line (InvAck c k)))
    at (Some (WbData v k)) = back v (dir_choice d u.directory.desc met.Wb)

step_adds : (d : Draft) (picks : Picks) (w : World) (e : ℕ × WorldEvent) → AddsOne w (step d picks w e)
step_adds d picks w e = at (can_happen d picks w e.1) (move_adds d picks w e.1)
  where
    at : (b : Bool) → AddsOne w (move d picks w e.1) → AddsOne w (if b then move d picks w e.1 else w)
    at true adds = adds
    at false adds = (omega arith, omega arith)

replay_adds : (d : Draft) (picks : Picks) (es : List (ℕ × WorldEvent)) (w : World) → (length (replay d picks w es).order ≤ length w.order + length es) × (length (replay d picks w es).done ≤ length w.done + length es)
replay_adds d picks [] w = (omega arith, omega arith)
replay_adds d picks (e ∷ es) w =
    let (orders, dones) = step_adds d picks w e in
    let (more_orders, more_dones) = replay_adds d picks es (step d picks w e) in (omega (arith, orders, more_orders), omega (arith, dones, more_dones))

-- so in a reached world

pub order_short : (d : Draft) (t : List TableState) (given : List (List Op)) (w : World) → IsReachedWorld d t given w → length w.order ≤ length w.journal
order_short d t given w r = let more = (replay_adds d (pick t) w.journal (opening d given)).0 in subst (λ (z : World). length z.order ≤ length w.journal) r.reached.same (omega (arith, more))

pub done_short : (d : Draft) (t : List TableState) (given : List (List Op)) (w : World) → IsReachedWorld d t given w → length w.done ≤ length w.journal
done_short d t given w r = let more = (replay_adds d (pick t) w.journal (opening d given)).1 in subst (λ (z : World). length z.done ≤ length w.journal) r.reached.same (omega (arith, more))

pub last_stamp : (d : Draft) (t : List TableState) (given : List (List Op)) (w : World) → IsReachedWorld d t given w → w.directory.last ≡ length w.order
last_stamp d t given w r = (sound_world d t given w r).orderly.last ∙ length-map w.order request_in
