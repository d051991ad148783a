-- Only heads of queues, and requests at a directory that is busy, may wait.
use Rattle.std.proofs.Common.{◌≡◌, ℕ, ◌<◌, Bool, true, false, not, List, length, Option, Some, None, refl, sym, ap, ◌∙◌, ◌↔◌}
use Rattle.std.specs.Prelude.{suc, ◌==◌, if◌then◌else◌, slice_get, is_none}
use Rattle.pg_terms.specs.Terms.{is}
use Rattle.std.specs.List.{list_any}
use Rattle.std.proofs.lemmas.Bool.{not-true}
use Rattle.pg_perm.specs.declared.kinds.Event.{Event}
use Rattle.pg_perm.specs.declared.kinds.Event.TheVariants as event
use Rattle.pg_perm.specs.declared.kinds.Op.{Op}
use Rattle.pg_perm.specs.declared.draft.Draft.{Draft}
use Rattle.pg_shape.proofs.Searches.{all_at}
use Rattle.pg_directory.specs.DirEntries.{DirEntry, Request}
use Rattle.pg_table.specs.declared.cache.Desc.{Desc}
use Rattle.pg_table.specs.declared.cache.Desc.TheVariants.{Stable, Ask, Leave}
use Rattle.pg_table.specs.declared.cache.Input.{Input}
use Rattle.pg_table.specs.declared.cache.Input.TheVariants as at_input
use Rattle.pg_table.specs.declared.directory.DirDesc.{DirDesc}
use Rattle.pg_table.specs.declared.directory.DirDesc.TheVariants.{State, Busy}
use Rattle.pg_table.specs.Choices.{Choice, choices}
use Rattle.pg_table.specs.Directory.{DirChoice, dir_choice}
use Rattle.pg_table.specs.Pick.{pick as picked}
use Rattle.pg_table.specs.Stalls.{is_later_at, is_stall, is_asked_busy}
use Rattle.pg_table.specs.Tables.{TableState}
use Rattle.pg_table.proofs.DirStalls.{busy_request_stalls}
use Rattle.pg_table.proofs.Picked.{picks_choice}
use Rattle.pg_table.proofs.Stalls.{later_is_forward, others}
use Rattle.pg_messages.specs.declared.messages.Ask.{Ask as SentRequest}
use Rattle.pg_messages.specs.declared.messages.Reply.{Reply}
use Rattle.pg_messages.specs.declared.messages.Reply.TheVariants.{Data, InvAck, WbData}
use Rattle.pg_controllers.specs.Networks.{Line}
use Rattle.pg_controllers.specs.Directories.{is_busy, dir_entry_of, dir_input}
use Rattle.pg_controllers.specs.Lines.{reply_input}
use Rattle.pg_controllers.specs.Worlds.{World, core, order_of, is_stable, waits}
use Rattle.pg_order.specs.Orders.{DirOrder}
use Rattle.pg_orderly.specs.Orderly.{Mark, IsLined}
use Rattle.pg_safe.specs.OneRow.{HasDirRow}
use Rattle.pg_safe.proofs.DirRows.{directory_has_row}
use Rattle.pg_reached.specs.Reached.{IsReachedWorld}
use Rattle.pg_reached.proofs.Reached.{request_has_row, sound_world}

-- what is no later forward doesn't wait
not_later : (d : Draft) (t : List TableState) (given : List (List Op)) (w : World) (c : ℕ) (i : Input) → IsReachedWorld d t given w → c < length given → is_later_at d (core w c).line.desc i ≡ false
    → waits (picked t (core w c).line.desc i) ≡ false
not_later d t given w c i r low never = by (picked t (core w c).line.desc i) refl
  where
    by : (o : Option Choice) → picked t (core w c).line.desc i ≡ o → waits o ≡ false
    by None is = refl
    by (Some ch) is =
        let (k, chosen) = picks_choice d t (core w c).line.desc i ch r.sound ((sound_world d t given w r).complete.states c low) is in
        not-true (list_any is_stall ch.acts) (all_at (λ (c : Choice). not (list_any is_stall c.acts)) (choices d (core w c).line.desc i) k ch (others d (core w c).line.desc i never) chosen)

-- nor does what is no forward
no_forward : (d : Draft) (t : List TableState) (given : List (List Op)) (w : World) (c : ℕ) (i : Input) → IsReachedWorld d t given w → c < length given → ((f : ℕ) → i ≡ at_input.Forward f → ⊥)
    → waits (picked t (core w c).line.desc i) ≡ false
no_forward d t given w c i r low not_it = not_later d t given w c i r low (by (is_later_at d (core w c).line.desc i) refl)
  where
    by : (b : Bool) → is_later_at d (core w c).line.desc i ≡ b → b ≡ false
    by false is = refl
    by true is = let (e, x, p, g, f, desc, forward) = later_is_forward d (core w c).line.desc i is in absurd (not_it f forward)

pub operations_go_on : (d : Draft) (t : List TableState) (given : List (List Op)) (w : World) (c : ℕ) (e : Event) → IsReachedWorld d t given w → c < length given → waits (picked t (core w c).line.desc (at_input.Core e)) ≡ false
operations_go_on d t given w c e r low = no_forward d t given w c (at_input.Core e) r low (λ f z. cc)

pub replies_go_on : (d : Draft) (t : List TableState) (given : List (List Op)) (w : World) (c : ℕ) (x : Reply) → IsReachedWorld d t given w → c < length given
    → waits (picked t (core w c).line.desc (reply_input (core w c).line x)) ≡ false
replies_go_on d t given w c (Data m e v n k) r low = no_forward d t given w c (reply_input (core w c).line (Data m e v n k)) r low (by (n == (core w c).line.got))
  where
    by : (b : Bool) (f : ℕ) → (if b then at_input.DataAll m else at_input.DataPart m) ≡ at_input.Forward f → ⊥
    by true f z = cc
    by false f z = cc
replies_go_on d t given w c (InvAck e k) r low = no_forward d t given w c (reply_input (core w c).line (InvAck e k)) r low (by (is (core w c).line.need (suc (core w c).line.got)))
  where
    by : (b : Bool) (f : ℕ) → (if b then at_input.AckLast else at_input.AckMore) ≡ at_input.Forward f → ⊥
    by true f z = cc
    by false f z = cc
replies_go_on d t given w c (WbData v k) r low = no_forward d t given w c at_input.AckMore r low (λ f z. cc)

-- Requests

busy_asked : (y : DirDesc) (s : DirEntry) (q : Request) → is_busy y ≡ true → is_asked_busy y (dir_input y s q) ≡ true
busy_asked (State n) s q busy = cc
busy_asked (Busy n) s q busy = by q.event refl
  where
    by : (e : Event) → q.event ≡ e → is_asked_busy (Busy n) (dir_input (Busy n) s q) ≡ true
    by event.Load is = rw is refl
    by event.Store is = rw is refl
    by event.Evict is = rw is refl

pub each_request_has_row : (d : Draft) (t : List TableState) (given : List (List Op)) (w : World) (c : ℕ) (a : SentRequest) → IsReachedWorld d t given w → c < length given → (core w c).slot ≡ Some a
    → HasDirRow d w.directory.desc (dir_input w.directory.desc (dir_entry_of w.directory) (record { core = c; event = a.event }))
each_request_has_row d t given w c a r low slot = by (is_busy w.directory.desc) refl
  where
    q : Request
    q = record { core = c; event = a.event }

    by : (b : Bool) → is_busy w.directory.desc ≡ b → HasDirRow d w.directory.desc (dir_input w.directory.desc (dir_entry_of w.directory) q)
    by false free = request_has_row d t given w c a r low slot free
    by true busy = directory_has_row d w.directory.desc (dir_input w.directory.desc (dir_entry_of w.directory) q) _ (sound_world d t given w r).directory
        (busy_request_stalls d w.directory.desc (dir_input w.directory.desc (dir_entry_of w.directory) q) (busy_asked w.directory.desc (dir_entry_of w.directory) q busy))

-- Lines

stable_lined : (d : Draft) (p : DirOrder) (c : ℕ) (l : Line) (m : Mark) (y : Desc) (s : Option SentRequest) → IsLined d p c l m y s → ((is_none l.pending ≡ true) ↔ (is_stable y ≡ true))
stable_lined d p c l m (Stable x) None h = (λ z. refl, λ z. ap is_none h.1)
stable_lined d p c l m (Stable x) (Some a) h = absurd h
stable_lined d p c l m (Ask e x ph t) None h = let (o, pending, same) = h.0 in (λ z. absurd (let some = ap is_none pending in cc (z, some)), λ z. cc)
stable_lined d p c l m (Ask e x ph t) (Some a) h = let (o, pending, same) = h.0 in (λ z. absurd (let some = ap is_none pending in cc (z, some)), λ z. cc)
stable_lined d p c l m (Leave x) None h = let (o, pending, same) = h.0 in (λ z. absurd (let some = ap is_none pending in cc (z, some)), λ z. cc)
stable_lined d p c l m (Leave x) (Some a) h = let (o, pending, same) = h.0 in (λ z. absurd (let some = ap is_none pending in cc (z, some)), λ z. cc)

pub outstanding_until_stable : (d : Draft) (t : List TableState) (given : List (List Op)) (w : World) (c : ℕ) → IsReachedWorld d t given w → c < length given
    → ((is_none (core w c).line.pending ≡ true) ↔ (is_stable (core w c).line.desc ≡ true))
outstanding_until_stable d t given w c r low =
    let s = sound_world d t given w r in
    stable_lined d (order_of d w) c (core w c).line (s.marks c) (core w c).line.desc (core w c).slot (s.orderly.placed c low).line
