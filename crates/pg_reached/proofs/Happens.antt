-- In an orderly world each event that is enabled has its row, so it happens.
use Rattle.std.proofs.Common.{◌≡◌, ℕ, zero, suc, ◌<◌, ◌≤◌, arith, Bool, true, false, not, List, [], ◌∷◌, length, get_or, Option, Some, None, refl, ap, ◌⊎◌, inl, inr}
use Rattle.std.specs.Prelude.{slice_get, nat_lt, is_some}
use Rattle.std.proofs.lemmas.Bool.{ltb-true}
use Rattle.pg_perm.proofs.Booleans.{and_true}
use Rattle.pg_shape.proofs.Bools.{and_of_both}
use Rattle.pg_perm.specs.declared.kinds.Op.{Op}
use Rattle.pg_perm.specs.declared.draft.Draft.{Draft}
use Rattle.pg_perm.specs.Drafts.{IsWellFormed}
use Rattle.pg_shape.specs.Shaped.{IsShaped}
use Rattle.pg_table.specs.declared.cache.Desc.{Desc}
use Rattle.pg_table.specs.declared.cache.Desc.TheVariants.{Stable, Ask, Leave}
use Rattle.pg_table.specs.declared.cache.Input.TheVariants as at_input
use Rattle.pg_table.specs.Tables.{TableState}
use Rattle.pg_table.specs.DueInputs.{is_due_input}
use Rattle.pg_table.specs.Pick.{pick as picked}
use Rattle.pg_table.specs.Sound.{IsSoundCache}
use Rattle.pg_messages.specs.declared.messages.Ordered.{Ordered}
use Rattle.pg_order.proofs.Known.{known}
use Rattle.pg_messages.specs.declared.messages.Ask.{Ask as SentRequest}
use Rattle.pg_messages.specs.declared.messages.Reply.{Reply}
use Rattle.pg_messages.specs.declared.messages.Reply.TheVariants.{Data, InvAck, WbData}
use Rattle.pg_controllers.specs.Networks.{Core, idle_core, event_of}
use Rattle.pg_controllers.specs.Lines.{ordered_input, reply_input}
use Rattle.pg_controllers.specs.Directories.{is_busy}
use Rattle.pg_messages.specs.declared.messages.WorldEvent.{WorldEvent}
use Rattle.pg_messages.specs.declared.messages.WorldEvent.TheVariants.{Issue, Request as Request_of, Ordered as Ordered_to, Reply as Reply_at}
use Rattle.pg_controllers.specs.Worlds.{World, core, order_of, is_stable, has_head, is_enabled, has_first, has_request, has_next, has_reply, has_row, can_happen}
use Rattle.pg_orderly.specs.Orderly.{Mark, IsOrderly}
use Rattle.pg_safe.specs.Moving.{IsComplete}
use Rattle.pg_safe.proofs.Heads.{head_of}
use Rattle.pg_safe.proofs.Replies.{data_due, ack_due, wb_due}
use Rattle.pg_safe.proofs.Requests.{request_due}
use Rattle.pg_safe.proofs.Waiting.{head_met}
use Rattle.pg_completions.proofs.Picks.{chosen_by}

below_or : (c n : ℕ) → (c < n) ⊎ (n ≤ c)
below_or c n = search arith

default_beyond : (xs : List Core) (c : ℕ) → length xs ≤ c → get_or xs c idle_core ≡ idle_core
default_beyond [] c out = refl
default_beyond (x ∷ xs) zero out = absurd (omega (arith, out))
default_beyond (x ∷ xs) (suc c) out = default_beyond xs c (omega (arith, out))

stable_due : (d : Draft) (y : Desc) (o : Op) → is_stable y ≡ true → is_due_input d y (at_input.Core (event_of o)) ≡ true
stable_due d (Stable s) o h = refl
stable_due d (Ask e s p t) o h = cc
stable_due d (Leave s) o h = cc

has_its_row : (d : Draft) (t : List TableState) (n : ℕ) (w : World) (m : ℕ → Mark) (e : WorldEvent) → IsWellFormed d → IsShaped d → IsSoundCache d t → IsOrderly d n w m → IsComplete t n w
    → is_enabled (picked t) w e ≡ true → has_row d (picked t) w e ≡ true
has_its_row d t n w m (Issue c) wf sh sound o full on = at (below_or c n)
  where
    parts : (is_stable (core w c).line.desc ≡ true) × (nat_lt 0 (length (core w c).left) ≡ true)
    parts = and_true (is_stable (core w c).line.desc) (nat_lt 0 (length (core w c).left)) on

    by : c < n → (os : List Op) → nat_lt 0 (length os) ≡ true → has_first (picked t) (core w c).line os ≡ true
    by low [] some = cc
    by low (v ∷ os) some =
        let (ch, picks, chosen) = chosen_by d t (core w c).line.desc (at_input.Core (event_of v)) wf sh sound (full.states c low) (stable_due d (core w c).line.desc v parts.0) in ap is_some picks

    at : (c < n) ⊎ (n ≤ c) → has_first (picked t) (core w c).line (core w c).left ≡ true
    at (inl low) = by low (core w c).left parts.1
    at (inr out) = absurd (
        let cores = o.cores in let idle : core w c ≡ idle_core = default_beyond w.cores c (omega (arith, out, cores)) in
        let none : nat_lt 0 (length (core w c).left) ≡ false = ap (λ (x : Core). nat_lt 0 (length x.left)) idle in let some = parts.1 in cc (none, some))
has_its_row d t n w m (Request_of c) wf sh sound o full on = at (below_or c n)
  where
    parts : (is_some (core w c).slot ≡ true) × (not (is_busy w.directory.desc) ≡ true)
    parts = and_true (is_some (core w c).slot) (not (is_busy w.directory.desc)) on

    free : (b : Bool) → not b ≡ true → b ≡ false
    free false h = refl
    free true h = cc

    by : c < n → (s : Option SentRequest) → (core w c).slot ≡ s → is_some s ≡ true → has_request d w.directory c s ≡ true
    by low None slot some = cc
    by low (Some a) slot some = let (ch, there, does) = request_due d n w m c a wf sh o low slot (free (is_busy w.directory.desc) parts.1) in ap is_some there

    at : (c < n) ⊎ (n ≤ c) → has_request d w.directory c (core w c).slot ≡ true
    at (inl low) = by low (core w c).slot refl parts.0
    at (inr out) = absurd (
        let cores = o.cores in let idle : core w c ≡ idle_core = default_beyond w.cores c (omega (arith, out, cores)) in
        let none : is_some (core w c).slot ≡ false = ap (λ (x : Core). is_some x.slot) idle in let some = parts.0 in cc (none, some))
has_its_row d t n w m (Ordered_to c) wf sh sound o full on = at (below_or c n)
  where
    by : c < n → (ms : List Ordered) → (core w c).queue ≡ ms → has_head (picked t) (core w c).line ms ≡ true → has_next (picked t) (core w c).line ms ≡ true
    by low [] queue on = cc
    by low (q ∷ ms) queue on =
        let (g, hd) = head_of d (order_of d w) c (core w c) (m c) q ms (o.placed c low) queue in
        let due = (head_met d n w m c g q sh (known d n (order_of d w) wf sh o.past) low o hd).due in
        let (ch, picks, chosen) = chosen_by d t (core w c).line.desc (ordered_input (core w c).line q) wf sh sound (full.states c low) due in ap is_some picks

    at : (c < n) ⊎ (n ≤ c) → has_next (picked t) (core w c).line (core w c).queue ≡ true
    at (inl low) = by low (core w c).queue refl on
    at (inr out) = absurd (
        let cores = o.cores in let idle : core w c ≡ idle_core = default_beyond w.cores c (omega (arith, out, cores)) in
        let none : has_head (picked t) (core w c).line (core w c).queue ≡ false = ap (λ (x : Core). has_head (picked t) x.line x.queue) idle in cc (on, none))
has_its_row d t n w m (Reply_at i) wf sh sound o full on = at (slice_get w.replies i) refl
  where
    there : (xs : List Reply) (i : ℕ) → i < length xs → slice_get xs i ≡ None → ⊥
    there [] i lt e = omega (arith, lt)
    there (x ∷ xs) zero lt e = cc
    there (x ∷ xs) (suc i) lt e = there xs i (omega (arith, lt)) e

    at : (x : Option Reply) → slice_get w.replies i ≡ x → has_reply d (picked t) w x ≡ true
    at None get = absurd (there w.replies i (ltb-true i (length w.replies) on) get)
    at (Some (Data r c v cnt k)) get =
        let (low, due) = data_due d n w m i r c v cnt k wf sh o get in
        let (ch, picks, chosen) = chosen_by d t (core w c).line.desc (reply_input (core w c).line (Data r c v cnt k)) wf sh sound (full.states c low) due in ap is_some picks
    at (Some (InvAck c k)) get =
        let (low, due) = ack_due d t n w m i c k wf sh sound o full get in
        let (ch, picks, chosen) = chosen_by d t (core w c).line.desc (reply_input (core w c).line (InvAck c k)) wf sh sound (full.states c low) due in ap is_some picks
    at (Some (WbData v k)) get = let (busy, found) = wb_due d n w m i v k o get in ap is_some found.1

pub enabled_happens : (d : Draft) (t : List TableState) (n : ℕ) (w : World) (m : ℕ → Mark) (e : WorldEvent) → IsWellFormed d → IsShaped d → IsSoundCache d t → IsOrderly d n w m → IsComplete t n w
    → is_enabled (picked t) w e ≡ true → can_happen d (picked t) w e ≡ true
enabled_happens d t n w m e wf sh sound o full on = and_of_both (is_enabled (picked t) w e) (has_row d (picked t) w e) on (has_its_row d t n w m e wf sh sound o full on)
