-- The work that is left in a world.
use Rattle.std.specs.Prelude.{ℕ, ◌+◌, ◌*◌, List, [], ◌∷◌, length, Option, Some, None, if◌then◌else◌}
use Rattle.pg_perm.specs.declared.kinds.FwdClass.TheVariants.{Share}
use Rattle.pg_perm.specs.declared.kinds.Op.{Op}
use Rattle.pg_perm.specs.declared.draft.Draft.{Draft}
use Rattle.pg_terms.specs.Terms.{has_class}
use Rattle.pg_messages.specs.declared.messages.Ordered.{Ordered}
use Rattle.pg_messages.specs.declared.messages.Ordered.TheVariants.{Forward, AckCount, PutAck}
use Rattle.pg_messages.specs.declared.messages.Ask.{Ask as SentRequest}
use Rattle.pg_controllers.specs.Networks.{Core}
use Rattle.pg_controllers.specs.Worlds.{World}

abbrev pub total : {A : Type 0} → (A → ℕ) → List A → ℕ
total f [] = 0
total f (x ∷ xs) = f x + total f xs

-- an operation that is left, and a request in a slot
abbrev pub operation_work : ℕ → Op → ℕ
operation_work n o = 2 * n + 2

abbrev pub slot_work : ℕ → Option SentRequest → ℕ
slot_work n None = 0
slot_work n (Some a) = 2 * n + 1

-- a message in a queue, and a forward that was put off
abbrev pub message_work : Draft → Ordered → ℕ
message_work d (Forward f r i k) = if has_class Share d f then 3 else 2
message_work d (AckCount i k) = 1
message_work d (PutAck k) = 1

abbrev pub deferred_work : Draft → Ordered → ℕ
deferred_work d (Forward f r i k) = if has_class Share d f then 2 else 1
deferred_work d (AckCount i k) = 0
deferred_work d (PutAck k) = 0

abbrev pub core_work : Draft → ℕ → Core → ℕ
core_work d n x = total (operation_work n) x.left + slot_work n x.slot + total (message_work d) x.queue + total (deferred_work d) x.line.deferred

-- a reply in flight counts once
abbrev pub work : Draft → ℕ → World → ℕ
work d n w = total (core_work d n) w.cores + length w.replies
