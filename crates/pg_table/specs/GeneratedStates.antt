-- The rows of the generated cache controllers, in their order.
use Rattle.std.specs.Prelude.{ℕ, ◌+◌, Bool, List, [], ◌∷◌, ◌++◌, map, Option, Some, None, if◌then◌else◌}
use Rattle.std.specs.List.{flat_map}
use Rattle.pg_perm.specs.declared.kinds.Event.TheVariants.{Load, Store, Evict}
use Rattle.pg_perm.specs.declared.kinds.Mode.{Mode}
use Rattle.pg_perm.specs.declared.kinds.Mode.TheVariants as mode
use Rattle.pg_perm.specs.declared.draft.Draft.{Draft}
use Rattle.pg_perm.specs.declared.draft.MsgLine.{MsgLine}
use Rattle.pg_perm.specs.Classes.{is_forward, is_reply}
use Rattle.pg_perm.specs.declared.draft.MsgClass.{MsgClass}
use Rattle.pg_table.specs.declared.cache.Desc.{Desc}
use Rattle.pg_table.specs.declared.cache.Input.{Input}
use Rattle.pg_table.specs.declared.cache.Input.TheVariants as at
use Rattle.pg_table.specs.declared.cache.Act.{Act}
use Rattle.pg_table.specs.Controllers.{GeneratedRow, GeneratedState, rows_by, state_by}
use Rattle.pg_table.specs.Descriptors.{descs}
use Rattle.pg_table.specs.Choices.{Choice, choices}

-- the numbers of the messages of a class, as they are declared, where the first has number n
abbrev pub messages_from : (MsgClass → Bool) → ℕ → List MsgLine → List ℕ
messages_from is_class n [] = []
messages_from is_class n (m ∷ ms) = if is_class m.class then n ∷ messages_from is_class (n + 1) ms else messages_from is_class (n + 1) ms

-- the inputs of a cache controller, in their order
abbrev pub inputs : Draft → List Input
inputs d = at.Core Load ∷ at.Core Store ∷ at.Core Evict ∷ map (λ f. at.Forward f) (messages_from is_forward 0 d.messages)
    ++ at.CountAll ∷ at.CountPart ∷ at.PutAck ∷ flat_map (λ r. at.DataAll r ∷ at.DataPart r ∷ []) (messages_from is_reply 0 d.messages)
    ++ at.AckMore ∷ at.AckLast ∷ []

-- of two choices the first lets the forward wait, and the second doesn't
abbrev pub choice_of_mode : Mode → List Choice → Option Choice
choice_of_mode m [] = None
choice_of_mode m (c ∷ []) = Some c
choice_of_mode mode.Stall (c ∷ cs) = Some c
choice_of_mode mode.Defer (c ∷ e ∷ cs) = Some e

abbrev pub GenRow : Type 0
GenRow = GeneratedRow Desc Input Act

abbrev pub GenState : Type 0
GenState = GeneratedState Desc Input Act

-- the rows of a state
abbrev pub rows_of : Draft → Mode → Desc → List GenRow
rows_of d m s = rows_by (λ i. choice_of_mode m (choices d s i)) (inputs d)

-- the states with their rows
abbrev pub generated_states : Draft → Mode → List GenState
generated_states d m = map (state_by (λ s i. choice_of_mode m (choices d s i)) (inputs d)) (descs d m)
