-- The inputs of a protocol's cache controllers are told apart.
use Rattle.std.proofs.Common.{◌≡◌, ℕ, ◌+◌, ◌<◌, ◌≤◌, Bool, true, false, cond, List, [], ◌∷◌, ◌++◌, map, refl, ap, arith}
use Rattle.std.specs.Prelude.{◌==◌}
use Rattle.std.specs.List.{flat_map, IsDistinct, AllByRecursion}
use Rattle.std.proofs.lemmas.Bool.{ne_eqb}
use Rattle.pg_perm.specs.declared.kinds.Event.{Event}
use Rattle.pg_perm.specs.declared.kinds.Event.TheVariants.{Load, Store, Evict}
use Rattle.pg_perm.specs.declared.draft.Draft.{Draft}
use Rattle.pg_perm.specs.declared.draft.MsgLine.{MsgLine}
use Rattle.pg_perm.specs.declared.draft.MsgClass.{MsgClass}
use Rattle.pg_perm.specs.Classes.{is_forward, is_reply}
use Rattle.pg_table.specs.declared.cache.Input.{Input}
use Rattle.pg_table.specs.declared.cache.Input.TheVariants as at
use Rattle.pg_table.specs.GeneratedStates.{messages_from, inputs}
use Rattle.pg_table.specs.Tables.{same_input}
use Rattle.pg_table.proofs.Same.{same_input_is}
use Rattle.pg_table.proofs.Apart.{each_any, each_weaken, each_flat_map_any, distinct_map, distinct_flat_map, ranked_append}

-- Messages of a class

-- their numbers begin where the counting does
all_from : (p : MsgClass → Bool) (n k : ℕ) (ms : List MsgLine) → k ≤ n → AllByRecursion (λ j. k ≤ j) (messages_from p n ms)
all_from p n k [] h = tt
all_from p n k (m ∷ ms) h = at (p m.class) (all_from p (n + 1) k ms (omega arith))
  where
    at : (b : Bool) → AllByRecursion (λ j. k ≤ j) (messages_from p (n + 1) ms)
        → AllByRecursion (λ j. k ≤ j) (cond b (n ∷ messages_from p (n + 1) ms) (messages_from p (n + 1) ms))
    at true rest = (h, rest)
    at false rest = rest

-- and are told apart
numbers_distinct : (p : MsgClass → Bool) (n : ℕ) (ms : List MsgLine) → IsDistinct (λ a b. a == b) (messages_from p n ms)
unfolding IsDistinct
numbers_distinct p n [] = tt
numbers_distinct p n (m ∷ ms) = at (p m.class) (numbers_distinct p (n + 1) ms)
  where
    at : (b : Bool) → IsDistinct (λ a b. a == b) (messages_from p (n + 1) ms)
        → IsDistinct (λ a b. a == b) (cond b (n ∷ messages_from p (n + 1) ms) (messages_from p (n + 1) ms))
    at true rest = (
      each_weaken (λ j. n + 1 ≤ j) (λ j. (n == j) ≡ false) (λ j h. ne_eqb n j (λ e. omega arith)) (messages_from p (n + 1) ms)
          (all_from p (n + 1) (n + 1) ms (omega arith)),
      rest,
    )
    at false rest = rest

-- Three parts: operations and forwards, what the directory and the owner answer, and acknowledgements

abbrev pub first_inputs : Draft → List Input
first_inputs d = at.Core Load ∷ at.Core Store ∷ at.Core Evict ∷ map (λ f. at.Forward f) (messages_from is_forward 0 d.messages)

abbrev pub data_inputs_of : ℕ → List Input
data_inputs_of r = at.DataAll r ∷ at.DataPart r ∷ []

abbrev pub data_inputs : Draft → List Input
data_inputs d = at.CountAll ∷ at.CountPart ∷ at.PutAck ∷ flat_map data_inputs_of (messages_from is_reply 0 d.messages)

abbrev pub ack_inputs : List Input
ack_inputs = at.AckMore ∷ at.AckLast ∷ []

firsts_distinct : (d : Draft) → IsDistinct same_input (first_inputs d)
unfolding IsDistinct
firsts_distinct d =
    let others = λ (e : Event). each_any (λ j. same_input (at.Core e) j ≡ false) (λ f. at.Forward f) (λ f. refl) (messages_from is_forward 0 d.messages) in (
      (refl, (refl, others Load)),
      (
        (refl, others Store),
        (
          others Evict,
          distinct_map (λ n m. n == m) same_input (λ f. at.Forward f) (λ n m apart. apart) (messages_from is_forward 0 d.messages)
              (numbers_distinct is_forward 0 d.messages),
        ),
      ),
    )

-- the message of data
abbrev message_of : Input → ℕ
message_of (at.DataAll r) = r
message_of (at.DataPart r) = r
message_of _ = 0

data_distinct : (d : Draft) → IsDistinct same_input (flat_map data_inputs_of (messages_from is_reply 0 d.messages))
unfolding IsDistinct
data_distinct d =
    distinct_flat_map same_input message_of (λ a b same. ap message_of (same_input_is a b same)) data_inputs_of (λ r. ((refl, tt), (tt, tt))) (λ r. (refl, (refl, tt)))
    (messages_from is_reply 0 d.messages) (numbers_distinct is_reply 0 d.messages)

answers_distinct : (d : Draft) → IsDistinct same_input (data_inputs d)
unfolding IsDistinct
answers_distinct d =
    let others = λ (i : Input) (all : (r : ℕ) → same_input i (at.DataAll r) ≡ false) (part : (r : ℕ) → same_input i (at.DataPart r) ≡ false).
    each_flat_map_any (λ j. same_input i j ≡ false) data_inputs_of (λ r. (all r, (part r, tt))) (messages_from is_reply 0 d.messages) in (
      (refl, (refl, others at.CountAll (λ r. refl) (λ r. refl))),
      ((refl, others at.CountPart (λ r. refl) (λ r. refl)), (others at.PutAck (λ r. refl) (λ r. refl), data_distinct d)),
    )

acks_distinct : IsDistinct same_input ack_inputs
unfolding IsDistinct
acks_distinct = ((refl, tt), (tt, tt))

-- which part an input is in
abbrev part_of : Input → ℕ
part_of (at.Core e) = 0
part_of (at.Forward f) = 0
part_of at.AckMore = 2
part_of at.AckLast = 2
part_of _ = 1

first_parts : (d : Draft) → AllByRecursion (λ x. part_of x < 1) (first_inputs d)
first_parts d =
    let rest = each_any (λ x. part_of x < 1) (λ f. at.Forward f) (λ f. omega arith) (messages_from is_forward 0 d.messages) in
    (omega arith, (omega arith, (omega arith, rest)))

answer_parts : (d : Draft) → AllByRecursion (λ x. part_of x ≡ 1) (data_inputs d)
answer_parts d =
    (refl, (refl, (refl, each_flat_map_any (λ x. part_of x ≡ 1) data_inputs_of (λ r. (refl, (refl, tt))) (messages_from is_reply 0 d.messages))))

-- no input stands twice
pub inputs_distinct : (d : Draft) → IsDistinct same_input (inputs d)
inputs_distinct d =
    let parts = λ (a b : Input) (same : same_input a b ≡ true). ap part_of (same_input_is a b same) in
    let front = ranked_append same_input part_of parts 1 (first_inputs d) (data_inputs d)
    record { distinct = firsts_distinct d; below = first_parts d } (answers_distinct d) (answer_parts d) in
    (ranked_append same_input part_of parts 2 (first_inputs d ++ data_inputs d) ack_inputs front acks_distinct (refl, (refl, tt))).distinct
