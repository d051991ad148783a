-- Which worlds are settled or finished, and what can move.
use Rattle.std.specs.Prelude.{ℕ, ◌≡◌, ◌<◌, Bool, true, false, not, ◌&&◌, List, [], ◌∷◌, Some, is_none, slice_get}
use Rattle.std.specs.List.{list_all}
use Rattle.pg_perm.specs.declared.draft.Draft.{Draft}
use Rattle.pg_table.specs.declared.cache.Input.{Input}
use Rattle.pg_table.specs.Tables.{TableState}
use Rattle.pg_table.specs.Choices.{Choice, choices}
use Rattle.pg_table.specs.Sound.{is_among, states_of}
use Rattle.pg_controllers.specs.Networks.{Core}
use Rattle.pg_controllers.specs.Directories.{is_busy}
use Rattle.pg_table.specs.Pick.{pick as picked}
use Rattle.pg_messages.specs.declared.messages.WorldEvent.{WorldEvent}
use Rattle.pg_messages.specs.declared.messages.WorldEvent.TheVariants.{Issue, Request as Request_of, Ordered as Ordered_to, Reply as Reply_at}
use Rattle.pg_controllers.specs.Worlds.{Picks, World, core, step, is_stable, is_enabled, can_happen}
use Rattle.pg_orderly.specs.Orderly.{Mark, IsOrderly}

abbrev pub is_empty : {A : Type 0} → List A → Bool
is_empty [] = true
is_empty (x ∷ xs) = false

-- the line is at rest, and nothing waits to be sent or met
abbrev pub is_at_rest : Core → Bool
is_at_rest x = is_stable x.line.desc && is_none x.slot && is_empty x.queue

-- nothing is under way
abbrev pub is_settled : World → Bool
is_settled w = list_all is_at_rest w.cores && is_empty w.replies && not (is_busy w.directory.desc)

-- and nothing is left to do
abbrev pub is_finished : World → Bool
is_finished w = is_settled w && list_all (λ x. is_empty x.left) w.cores

abbrev pub is_issue : WorldEvent → Bool
is_issue (Issue c) = true
is_issue (Request_of c) = false
is_issue (Ordered_to c) = false
is_issue (Reply_at i) = false

-- an event that delivers something is enabled
abbrev pub CanMove : Picks → World → Type 0
CanMove pick w = (e : WorldEvent) × (is_issue e ≡ false) × (is_enabled pick w e ≡ true)

-- what the controllers pick is one of their choices, in the states in which their lines are
abbrev pub ArePicked : Draft → Picks → ℕ → World → Type 0
ArePicked d pick n w = (c : ℕ) → c < n → (i : Input) (ch : Choice) → pick (core w c).line.desc i ≡ Some ch → (k : ℕ) × (slice_get (choices d (core w c).line.desc i) k ≡ Some ch)

-- what is to be known besides: each line's state is one of the table
pub record IsComplete (t : List TableState) (n : ℕ) (w : World) : Type 0 where
  pub states : (c : ℕ) → c < n → is_among (states_of t) (core w c).line.desc ≡ true

-- no operation is left, and the line is at rest
pub record IsThrough (w : World) (c : ℕ) : Type 0 where
  pub left : (core w c).left ≡ []
  pub stable : is_stable (core w c).line.desc ≡ true

-- each event keeps worlds orderly, with some marks
abbrev pub KeepsOrderly : Draft → List TableState → ℕ → Type 0
KeepsOrderly d t n = (w : World) (m : ℕ → Mark) (e : ℕ × WorldEvent) → IsOrderly d n w m → IsComplete t n w → can_happen d (picked t) w e.1 ≡ true → (u : ℕ → Mark) × IsOrderly d n (step d (picked t) w e) u
