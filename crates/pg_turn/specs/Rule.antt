-- The rule of a turn.
use Rattle.std.specs.Prelude.{◌≡◌, ◌<◌, ◌≤◌, ◌+◌, ◌*◌, ◌^◌, ℕ, List, [], ◌∷◌, ◌++◌, length, Bool, true, false, Option, Some}
use mathlib.Core.Option.{some}
use lib.ListN.{get_elem?}
use Rattle.atomic_table.specs.Table.{State}
use Rattle.pg_turn.specs.declared.view.Past.{Past}
use Rattle.pg_turn.specs.declared.view.View.{View}
use Rattle.pg_turn.specs.Entries.{NamedBelow}
use Rattle.pg_turn.specs.Views.{Tells}

-- 1 while the value is taken
abbrev pub bit : Bool → ℕ
bit true = 1
bit false = 0

-- these were taken in: what they tell is true, and their seats are spent
abbrev pub Spent : {T E : Type 0} → (E → ℕ) → List E → List (View T E) → List (Past E) → Type 0
Spent maker log views [] = Unit {0}
Spent {T} {E} maker log views (p ∷ ps) = (Tells maker log p × ((u : View T E) × (get_elem? views p.number ≡ some u) × (u.live ≡ false))) × Spent maker log views ps

-- what the rule says of a live seat at the place k
pub record Fits {T E : Type 0} (maker : E → ℕ) (origin : T) (log : List E) (taken : Bool) (holder : ℕ) (views : List (View T E)) (k : ℕ) (v : View T E) : Type 0 where
  -- a pass's number is its place
  pub number_is : v.own.number ≡ k
  pub origin_is : v.origin ≡ Some origin
  pub told : Tells maker log v.own
  -- only the first seat counts, and it counts all
  pub given_is : 0 < v.given → (v.given ≡ length views) × (k ≡ 0)
  -- who holds the value is the one holder, and has seen all
  pub holding : v.holds ≡ true → (taken ≡ true) × (k ≡ holder) × (v.own.seen ≡ log)
  pub others : Spent maker log views v.joined

pub record InOrder {T R E : Type 0} (entries : T → List E) (root : T → R) (maker : E → ℕ) (origin : T) (seats : ℕ) (s : State (Option T) (View T E)) : Type 0 where
  pub log : List E
  pub more : List E
  pub taken : Bool
  pub holder : ℕ
  -- the log is the first entries, and those that were added
  pub grown : log ≡ entries origin ++ more
  -- the word is twice their number, odd while the value is taken
  pub word : s.words ≡ (2 * length log + bit taken) ∷ []
  pub small : length log < 2 ^ 62
  -- while nobody has the value, it is in its slot, with just the log and with the root
  pub home : taken ≡ false → (value : T) × (get_elem? s.homes 0 ≡ some (some (Some value))) × (entries value ≡ log) × (root value ≡ root origin)
  -- else a live seat has it
  pub held : taken ≡ true → (v : View T E) × (get_elem? s.views holder ≡ some v) × (v.live ≡ true) × (v.holds ≡ true)
  -- each added entry names a seat that there is
  pub named : NamedBelow maker (length s.views) more
  pub room : length s.views ≤ seats
  pub each : (k : ℕ) (v : View T E) → get_elem? s.views k ≡ some v → v.live ≡ true → Fits maker origin log taken holder s.views k v
