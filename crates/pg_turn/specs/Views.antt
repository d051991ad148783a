-- What the seat of a pass knows, and what each step makes of it.
use Rattle.std.specs.Prelude.{◌≡◌, ◌<◌, ◌+◌, ◌%◌, ℕ, List, [], ◌∷◌, ◌++◌, length, drop, Bool, true, false, Option, Some, None}
use Rattle.atomic_table.specs.Table.{Me, Step}
use Rattle.pg_turn.specs.declared.view.Past.{Past}
use Rattle.pg_turn.specs.declared.view.View.{View}
use Rattle.pg_turn.specs.Entries.{StartsWith, by}

-- what a pass tells is true of the log: it begins with what the pass saw, and has of the pass what it made
abbrev pub Tells : {E : Type 0} → (E → ℕ) → List E → Past E → Type 0
Tells maker log p = StartsWith log p.seen × (by maker p.number log ≡ p.mine)

-- a pass of this number saw these entries
abbrev pub past_of : {E : Type 0} → (E → ℕ) → ℕ → List E → Past E
past_of maker n log = record { number = n; seen = log; mine = by maker n log }

-- a try found the value taken. No other step raises `misses`
abbrev pub missed : {T E : Type 0} → View T E → View T E
missed v = record v { misses = v.misses + 1 }

-- a try found the value, which has these entries
abbrev pub took : {T E : Type 0} → View T E → List E → View T E
took v log = record v { own = record v.own { seen = log }; holds = true }

-- the value was put back, with these entries
abbrev pub gave : {T E : Type 0} → View T E → List E → View T E
gave v log = record v { own = record v.own { seen = log; mine = v.own.mine ++ drop (length v.own.seen) log }; holds = false }

-- one seat more was counted
abbrev pub counted : {T E : Type 0} → View T E → View T E
counted v = record v { given = v.given + 1 }

-- this seat took the other one in
abbrev pub absorbed : {T E : Type 0} → View T E → View T E → View T E
absorbed v w = record v { joined = w.own ∷ v.joined }

-- what a seat that was taken in knows: nothing
abbrev pub nobody : {T E : Type 0} → View T E
nobody = record { live = false; given = 0; origin = None; own = record { number = 0; seen = []; mine = [] }; misses = 0; holds = false; joined = [] }

module _ {T E : Type 0} (entries : T → List E) (maker : E → ℕ) where
  -- the first seat, of a turn that was made of this value
  abbrev pub opened : T → View T E
  opened value = record { live = true; given = 1; origin = Some value; own = past_of maker 0 (entries value); misses = 0; holds = false; joined = [] }

  -- the entries of the value at making
  abbrev pub first_entries : Option T → List E
  first_entries None = []
  first_entries (Some value) = entries value

  -- the seat that is split off
  abbrev pub newcomer : View T E → View T E
  newcomer v = record { live = true; given = 0; origin = v.origin; own = past_of maker v.given (first_entries v.origin); misses = 0; holds = false; joined = [] }

module _ {T R E : Type 0} (entries : T → List E) (root : T → R) (maker : E → ℕ) where
  -- the value has the root of the one at making
  abbrev pub HasRoot : Option T → T → Type 0
  HasRoot None value = ⊥
  HasRoot (Some first) value = root value ≡ root first

  -- what whoever takes the value learns of it
  abbrev pub IsNext : View T E → T → Type 0
  IsNext v value = StartsWith (entries value) v.own.seen × (by maker v.own.number (entries value) ≡ v.own.mine) × HasRoot v.origin value

  -- a try: at an odd word the value was found taken; at an even one it is this seat's
  abbrev pub grabbed : Step (Option T) → Me (Option T) (View T E) → ℕ → Me (Option T) (View T E) → Type 0
  grabbed st m r n =
      (r % 2 ≡ 1 → n ≡ (missed m.0, m.1))
      × (r % 2 ≡ 0 → (value : T) × (n ≡ (took m.0 (entries value), (0, Some value) ∷ m.1)) × IsNext m.0 value)

module _ {T E : Type 0} (entries : T → List E) where
  -- the value went back
  abbrev pub returned : View T E → List (ℕ × Option T) → Me (Option T) (View T E) → Type 0
  returned v ((k, Some value) ∷ rest) n = n ≡ (gave v (entries value), rest)
  returned v ((k, None) ∷ rest) n = Unit {0}
  returned v [] n = Unit {0}

  abbrev pub released : Step (Option T) → Me (Option T) (View T E) → ℕ → Me (Option T) (View T E) → Type 0
  released st m r n = returned m.0 m.1 n
