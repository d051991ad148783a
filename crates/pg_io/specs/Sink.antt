-- What a write takes, and what it does to what a sink holds.
use Rattle.std.specs.Prelude.{◌≡◌, ℕ, ◌<◌, ◌≤◌, Option, None, Some, List, ◌++◌, length, take}
use Rattle.pg_io.specs.declared.sink.Put.{Put}
use Rattle.pg_io.specs.declared.sink.Put.TheVariants.{Bytes, Failed}

-- what is held is what was held and then these bytes; nothing is said where it isn't told
abbrev pub Holds : Option (List ℕ) → Option (List ℕ) → List ℕ → Type 0
Holds None new bytes = Unit {0}
Holds (Some old) None bytes = ⊥
Holds (Some old) (Some new) bytes = new ≡ old ++ bytes

-- this many bytes were taken, from the front
pub record TakesBytes (count : ℕ) (bytes : List ℕ) (old new : Option (List ℕ)) (before after : ℕ) : Type 0 where
  pub some : 0 < count
  pub within : count ≤ length bytes
  pub held : Holds old new (take count bytes)
  pub faults : after ≡ before

-- the call failed, and what is held is what was held
pub record FailsToTake (old new : Option (List ℕ)) (before after : ℕ) : Type 0 where
  pub same : new ≡ old
  pub faults : before < after

-- what a write does, by its answer: to what is held, and to the count of faults
abbrev pub Writes : Put → List ℕ → Option (List ℕ) → Option (List ℕ) → ℕ → ℕ → Type 0
Writes (Bytes count) bytes old new before after = TakesBytes count bytes old new before after
Writes Failed bytes old new before after = FailsToTake old new before after

-- how many bytes a write took
abbrev pub taken_count : Put → ℕ
taken_count (Bytes count) = count
taken_count Failed = 0
