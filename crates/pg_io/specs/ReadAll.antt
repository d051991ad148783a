-- What reading a source to its end gives and takes.
use Rattle.std.specs.Prelude.{◌≡◌, ℕ, ◌+◌, ◌<◌, ◌≤◌, Option, None, Some, List, [], length, Result, Ok, Err, Vec}
use Rattle.std.specs.declared.alloc.Global.{Global}
use Rattle.pg_io.specs.Source.{Gave}
use Rattle.pg_io.specs.declared.read.ReadAllError.{ReadAllError}
use Rattle.pg_io.specs.declared.read.ReadAllError.TheVariants.{Fault, TooLong, Memory}

-- these bytes are all that was left, and nothing is left now; nothing is said where it isn't told
abbrev pub GaveAll : Option (List ℕ) → Option (List ℕ) → List ℕ → Type 0
GaveAll None new bytes = Unit {0}
GaveAll (Some old) new bytes = (old ≡ bytes) × (new ≡ Some [])

-- some bytes were given, and their count has P
abbrev pub GaveCount : Option (List ℕ) → Option (List ℕ) → (ℕ → Type 0) → Type 0
GaveCount old new P = (bytes : List ℕ) × Gave old new bytes × P (length bytes)

-- how much was taken, by the answer: one byte more than the limit at `TooLong`, and else at most the limit
abbrev pub TakesUpTo : ℕ → Result (Vec ℕ Global) ReadAllError → Option (List ℕ) → Option (List ℕ) → Type 0
TakesUpTo limit (Err TooLong) old new = GaveCount old new (λ count. count ≡ limit + 1)
TakesUpTo limit (Err Fault) old new = GaveCount old new (λ count. count ≤ limit)
TakesUpTo limit (Err Memory) old new = GaveCount old new (λ count. count ≤ limit)
TakesUpTo limit (Ok all) old new = GaveCount old new (λ count. count ≤ limit)

-- the faults rose where the answer is `Fault`, and else stand
abbrev pub RiseAtFault : Result (Vec ℕ Global) ReadAllError → ℕ → ℕ → Type 0
RiseAtFault (Err Fault) before after = before < after
RiseAtFault (Err TooLong) before after = after ≡ before
RiseAtFault (Err Memory) before after = after ≡ before
RiseAtFault (Ok all) before after = after ≡ before
