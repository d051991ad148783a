-- What writing all of some bytes does, by its answer.
use Rattle.std.specs.Prelude.{◌≡◌, ℕ, ◌<◌, Option, List, length, take, Result, Ok, Err}
use Rattle.pg_io.specs.Sink.{Holds}
use Rattle.pg_io.specs.declared.write.WriteError.{WriteError}
use Rattle.pg_io.specs.declared.write.WriteError.TheVariants.{Fault}

-- what the sink holds grew by all the bytes, or at a fault by those that were written before it, and those aren't all
abbrev pub WritesAll : Result (Unit {0}) WriteError → List ℕ → Option (List ℕ) → Option (List ℕ) → Type 0
WritesAll (Ok done) bytes old new = Holds old new bytes
WritesAll (Err (Fault written)) bytes old new = (written < length bytes) × Holds old new (take written bytes)

-- the faults rose where the answer is a fault, and else stand
abbrev pub RiseAtError : Result (Unit {0}) WriteError → ℕ → ℕ → Type 0
RiseAtError (Ok done) before after = after ≡ before
RiseAtError (Err (Fault written)) before after = before < after
