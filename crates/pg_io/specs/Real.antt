-- What an adapter does to the bytes of its stream, where the stream is known to have or hold some.
use Rattle.std.specs.Prelude.{ℕ, Option, List, [], take}
use Rattle.std.specs.Io.KnownBytes.{Appends, Consumes, IsAtEnd, Keeps}
use Rattle.pg_io.specs.declared.source.Took.{Took}
use Rattle.pg_io.specs.declared.source.Took.TheVariants as took
use Rattle.pg_io.specs.declared.sink.Put.{Put}
use Rattle.pg_io.specs.declared.sink.Put.TheVariants as put

-- a stream, and how many of its calls have failed
pub record CountedStream (S : Type 0) : Type 0 where
  pub stream : S
  pub faults : ℕ

-- what a read answers came from the stream, and it is at its end where the answer says so
abbrev pub PassesOn : Took → List ℕ → Option (List ℕ) → Option (List ℕ) → Type 0
PassesOn (took.Bytes count) buffer old new = Consumes old new (take count buffer)
PassesOn took.End buffer old new = Consumes old new [] × IsAtEnd new
PassesOn took.Failed buffer old new = Keeps old new

-- what a write took went to the stream
abbrev pub HandsOver : Put → List ℕ → Option (List ℕ) → Option (List ℕ) → Type 0
HandsOver (put.Bytes count) bytes old new = Appends old new (take count bytes)
HandsOver put.Failed bytes old new = Keeps old new
