-- What holds of the outside once a call has ended.
use Rattle.std.specs.Prelude.{◌≡◌, ℕ, ◌<◌, Option, None, Some, List, [], length, take}
use Rattle.pg_io.specs.Sink.{Holds}
use Rattle.protogen_cli.specs.declared.status.Status.{Status}
use Rattle.protogen_cli.specs.declared.status.Status.TheVariants.{Done, Text, Usage, ReadFault, WriteFault, Memory, TooLong, Script}
use Rattle.protogen_cli.specs.Replies.{Reply}

-- the input is what the source has left, where it tells
abbrev pub Tells : Option (List ℕ) → List ℕ → Type 0
Tells None input = Unit {0}
Tells (Some left) input = left ≡ input

-- what the sink holds, where it tells, and how many calls of the source and of the sink have failed
pub record Outside : Type 0 where
  pub held : Option (List ℕ)
  pub read_faults : ℕ
  pub write_faults : ℕ

-- the outside, from its parts
abbrev pub outside : Option (List ℕ) → ℕ → ℕ → Outside
outside held read_faults write_faults = record { held = held; read_faults = read_faults; write_faults = write_faults }

-- the source failed, and nothing was written
pub record FailsToRead (old new : Outside) : Type 0 where
  pub read_fault : old.read_faults < new.read_faults
  pub write_faults : new.write_faults ≡ old.write_faults
  pub held : new.held ≡ old.held

-- the sink failed, and some of the bytes, from the front and not all, were written
pub record FailsToWrite (bytes : List ℕ) (old new : Outside) : Type 0 where
  pub write_fault : old.write_faults < new.write_faults
  pub read_faults : new.read_faults ≡ old.read_faults
  pub held : (count : ℕ) × (count < length bytes) × Holds old.held new.held (take count bytes)

-- memory ran out, nothing failed and nothing was written
pub record RunsOut (old new : Outside) : Type 0 where
  pub read_faults : new.read_faults ≡ old.read_faults
  pub write_faults : new.write_faults ≡ old.write_faults
  pub held : new.held ≡ old.held

-- the status is that of the reply, nothing failed and all its bytes were written
pub record RepliesInFull (status : Status) (reply : Reply) (old new : Outside) : Type 0 where
  pub due : status ≡ reply.status
  pub read_faults : new.read_faults ≡ old.read_faults
  pub write_faults : new.write_faults ≡ old.write_faults
  pub held : Holds old.held new.held reply.bytes

-- what holds after each status, where this reply was due
abbrev pub Ends : Status → Reply → Outside → Outside → Type 0
Ends ReadFault due old new = FailsToRead old new
Ends WriteFault due old new = FailsToWrite due.bytes old new
Ends Memory due old new = RunsOut old new
Ends Done due old new = RepliesInFull Done due old new
Ends (Text f) due old new = RepliesInFull (Text f) due old new
Ends Usage due old new = RepliesInFull Usage due old new
Ends TooLong due old new = RepliesInFull TooLong due old new
Ends (Script f) due old new = RepliesInFull (Script f) due old new

-- nothing is left of what was left; nothing is said where it isn't told
abbrev pub IsReadToEnd : Option (List ℕ) → Option (List ℕ) → Type 0
IsReadToEnd None new = Unit {0}
IsReadToEnd (Some old) new = new ≡ Some []
