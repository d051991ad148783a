-- What a read gives, and what it does to what is left.
use Rattle.std.specs.Prelude.{◌≡◌, ℕ, ◌<◌, ◌≤◌, Option, None, Some, List, [], ◌++◌, length, take}
use Rattle.pg_io.specs.declared.source.Took.{Took}
use Rattle.pg_io.specs.declared.source.Took.TheVariants.{Bytes, End, Failed}

-- what was left is these bytes and then what is left now; nothing is said where it isn't told
abbrev pub Gave : Option (List ℕ) → Option (List ℕ) → List ℕ → Type 0
Gave None new bytes = Unit {0}
Gave (Some old) None bytes = ⊥
Gave (Some old) (Some new) bytes = old ≡ bytes ++ new

-- nothing is left
abbrev pub IsAtEnd : Option (List ℕ) → Type 0
IsAtEnd None = Unit {0}
IsAtEnd (Some left) = left ≡ []

-- this many bytes were given, to the front of the buffer
pub record GivesBytes (count : ℕ) (buffer : List ℕ) (old new : Option (List ℕ)) (before after : ℕ) : Type 0 where
  pub some : 0 < count
  pub fits : count ≤ length buffer
  pub given : Gave old new (take count buffer)
  pub faults : after ≡ before

-- there was nothing to give
pub record GivesEnd (old new : Option (List ℕ)) (before after : ℕ) : Type 0 where
  pub at_end : IsAtEnd old
  pub given : Gave old new []
  pub faults : after ≡ before

-- the call failed, and what is left is what was left
pub record FailsToGive (old new : Option (List ℕ)) (before after : ℕ) : Type 0 where
  pub same : new ≡ old
  pub faults : before < after

-- what a read does, by its answer: to the buffer, to what is left, and to the count of faults
abbrev pub Reads : Took → List ℕ → Option (List ℕ) → Option (List ℕ) → ℕ → ℕ → Type 0
Reads (Bytes count) buffer old new before after = GivesBytes count buffer old new before after
Reads End buffer old new before after = GivesEnd old new before after
Reads Failed buffer old new before after = FailsToGive old new before after

-- how many bytes a read gave
abbrev pub given_count : Took → ℕ
given_count (Bytes count) = count
given_count End = 0
given_count Failed = 0
