-- What sources and sinks in memory have and count.
use Rattle.std.specs.Prelude.{ℕ, ◌+◌, ◌-◌, ◌^◌, List, min}

-- what is left, how many bytes a call gives at most, the numbers of the calls that fail, and the calls and faults so far
pub record SourceState : Type 0 where
  pub left : List ℕ
  pub piece : ℕ
  pub fails : List ℕ
  pub calls : ℕ
  pub faults : ℕ

-- what is held, how much fits in all, how many bytes a call takes at most, the numbers of the calls that fail, and the
-- calls and faults so far
pub record SinkState : Type 0 where
  pub held : List ℕ
  pub room : ℕ
  pub piece : ℕ
  pub fails : List ℕ
  pub calls : ℕ
  pub faults : ℕ

-- the number of the next call; the count stops at the last `u64`
abbrev pub next_call : ℕ → ℕ
next_call calls = min (calls + 1) (2 ^ 64 - 1)
