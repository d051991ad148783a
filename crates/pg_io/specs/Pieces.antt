-- Bytes that are given a piece at a time.
use Rattle.std.specs.Prelude.{ℕ, List, length, min}

-- the bytes that are left, and how many are given at most at a time
pub record PiecesLeft : Type 0 where
  pub left : List ℕ
  pub piece : ℕ

-- how many bytes come next into a buffer of this length
abbrev pub next_count : ℕ → ℕ → List ℕ → ℕ
next_count buffer_len piece left = min piece (min buffer_len (length left))
