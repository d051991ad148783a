use Rattle.std.proofs.Common.{◌≡◌, ℕ, ◌+◌, List, ◌++◌, take, drop, sym}
use Rattle.std.proofs.lemmas.List.{take-append-drop, drop-drop}

-- what is left is the piece that is given next and then what is left after it
pub drop-by_piece : (given count : ℕ) (bytes buffer : List ℕ) → take count buffer ≡ take count (drop given bytes) → drop given bytes ≡ take count buffer ++ drop (given + count) bytes
drop-by_piece given count bytes buffer same =
    rw (same, ← drop-drop count given bytes) (sym (take-append-drop count (drop given bytes)))
