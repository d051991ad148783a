-- Cores below a number, without one of them or with one more.
use Rattle.std.proofs.Common.{ℕ, ◌<◌, ◌==◌, nat_lt, Bool, true, false, if◌then◌else◌, List, [], ◌∷◌}
use Rattle.pg_directory.specs.DirEntries.{with_core, without_core}
use Rattle.pg_dir.specs.Numbers.{AreBelow}

keep_below : (n c x : ℕ) (xs ys : List ℕ) (b : Bool) → x < n → AreBelow n ys → AreBelow n (if b then ys else x ∷ ys)
keep_below n c x xs ys true h g = g
keep_below n c x xs ys false h g = (h, g)

pub below_without : (n c : ℕ) (xs : List ℕ) → AreBelow n xs → AreBelow n (without_core c xs)
below_without n c [] h = h
below_without n c (x ∷ xs) h = keep_below n c x xs (without_core c xs) (x == c) h.0 (below_without n c xs h.1)

-- and with one more of them
pub below_with : (n c : ℕ) (xs : List ℕ) → c < n → AreBelow n xs → AreBelow n (with_core c xs)
below_with n c [] low h = (low, tt)
below_with n c (x ∷ xs) low h = at (nat_lt c x) (c == x) (below_with n c xs low h.1)
  where
    at : (a b : Bool) → AreBelow n (with_core c xs) → AreBelow n (if a then c ∷ x ∷ xs else if b then x ∷ xs else x ∷ with_core c xs)
    at true b more = (low, h)
    at false true more = h
    at false false more = (h.0, more)
