-- How long names are.
use Rattle.std.proofs.Common.{◌≡◌, ℕ, ◌<◌, ◌≤◌, true, List, [], ◌∷◌, length, arith}
use Rattle.std.proofs.lemmas.Bool.{and_parts, ltb-true}
use Rattle.pg_perm.specs.Names.{is_name}

pub name_is_short : (w : List ℕ) → is_name w ≡ true → (1 ≤ length w) × (length w ≤ 24)
name_is_short [] h = absurd cc
name_is_short (b ∷ bs) h =
    let few : length bs < 24 = ltb-true (length bs) 24 (and_parts _ _ (and_parts _ _ h).0).1 in
    (omega arith, omega (arith, few))
