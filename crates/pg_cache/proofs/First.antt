-- The first of the final states.
use Rattle.std.proofs.Common.{◌≡◌, List, [], ◌∷◌, refl}
use Rattle.std.specs.Prelude.{slice_get, map}
use Rattle.std.specs.Option.{option_map}
use Rattle.pg_perm.specs.declared.draft.Pair.{Pair}
use Rattle.pg_table.specs.Choices.{store_final}

pub first_is : (ps : List Pair) → option_map (λ (p : Pair). p.fin) (slice_get ps 0) ≡ store_final (map (λ p. p.fin) ps)
first_is [] = refl
first_is (p ∷ ps) = refl
