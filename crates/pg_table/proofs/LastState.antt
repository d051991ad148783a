-- Setting the last state.
use Rattle.std.proofs.Common.{◌≡◌, ◌<◌, ◌+◌, ◌-◌, ℕ, zero, suc, List, [], ◌∷◌, ◌++◌, length, slice_index_or, slice_set, refl, ap, arith}
use Rattle.pg_table.specs.declared.table.ControllerRow.{ControllerRow}
use Rattle.pg_table.specs.declared.table.ControllerState.{ControllerState}
use Rattle.pg_table.specs.Controllers.{with_row}

module _ {D I A : Type 0} where
  set_at_last : (ss : List (ControllerState D I A)) (n : ℕ) (x : ControllerState D I A) (r : ControllerRow I A) → length ss ≡ n + 1 → x ≡ slice_index_or ss n x
      → slice_set ss n (record x { rows = x.rows ++ r ∷ [] }) ≡ with_row ss r
  set_at_last [] n x r len at = absurd (omega arith)
  set_at_last (s ∷ []) zero x r len at = rw at refl
  set_at_last (s ∷ []) (suc n) x r len at = absurd (omega arith)
  set_at_last (s ∷ t ∷ ss) zero x r len at = absurd (omega arith)
  set_at_last (s ∷ t ∷ ss) (suc n) x r len at = ap (λ rest. s ∷ rest) (set_at_last (t ∷ ss) n x r (omega arith) at)

  pub set_last_is_with_row : (ss : List (ControllerState D I A)) (x : ControllerState D I A) (r : ControllerRow I A) → 0 < length ss → x ≡ slice_index_or ss (length ss - 1) x
      → slice_set ss (length ss - 1) (record x { rows = x.rows ++ r ∷ [] }) ≡ with_row ss r
  set_last_is_with_row ss x r some at = set_at_last ss (length ss - 1) x r (omega arith) at
