-- The out state stands in each sound table.
use Rattle.std.proofs.Common.{◌≡◌, ℕ, ◌<◌, ◌≤◌, true, List, length, Some, sym, ap, ◌∙◌, ◌⊎◌, inl, inr}
use Rattle.pg_perm.specs.declared.draft.Draft.{Draft}
use Rattle.pg_perm.specs.declared.kinds.Mode.TheVariants as mode
use Rattle.pg_shape.specs.Shaped.{IsShaped}
use Rattle.std.proofs.Math.Nat.{eq-or-lt_of_le}
use Rattle.pg_table.specs.declared.cache.Desc.{Desc}
use Rattle.pg_table.specs.declared.cache.Desc.TheVariants.{Stable}
use Rattle.pg_table.specs.Controllers.{state_at}
use Rattle.pg_table.specs.Descriptors.{out_state}
use Rattle.pg_table.specs.Tables.{TableState, number_of}
use Rattle.pg_table.specs.Sound.{states_of, is_among, IsSoundCache}
use Rattle.pg_table.proofs.Members.{out_is_out_state, out_below, is_listed}
use Rattle.pg_table.proofs.Numbers.{number_of_at}
use Rattle.pg_cache.proofs.Unique.{get_states}
use Rattle.pg_cache.proofs.Numbered.{there}

pub out_at : (d : Draft) (t : List TableState) → IsShaped d → IsSoundCache d t → state_at t (number_of (states_of t) (Stable (out_state d))) ≡ Some (Stable (out_state d))
out_at d t sh sound =
    let among : is_among (states_of t) (Stable (out_state d)) ≡ true =
    sound.needed (Stable (out_state d)) (is_listed d mode.Stall (Stable (out_state d)) sh.perms (out_below d (out_state d) (out_is_out_state d sh.perms))) in
    sym (get_states t (number_of (states_of t) (Stable (out_state d)))) ∙ number_of_at (states_of t) (Stable (out_state d)) among

pub out_inside : (d : Draft) (t : List TableState) → IsShaped d → IsSoundCache d t → number_of (states_of t) (Stable (out_state d)) < length t
out_inside d t sh sound = there t (number_of (states_of t) (Stable (out_state d))) (Stable (out_state d)) (out_at d t sh sound)

-- a state before it is another
pub before_out : (d : Draft) (t : List TableState) (n : ℕ) (s : Desc) → IsShaped d → IsSoundCache d t → state_at t n ≡ Some s → (s ≡ Stable (out_state d) → ⊥)
    → n ≤ number_of (states_of t) (Stable (out_state d)) → n < number_of (states_of t) (Stable (out_state d))
before_out d t n s sh sound at other low = by (eq-or-lt_of_le low)
  where
    by : (n ≡ number_of (states_of t) (Stable (out_state d))) ⊎ (n < number_of (states_of t) (Stable (out_state d))) → n < number_of (states_of t) (Stable (out_state d))
    by (inl same) = absurd (other (let here : state_at t n ≡ Some (Stable (out_state d)) = ap (state_at t) same ∙ out_at d t sh sound in cc (at, here)))
    by (inr less) = less
