-- In a sound table no state stands twice.
use Rattle.std.proofs.Common.{◌≡◌, ℕ, zero, suc, true, false, List, [], ◌∷◌, Some, refl, ap, subst, ◌∙◌}
use Rattle.std.specs.Prelude.{slice_get}
use Rattle.std.specs.List.{IsDistinct, AllByRecursion}
use Rattle.pg_table.specs.declared.cache.Desc.{Desc}
use Rattle.pg_table.specs.Tables.{TableState}
use Rattle.pg_table.specs.Tables.{same_desc, number_of}
use Rattle.pg_table.specs.Controllers.{state_at}
use Rattle.pg_table.specs.Sound.{states_of, is_among}
use Rattle.pg_table.proofs.Same.{same_desc_self}
use Rattle.pg_table.proofs.Numbers.{at_among, number_of_at}

never : (x s : Desc) (xs : List Desc) (k : ℕ) → AllByRecursion (λ y. same_desc x y ≡ false) xs → slice_get xs k ≡ Some s → same_desc x s ≡ false
never x s [] k all get = cc
never x s (y ∷ ys) zero all get = let e : y ≡ s = cc get in subst (λ (z : Desc). same_desc x z ≡ false) e all.0
never x s (y ∷ ys) (suc k) all get = never x s ys k all.1 get

apart : (x s : Desc) → x ≡ s → same_desc x s ≡ false → ⊥
apart x s e never_so = let self = same_desc_self x in let same : same_desc x s ≡ true = subst (λ (z : Desc). same_desc x z ≡ true) e self in cc (same, never_so)

unique : (s : Desc) (xs : List Desc) (n k : ℕ) → IsDistinct same_desc xs → slice_get xs n ≡ Some s → slice_get xs k ≡ Some s → n ≡ k
unfolding IsDistinct
unique s [] n k all a b = cc
unique s (x ∷ xs) zero zero all a b = refl
unique s (x ∷ xs) zero (suc k) all a b = absurd (apart x s (cc a) (never x s xs k all.0 b))
unique s (x ∷ xs) (suc n) zero all a b = absurd (apart x s (cc b) (never x s xs n all.0 a))
unique s (x ∷ xs) (suc n) (suc k) all a b = ap suc (unique s xs n k all.1 a b)

pub get_states : (t : List TableState) (n : ℕ) → slice_get (states_of t) n ≡ state_at t n
get_states [] n = refl
get_states (x ∷ xs) zero = refl
get_states (x ∷ xs) (suc n) = get_states xs n

-- a state that stands at a number has that number
pub number_is : (t : List TableState) (n : ℕ) (s : Desc) → IsDistinct same_desc (states_of t) → state_at t n ≡ Some s → number_of (states_of t) s ≡ n
number_is t n s distinct at =
    let get = get_states t n ∙ at in
    unique s (states_of t) (number_of (states_of t) s) n distinct (number_of_at (states_of t) s (at_among (states_of t) n s get)) get

-- and it is among the states
pub is_there : (t : List TableState) (n : ℕ) (s : Desc) → state_at t n ≡ Some s → is_among (states_of t) s ≡ true
is_there t n s at = at_among (states_of t) n s (get_states t n ∙ at)
