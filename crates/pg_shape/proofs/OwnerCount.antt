-- How many of a list pass a test that none passes below enough others.
use Rattle.std.proofs.Common.{◌≡◌, ℕ, zero, suc, ◌≤◌, ◌⊎◌, Bool, true, false, List, [], ◌∷◌, length, Some, refl, subst, ap, arith, inl, inr}
use Rattle.std.specs.Prelude.{slice_get, take, nat_le}
use Rattle.std.specs.List.{filter}
use Rattle.std.proofs.Math.Seq.{take-length}
use Rattle.std.proofs.lemmas.Bool.{leb-false}
use Rattle.pg_perm.specs.declared.draft.Draft.{Draft}
use Rattle.pg_perm.specs.declared.draft.CacheLine.{CacheLine}
use Rattle.pg_terms.specs.Terms.{is_owner}
use Rattle.pg_shape.specs.CacheRules.{owner_count}
use Rattle.pg_shape.specs.ShapeFaults.{HasShape}
use Rattle.pg_shape.specs.Shaped.{IsCache}
use Rattle.pg_shape.proofs.Bools.{and_not}
use Rattle.pg_shape.proofs.States.{not_too_many}

-- one element more is none more that passes, or is itself one more
filter_next : {X : Type 0} (p : X → Bool) (xs : List X) (k : ℕ)
    → (length (filter p (take (suc k) xs)) ≤ length (filter p (take k xs)))
    ⊎ ((x : X) × (slice_get xs k ≡ Some x) × (p x ≡ true) × (length (filter p (take (suc k) xs)) ≡ suc (length (filter p (take k xs)))))
filter_next p [] k = inl (omega arith)
filter_next p (y ∷ xs) zero = at (p y) refl
  where
    at : (b : Bool) → p y ≡ b
        → (length (filter p (y ∷ [])) ≤ 0)
        ⊎ ((x : _) × (Some y ≡ Some x) × (p x ≡ true) × (length (filter p (y ∷ [])) ≡ 1))
    at true e = inr (y, refl, e, rw e refl)
    at false e = inl (rw e (omega arith))
filter_next p (y ∷ xs) (suc k) = at (p y) refl (filter_next p xs k)
  where
    at : (b : Bool) → p y ≡ b
        → (length (filter p (take (suc k) xs)) ≤ length (filter p (take k xs)))
        ⊎ ((x : _) × (slice_get xs k ≡ Some x) × (p x ≡ true) × (length (filter p (take (suc k) xs)) ≡ suc (length (filter p (take k xs)))))
        → (length (filter p (y ∷ take (suc k) xs)) ≤ length (filter p (y ∷ take k xs)))
        ⊎ ((x : _) × (slice_get xs k ≡ Some x) × (p x ≡ true) × (length (filter p (y ∷ take (suc k) xs)) ≡ suc (length (filter p (y ∷ take k xs)))))
    at true e (inl h) = inl (rw e (omega (arith, h)))
    at true e (inr (x, g, passes, more)) = inr (x, g, passes, rw e (ap suc more))
    at false e (inl h) = inl (rw e h)
    at false e (inr (x, g, passes, more)) = inr (x, g, passes, rw e more)

-- where each that passes stands below fewer than n others, there are at most n
few_pass : {X : Type 0} (p : X → Bool) (xs : List X) (n : ℕ)
    → ((k : ℕ) (x : X) → slice_get xs k ≡ Some x → p x ≡ true → nat_le n (length (filter p (take k xs))) ≡ false) → length (filter p xs) ≤ n
few_pass p xs n below = subst (λ ys. length (filter p ys) ≤ n) (take-length xs) (up_to (length xs))
  where
    next : (k : ℕ) → length (filter p (take k xs)) ≤ n
        → (length (filter p (take (suc k) xs)) ≤ length (filter p (take k xs)))
        ⊎ ((x : _) × (slice_get xs k ≡ Some x) × (p x ≡ true) × (length (filter p (take (suc k) xs)) ≡ suc (length (filter p (take k xs)))))
        → length (filter p (take (suc k) xs)) ≤ n
    next k h (inl no_more) = omega (arith, h, no_more)
    next k h (inr (x, g, passes, more)) = let room = leb-false n _ (below k x g passes) in omega (arith, room, more)

    up_to : (k : ℕ) → length (filter p (take k xs)) ≤ n
    up_to zero = omega arith
    up_to (suc k) = next k (up_to k) (filter_next p xs k)

-- there are at most twelve owners
pub twelve_owners : (d : Draft) → HasShape d → length (filter (λ c. is_owner c.role) d.caches) ≤ 12
twelve_owners d h = few_pass (λ c. is_owner c.role) d.caches 12 below
  where
    below : (k : ℕ) (c : CacheLine) → IsCache d k c → is_owner c.role ≡ true → nat_le 12 (length (filter (λ c. is_owner c.role) (take k d.caches))) ≡ false
    below k c e owner = and_not (is_owner c.role) (nat_le 12 (owner_count (take k d.caches))) (not_too_many d h k c e).2 owner
