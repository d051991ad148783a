-- What an option or a result says that was found by tests.
use Rattle.std.proofs.Common.{◌≡◌, ℕ, Bool, true, false, List, Option, Some, None, refl, cond}
use Rattle.std.specs.Str.{bytes_eq}
use Rattle.std.specs.Option.{option_map}
use Rattle.std.proofs.lemmas.Option.{same_Some}
use Rattle.std.proofs.lemmas.Slice.Eq.{bytes_eq-Decides}

-- what holds of each branch's value holds of the value that a test for a word led to
pub word_test_some : {A : Type 0} (P : A → Type 0) (w s : List ℕ) (o p : Option A) (y : A) → (w ≡ s → o ≡ Some y → P y) → (p ≡ Some y → P y)
    → cond (bytes_eq w s) o p ≡ Some y → P y
word_test_some P w s o p y first other e = at (bytes_eq w s) (bytes_eq-Decides w s).0 e
  where
    at : (b : Bool) → (b ≡ true → w ≡ s) → cond b o p ≡ Some y → P y
    at true same e = first (same refl) e
    at false same e = other e

-- nothing is no value that was found
pub nothing_found : {A : Type 0} {P : Type 0} (y : A) → None ≡ Some y → P
nothing_found y e = absurd cc

-- what follows from the value that a map met
pub option_map-some : {A B P : Type 0} (f : A → B) (o : Option A) (y : B) → option_map f o ≡ Some y → ((x : A) → o ≡ Some x → f x ≡ y → P) → P
option_map-some f None y e g = absurd cc
option_map-some f (Some x) y e g = g x refl (same_Some (f x) y e)
