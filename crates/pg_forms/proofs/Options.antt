-- What an option or a result says that was found by steps and tests.
use Rattle.std.proofs.Common.{◌≡◌, ℕ, Bool, true, false, List, Option, Some, None, Result, Ok, Err, refl, cond}
use Rattle.std.specs.Prelude.{◌≢◌, ◌↔◌}
use Rattle.std.specs.Str.{bytes_eq}
use Rattle.std.specs.Option.{option_map}
use Rattle.std.proofs.lemmas.Option.{same_Some}
use Rattle.std.proofs.lemmas.Slice.Eq.{bytes_eq-Decides}
use Rattle.pg_forms.specs.Reading.{◌>>=◌}

-- what follows from a step's value and from what that led to
pub then_some : {A B P : Type 0} (o : Option A) (f : A → Option B) (y : B) → (o >>= f) ≡ Some y
    → ((x : A) → o ≡ Some x → f x ≡ Some y → P) → P
then_some None f y e g = absurd cc
then_some (Some x) f y e g = g x refl e

-- words that pass the test are one word
pub same_word : (w s : List ℕ) → bytes_eq w s ≡ true → w ≡ s
same_word w s = (bytes_eq-Decides w s).0

-- what holds of each branch's value holds of the value that a test led to
tested : {A : Type 0} (P : A → Type 0) (b : Bool) (o p : Option A) (y : A) → (b ≡ true → o ≡ Some y → P y) → (p ≡ Some y → P y)
    → cond b o p ≡ Some y → P y
tested P true o p y first other e = first refl e
tested P false o p y first other e = other e

-- the same of a test for a word
pub word_test_some : {A : Type 0} (P : A → Type 0) (w s : List ℕ) (o p : Option A) (y : A) → (w ≡ s → o ≡ Some y → P y) → (p ≡ Some y → P y)
    → cond (bytes_eq w s) o p ≡ Some y → P y
word_test_some P w s o p y first other e = tested P (bytes_eq w s) o p y (λ t. first (same_word w s t)) other e

-- words that differ fail the test
pub other_word : (w s : List ℕ) → w ≢ s → bytes_eq w s ≡ false
other_word w s differ = at (bytes_eq w s) refl
  where
    at : (b : Bool) → bytes_eq w s ≡ b → b ≡ false
    at true e = absurd (differ (same_word w s e))
    at false e = refl

-- the same of a test for a word, where the other branch may need that the word is not that one
pub told_apart : {A : Type 0} (P : A → Type 0) (w s : List ℕ) (o p : Option A) (y : A) → (w ≡ s → o ≡ Some y → P y)
    → (w ≢ s → p ≡ Some y → P y) → cond (bytes_eq w s) o p ≡ Some y → P y
told_apart P w s o p y first other e = at (bytes_eq w s) (bytes_eq-Decides w s) e
  where
    at : (b : Bool) → (b ≡ true) ↔ (w ≡ s) → cond b o p ≡ Some y → P y
    at true d e = first (d.0 refl) e
    at false d e = other (λ h. absurd (cc (d.1 h))) e

-- nothing is no value that was found
pub nothing_found : {A : Type 0} {P : Type 0} (y : A) → None ≡ Some y → P
nothing_found y e = absurd cc

-- one failure has one reason
pub same_err : {A E : Type 0} (x y : E) → ◌≡◌ {A = Result A E} (Err x) (Err y) → x ≡ y
same_err x y e = cc

-- one success has one value
pub same_ok : {A E : Type 0} (x y : A) → ◌≡◌ {A = Result A E} (Ok x) (Ok y) → x ≡ y
same_ok x y e = cc

-- what follows from the value that a map met
pub option_map-some : {A B P : Type 0} (f : A → B) (o : Option A) (y : B) → option_map f o ≡ Some y → ((x : A) → o ≡ Some x → f x ≡ y → P) → P
option_map-some f None y e g = absurd cc
option_map-some f (Some x) y e g = g x refl (same_Some (f x) y e)
