-- What searches of lists find.
use Rattle.std.proofs.Common.{◌≡◌, ℕ, zero, suc, ◌+◌, ◌<◌, Bool, true, false, cond, not, ◌||◌, List, [], ◌∷◌, length, Option, Some, None, refl, sym, subst, ap, ◌∙◌, arith, Bor}
use Rattle.std.specs.Prelude.{slice_get, position, find, nat_lt, is_none}
use Rattle.std.specs.Option.{option_map_or, option_copied}
use Rattle.std.specs.List.{list_any, list_all, position_or_len}
use Rattle.std.proofs.lemmas.Bool.{lt-ltb, ltb-true, and_parts}
use Rattle.std.proofs.lemmas.Option.{same_Some}

-- two answers that can't and_parts be given
pub not_both : (b : Bool) → b ≡ true → b ≡ false → ⊥
not_both b h g = absurd (cc (h, g))

-- an answer that isn't the one is the other
pub not_true : (b : Bool) → (b ≡ true → ⊥) → b ≡ false
not_true true h = absurd (h refl)
not_true false h = refl

pub or_left : (a b : Bool) → a ≡ true → (a || b) ≡ true
or_left true b h = refl
or_left false b h = absurd cc

pub or_right : (a b : Bool) → b ≡ true → (a || b) ≡ true
or_right true b h = refl
or_right false b h = h

-- one that passes is at a place
pub any_get : {X : Type 0} (p : X → Bool) (xs : List X) → list_any p xs ≡ true → (k : ℕ) × (x : X) × (slice_get xs k ≡ Some x) × (p x ≡ true)
any_get p [] h = absurd cc
any_get p (x ∷ xs) h = at (p x) refl h (any_get p xs)
  where
    at : (b : Bool) → p x ≡ b → (b || list_any p xs) ≡ true → (list_any p xs ≡ true → (k : ℕ) × (y : _) × (slice_get xs k ≡ Some y) × (p y ≡ true))
        → (k : ℕ) × (y : _) × (slice_get (x ∷ xs) k ≡ Some y) × (p y ≡ true)
    at true e h behind = (zero, x, refl, e)
    at false e h behind = let (k, y, g, t) = behind h in (suc k, y, g, t)

-- where one at a place passes, some one does
pub any_at : {X : Type 0} (p : X → Bool) (xs : List X) (k : ℕ) (x : X) → slice_get xs k ≡ Some x → p x ≡ true → list_any p xs ≡ true
any_at p [] k x e h = absurd cc
any_at p (y ∷ xs) zero x e h = or_left (p y) (list_any p xs) (ap p (same_Some y x e) ∙ h)
any_at p (y ∷ xs) (suc k) x e h = or_right (p y) (list_any p xs) (any_at p xs k x e h)

-- where none passes, the one at a place doesn't
pub any_not : {X : Type 0} (p : X → Bool) (xs : List X) (k : ℕ) (x : X) → list_any p xs ≡ false → slice_get xs k ≡ Some x → p x ≡ false
any_not p xs k x h e = not_true (p x) (λ t. not_both (list_any p xs) (any_at p xs k x e t) h)

-- what is found is at a place and passes
pub find_get : {X : Type 0} (p : X → Bool) (xs : List X) (x : X) → find p xs ≡ Some x → (k : ℕ) × (slice_get xs k ≡ Some x) × (p x ≡ true)
find_get p [] x h = absurd cc
find_get p (y ∷ xs) x h = at (p y) refl h (find_get p xs x)
  where
    at : (b : Bool) → p y ≡ b → cond b (Some y) (find p xs) ≡ Some x → (find p xs ≡ Some x → (k : ℕ) × (slice_get xs k ≡ Some x) × (p x ≡ true))
        → (k : ℕ) × (slice_get (y ∷ xs) k ≡ Some x) × (p x ≡ true)
    at true e h behind = let same = same_Some y x h in (zero, ap Some same, ap p (sym same) ∙ e)
    at false e h behind = let (k, g, t) = behind h in (suc k, g, t)

-- the one at the first place that passes does
first_get : {X : Type 0} (p : X → Bool) (xs : List X) → position_or_len p xs < length xs
    → (x : X) × (slice_get xs (position_or_len p xs) ≡ Some x) × (p x ≡ true)
first_get p [] h = absurd (omega (arith, h))
first_get p (y ∷ xs) h = at (p y) refl h (first_get p xs)
  where
    at : (b : Bool) → p y ≡ b → cond (not b) (1 + position_or_len p xs) 0 < suc (length xs)
        → (position_or_len p xs < length xs → (x : _) × (slice_get xs (position_or_len p xs) ≡ Some x) × (p x ≡ true))
        → (x : _) × (slice_get (y ∷ xs) (cond (not b) (1 + position_or_len p xs) 0) ≡ Some x) × (p x ≡ true)
    at true e h behind = (y, refl, e)
    at false e h behind =
        let next : suc (position_or_len p xs) ≡ 1 + position_or_len p xs = omega arith in
        subst (λ n. (x : _) × (slice_get (y ∷ xs) n ≡ Some x) × (p x ≡ true)) next (behind (omega (arith, h)))

pub position_get : {X : Type 0} (p : X → Bool) (xs : List X) (i : ℕ) → position p xs ≡ Some i → (i < length xs) × ((x : X) × (slice_get xs i ≡ Some x) × (p x ≡ true))
position_get p xs i h = at (nat_lt (position_or_len p xs) (length xs)) refl h
  where
    at : (b : Bool) → nat_lt (position_or_len p xs) (length xs) ≡ b → cond b (Some (position_or_len p xs)) None ≡ Some i
        → (i < length xs) × ((x : _) × (slice_get xs i ≡ Some x) × (p x ≡ true))
    at true e h =
        let below = ltb-true (position_or_len p xs) (length xs) e in
        subst (λ n. (n < length xs) × ((x : _) × (slice_get xs n ≡ Some x) × (p x ≡ true))) (same_Some (position_or_len p xs) i h) (below, first_get p xs below)
    at false e h = absurd cc

-- where one passes, there is a first
any_below : {X : Type 0} (p : X → Bool) (xs : List X) → list_any p xs ≡ true → position_or_len p xs < length xs
any_below p [] h = absurd cc
any_below p (y ∷ xs) h = at (p y) h (any_below p xs)
  where
    at : (b : Bool) → (b || list_any p xs) ≡ true → (list_any p xs ≡ true → position_or_len p xs < length xs)
        → cond (not b) (1 + position_or_len p xs) 0 < suc (length xs)
    at true h behind = omega arith
    at false h behind = omega (arith, behind h)

pub position_none : {X : Type 0} (p : X → Bool) (xs : List X) → position p xs ≡ None → list_any p xs ≡ false
position_none p xs h = not_true (list_any p xs) (λ t. at (nat_lt (position_or_len p xs) (length xs)) (lt-ltb _ _ (any_below p xs t)) h)
  where
    at : (b : Bool) → b ≡ true → cond b (Some (position_or_len p xs)) None ≡ None → ⊥
    at true e h = absurd cc
    at false e h = absurd cc

pub none_position : {X : Type 0} (p : X → Bool) (xs : List X) → list_any p xs ≡ false → position p xs ≡ None
none_position p xs h = at (position p xs) refl
  where
    at : (o : Option ℕ) → position p xs ≡ o → o ≡ None
    at None e = refl
    at (Some i) e =
        let g = position_get p xs i e in
        absurd (not_both (list_any p xs) (any_at p xs i g.1.0 g.1.1 g.1.2) h)

-- there is one at a place within
pub get_below : {X : Type 0} (xs : List X) (i : ℕ) → i < length xs → (x : X) × (slice_get xs i ≡ Some x)
get_below [] i h = absurd (omega (arith, h))
get_below (x ∷ xs) zero h = (x, refl)
get_below (x ∷ xs) (suc i) h = get_below xs i (omega (arith, h))

-- what passes is there
pub map_or_get : {X : Type 0} (p : X → Bool) (o : Option X) → option_map_or p o false ≡ true → (x : X) × (o ≡ Some x) × (p x ≡ true)
map_or_get p None h = absurd cc
map_or_get p (Some x) h = (x, refl, h)

-- an option that isn't none is some
pub some_of : {X : Type 0} (o : Option X) → is_none o ≡ false → (x : X) × (o ≡ Some x)
some_of None h = absurd cc
some_of (Some x) h = (x, refl)

pub copied_none : {X : Type 0} (o : Option (Bor X)) → option_copied o ≡ None → o ≡ None
copied_none None h = refl
copied_none (Some x) h = absurd cc

-- where all pass, the one at a place does
pub all_at : {X : Type 0} (p : X → Bool) (xs : List X) (k : ℕ) (x : X) → list_all p xs ≡ true → slice_get xs k ≡ Some x → p x ≡ true
all_at p [] k x h e = absurd cc
all_at p (y ∷ xs) zero x h e = ap p (sym (same_Some y x e)) ∙ (and_parts (p y) _ h).0
all_at p (y ∷ xs) (suc k) x h e = all_at p xs k x (and_parts (p y) _ h).1 e
