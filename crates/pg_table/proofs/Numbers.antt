-- Where a state that is among others stands.
use Rattle.std.proofs.Common.{◌≡◌, ℕ, zero, suc, Bool, true, false, not, ◌&&◌, List, [], ◌∷◌, Option, Some, None, refl, sym, subst, ap, ◌∙◌}
use Rattle.std.specs.Prelude.{slice_get, position, unwrap_or}
use Rattle.std.specs.List.{list_any, IsDistinct, AllByRecursion}
use Rattle.std.proofs.lemmas.Bool.{or_parts, and_parts, not-true}
use Rattle.std.proofs.lemmas.Option.{same_Some}
use Rattle.std.proofs.lemmas.Map.Keys.{IsDistinct-head, IsDistinct-tail}
use Rattle.pg_shape.proofs.Searches.{not_both, any_get, any_at, position_get, position_none}
use Rattle.pg_table.specs.declared.cache.Desc.{Desc}
use Rattle.pg_table.specs.declared.directory.DirDesc.{DirDesc}
use Rattle.pg_table.specs.Controllers.{is_among_by, number_by}
use Rattle.pg_table.specs.Tables.{same_desc, number_of, same_dir_desc, dir_number_of}
use Rattle.pg_table.specs.Sound.{is_among}
use Rattle.pg_table.proofs.Same.{IsSame, desc_same, dir_desc_same}

-- By any test

-- none stands twice
abbrev pub are_apart : {D : Type 0} → (D → D → Bool) → List D → Bool
are_apart same [] = true
are_apart same (s ∷ ss) = not (is_among_by same ss s) && are_apart same ss

module _ {D : Type 0} (same : D → D → Bool) where
  none_among : (s : D) (ss : List D) → is_among_by same ss s ≡ false → AllByRecursion (λ x. same s x ≡ false) ss
  none_among s [] h = tt
  none_among s (x ∷ ss) h = let (first, rest) = or_parts (same s x) (is_among_by same ss s) h in (first, none_among s ss rest)

  pub apart_distinct : (ss : List D) → are_apart same ss ≡ true → IsDistinct same ss
  unfolding IsDistinct
  apart_distinct [] h = tt
  apart_distinct (s ∷ ss) h =
      let (none, rest) = and_parts (not (is_among_by same ss s)) (are_apart same ss) h in
      (none_among s ss (not-true (is_among_by same ss s) none), apart_distinct ss rest)

each_at : {X : Type 0} (P : X → Type 0) (xs : List X) (k : ℕ) (x : X) → AllByRecursion P xs → slice_get xs k ≡ Some x → P x
each_at P [] k x h get = absurd cc
each_at P (y ∷ ys) zero x h get = subst P (same_Some y x get) h.0
each_at P (y ∷ ys) (suc k) x h get = each_at P ys k x h.1 get

module _ {D : Type 0} (same : D → D → Bool) (laws : IsSame same) where
  -- one that is among others stands at a place
  pub place_of : (xs : List D) (s : D) → is_among_by same xs s ≡ true → (n : ℕ) × (slice_get xs n ≡ Some s)
  place_of xs s h =
      let (n, x, get, passes) = any_get (same s) xs h in
      (n, get ∙ ap Some (sym (laws.is s x passes)))

  -- and one that stands at a place is among them
  pub place_among : (xs : List D) (n : ℕ) (s : D) → slice_get xs n ≡ Some s → is_among_by same xs s ≡ true
  place_among xs n s get = any_at (same s) xs n s get (laws.self s)

  -- the test passes either way
  pub among_turned : (xs : List D) (s : D) → is_among_by same xs s ≡ true → list_any (λ x. same x s) xs ≡ true
  among_turned xs s h = let (n, get) = place_of xs s h in any_at (λ x. same x s) xs n s get (laws.self s)

  -- one that is among them stands at its number
  pub number_by_at : (xs : List D) (s : D) → is_among_by same xs s ≡ true → slice_get xs (number_by same xs s) ≡ Some s
  number_by_at xs s h = at (position (λ x. same x s) xs) refl
    where
      at : (o : Option ℕ) → position (λ x. same x s) xs ≡ o → slice_get xs (unwrap_or o 0) ≡ Some s
      at None e = absurd (not_both _ (among_turned xs s h) (position_none (λ x. same x s) xs e))
      at (Some i) e = let (x, here, passes) = (position_get (λ x. same x s) xs i e).1 in here ∙ ap Some (laws.is x s passes)

  -- where none stands twice, each stands at one place
  apart_head : (y s : D) (ys : List D) (k : ℕ) → IsDistinct same (y ∷ ys) → y ≡ s → slice_get ys k ≡ Some s → ⊥
  apart_head y s ys k apart e get =
      not_both (same y s) (subst (λ x. same y x ≡ true) e (laws.self y)) (each_at (λ x. same y x ≡ false) ys k s (IsDistinct-head same y ys apart) get)

  one_place : (xs : List D) (s : D) (a b : ℕ) → IsDistinct same xs → slice_get xs a ≡ Some s → slice_get xs b ≡ Some s → a ≡ b
  one_place [] s a b apart h g = absurd cc
  one_place (y ∷ ys) s zero zero apart h g = refl
  one_place (y ∷ ys) s zero (suc b) apart h g = absurd (apart_head y s ys b apart (same_Some y s h) g)
  one_place (y ∷ ys) s (suc a) zero apart h g = absurd (apart_head y s ys a apart (same_Some y s g) h)
  one_place (y ∷ ys) s (suc a) (suc b) apart h g = ap suc (one_place ys s a b (IsDistinct-tail same y ys apart) h g)

  pub number_is : (xs : List D) (n : ℕ) (s : D) → IsDistinct same xs → slice_get xs n ≡ Some s → number_by same xs s ≡ n
  number_is xs n s apart get = one_place xs s (number_by same xs s) n apart (number_by_at xs s (place_among xs n s get)) get

-- States of caches

-- a state that is among others stands at a place
pub among_at : (xs : List Desc) (s : Desc) → is_among xs s ≡ true → (n : ℕ) × (slice_get xs n ≡ Some s)
among_at = place_of same_desc desc_same

-- and one that stands at a place is among them
pub at_among : (xs : List Desc) (n : ℕ) (s : Desc) → slice_get xs n ≡ Some s → is_among xs s ≡ true
at_among = place_among same_desc desc_same

-- one that is among them stands at its number
pub number_of_at : (xs : List Desc) (s : Desc) → is_among xs s ≡ true → slice_get xs (number_of xs s) ≡ Some s
number_of_at = number_by_at same_desc desc_same

-- and so does a state of the directory
pub dir_number_of_at : (xs : List DirDesc) (s : DirDesc) → list_any (same_dir_desc s) xs ≡ true → slice_get xs (dir_number_of xs s) ≡ Some s
dir_number_of_at = number_by_at same_dir_desc dir_desc_same
