-- The numbers of names that are kept as other values, each with its bytes.
use Rattle.std.proofs.Common.{◌≡◌, ℕ, suc, ◌+◌, Bool, true, false, cond, not, ◌||◌, nat_lt, List, [], ◌∷◌, ◌++◌, Some, None, is_some, length, map, position, refl, sym, ap, subst, ◌∙◌, length-append, ◌<◌, if◌then◌else◌, arith, bytes_eq}
use Rattle.std.specs.List.{list_any, position_or_len, IsDistinct}
use Rattle.std.specs.Option.{option_map}
use Rattle.std.proofs.lemmas.Bool.Decides.{nat_tests}
use Rattle.std.proofs.lemmas.List.{map-append, nil_from_length}
use Rattle.std.specs.Prelude.{String}
use Rattle.std.specs.String.{string_bytes, string_eq}
use Rattle.indexmap.specs.IndexSet.{insert_key}
use Rattle.pg_names.specs.Number.{number_of, AreNames}
use Rattle.pg_names.proofs.Numbers.{is_some-number_of, IsDistinct-append_new}

module _ {X : Type 0} (bytes : X → List ℕ) (w : List ℕ) where
  -- where the bytes are first found is the number
  pub position-number_of : (xs : List X) → position (λ x. bytes_eq w (bytes x)) xs ≡ number_of (map bytes xs) w
  position-number_of [] = refl
  position-number_of (x ∷ xs) =
      by (bytes_eq w (bytes x)) (position_or_len (λ x. bytes_eq w (bytes x)) xs) (length xs)
      ∙ ap (λ o. if bytes_eq w (bytes x) then Some 0 else option_map suc o) (position-number_of xs)
    where
      by : (b : Bool) (n len : ℕ) → cond (nat_lt (cond (not b) (1 + n) 0) (suc len)) (Some (cond (not b) (1 + n) 0)) None ≡ (if b then Some 0 else option_map suc (cond (nat_lt n len) (Some n) None))
      by true n len = grind (arith, nat_tests)
      by false n len = grind (arith, nat_tests)

  -- the test finds the bytes exactly where they have a number
  list_any-number_of : (xs : List X) → list_any (λ x. bytes_eq w (bytes x)) xs ≡ is_some (number_of (map bytes xs) w)
  list_any-number_of xs = seen xs ∙ sym (is_some-number_of (map bytes xs) w)
    where
      seen : (ys : List X) → list_any (λ x. bytes_eq w (bytes x)) ys ≡ list_any (bytes_eq w) (map bytes ys)
      seen [] = refl
      seen (y ∷ ys) = ap (λ b. bytes_eq w (bytes y) || b) (seen ys)

-- inserting a text that has no number puts it last
pub map-insert_key : {Z : Type 0} (old new : List (String Z)) (k : String Z) (ns : List (List ℕ)) (w : List ℕ)
    → new ≡ insert_key string_eq old k → map string_bytes old ≡ ns → string_bytes k ≡ w → number_of ns w ≡ None → map string_bytes new ≡ ns ++ w ∷ []
map-insert_key old new k ns w keys texts text none =
    let absent : number_of (map string_bytes old) (string_bytes k) ≡ None = cc in
    ap (map string_bytes) keys
    ∙ ap (λ b. map string_bytes (if b then old else old ++ k ∷ [])) (list_any-number_of string_bytes (string_bytes k) old ∙ ap is_some absent)
    ∙ map-append string_bytes old (k ∷ [])
    ∙ (λ j. texts j ++ text j ∷ [])

-- a set of no texts has distinct names, and few
pub AreNames-nil : {Z : Type 0} (ks : List (String Z)) → length ks ≡ 0 → AreNames (map string_bytes ks)
unfolding IsDistinct
AreNames-nil ks none = subst (λ xs. AreNames (map string_bytes xs)) (sym (nil_from_length ks none)) (record { distinct = tt; few = omega arith })

-- and so has a set with a new text last, where there was room
pub AreNames-append_new : {Z : Type 0} (old new : List (String Z)) (ns : List (List ℕ)) (w : List ℕ)
    → map string_bytes new ≡ ns ++ w ∷ [] → map string_bytes old ≡ ns → AreNames (map string_bytes old) → number_of ns w ≡ None → length ns < 65535 → AreNames (map string_bytes new)
AreNames-append_new old new ns w appended texts names none room =
    let here : AreNames ns = subst AreNames texts names in
    subst AreNames (sym appended) (record { distinct = IsDistinct-append_new ns w here.distinct none; few = omega (arith, length-append ns (w ∷ [])) })
