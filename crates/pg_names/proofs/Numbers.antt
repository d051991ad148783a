-- What the number of a text says, and how it stands when names are appended.
use Rattle.std.proofs.Common.{◌≡◌, ℕ, zero, suc, ◌+◌, ◌<◌, ◌↔◌, Bool, true, false, ◌||◌, List, [], ◌∷◌, ◌++◌, Option, Some, None, is_some, IsSome, IsNone, length, slice_get, Contains, refl, sym, ap, subst, ◌∙◌, true≢false, if◌then◌else◌, arith, bytes_eq}
use Rattle.std.specs.List.{IsDistinct, list_any}
use Rattle.std.specs.Option.{option_map, option_or}
use Rattle.std.proofs.lemmas.Cmp.{nat_list_eq_equiv}
use Rattle.std.proofs.lemmas.Map.Keys.{IsDistinct-push, IsDistinct-tail, apart_from_distinct}
use Rattle.std.proofs.lemmas.Map.Views.{list_any-from_Contains}
use Rattle.std.proofs.lemmas.Option.{slice_get_within, get_or_from_slice_get, none-some, same_Some}
use Rattle.std.proofs.lemmas.Slice.Eq.{bytes_eq-Decides}
use Rattle.pg_names.specs.Number.{number_of}

-- a text has a number exactly where the test finds it
pub is_some-number_of : (ns : List (List ℕ)) (w : List ℕ) → is_some (number_of ns w) ≡ list_any (bytes_eq w) ns
is_some-number_of [] w = refl
is_some-number_of (n ∷ ns) w = by (bytes_eq w n) (number_of ns w) (is_some-number_of ns w)
  where
    by : (b : Bool) (o : Option ℕ) → is_some o ≡ list_any (bytes_eq w) ns → is_some (if b then Some 0 else option_map suc o) ≡ (b || list_any (bytes_eq w) ns)
    by true o e = refl
    by false None e = e
    by false (Some i) e = e

-- the name at a text's number is the text
pub slice_get-number_of : (ns : List (List ℕ)) (w : List ℕ) (i : ℕ) → number_of ns w ≡ Some i → slice_get ns i ≡ Some w
slice_get-number_of [] w i h = absurd (none-some i h)
slice_get-number_of (n ∷ ns) w i h = by (bytes_eq w n) (number_of ns w) refl (slice_get-number_of ns w) h
  where
    by : (b : Bool) (o : Option ℕ) → bytes_eq w n ≡ b → ((j : ℕ) → o ≡ Some j → slice_get ns j ≡ Some w) → (if b then Some 0 else option_map suc o) ≡ Some i → slice_get (n ∷ ns) i ≡ Some w
    by true o e rest h = subst (λ k. slice_get (n ∷ ns) k ≡ Some w) (same_Some 0 i h) (ap Some (sym ((bytes_eq-Decides w n).0 e)))
    by false None e rest h = absurd (none-some i h)
    by false (Some j) e rest h = subst (λ k. slice_get (n ∷ ns) k ≡ Some w) (same_Some (suc j) i h) (rest j refl)

-- a number is below how many names there are
pub number_of-within : (ns : List (List ℕ)) (w : List ℕ) (i : ℕ) → number_of ns w ≡ Some i → i < length ns
number_of-within ns w i h = slice_get_within ns i w (slice_get-number_of ns w i h)

-- a text with a number is among the names
pub Contains-number_of : (ns : List (List ℕ)) (w : List ℕ) (i : ℕ) → number_of ns w ≡ Some i → Contains ns w
Contains-number_of ns w i h =
    let at = slice_get-number_of ns w i h in (i, slice_get_within ns i w at, get_or_from_slice_get ns i w w at)

-- a text has no number exactly where it is not among the names
pub IsNone-number_of : (ns : List (List ℕ)) (w : List ℕ) → IsNone (number_of ns w) ↔ ¬ Contains ns w
IsNone-number_of ns w = by (number_of ns w) refl
  where
    by : (o : Option ℕ) → number_of ns w ≡ o → IsNone o ↔ ¬ Contains ns w
    by None e = (λ _ has. true≢false (sym (list_any-from_Contains nat_list_eq_equiv w ns has) ∙ sym (is_some-number_of ns w) ∙ ap is_some e), λ _. refl)
    by (Some i) e = (λ h. absurd (true≢false h), λ no. absurd (no (Contains-number_of ns w i e)))

-- and has one exactly where it is
pub IsSome-number_of : (ns : List (List ℕ)) (w : List ℕ) → IsSome (number_of ns w) ↔ Contains ns w
IsSome-number_of ns w = by (number_of ns w) refl
  where
    by : (o : Option ℕ) → number_of ns w ≡ o → IsSome o ↔ Contains ns w
    by None e = (λ h. absurd (true≢false (sym h)), λ has. absurd ((IsNone-number_of ns w).0 (ap is_some e) has))
    by (Some i) e = (λ _. Contains-number_of ns w i e, λ _. refl)

-- the names that stand first give their numbers, and the others go on after them
pub number_of-append : (ns ms : List (List ℕ)) (w : List ℕ) → number_of (ns ++ ms) w ≡ option_or (number_of ns w) (option_map (λ i. length ns + i) (number_of ms w))
number_of-append [] ms w = by (number_of ms w)
  where
    by : (o : Option ℕ) → o ≡ option_map (λ i. 0 + i) o
    by None = refl
    by (Some i) = ap Some (omega arith)
number_of-append (n ∷ ns) ms w = ap (λ o. if bytes_eq w n then Some 0 else option_map suc o) (number_of-append ns ms w) ∙ by (bytes_eq w n) (number_of ns w) (number_of ms w)
  where
    by : (b : Bool) (o p : Option ℕ) → (if b then Some 0 else option_map suc (option_or o (option_map (λ i. length ns + i) p))) ≡ option_or (if b then Some 0 else option_map suc o) (option_map (λ i. suc (length ns) + i) p)
    by true o p = refl
    by false (Some i) p = refl
    by false None None = refl
    by false None (Some i) = ap Some (omega arith)

-- a name keeps its number when names are appended
pub number_of-append_there : (ns ms : List (List ℕ)) (w : List ℕ) (i : ℕ) → number_of ns w ≡ Some i → number_of (ns ++ ms) w ≡ Some i
number_of-append_there ns ms w i h = number_of-append ns ms w ∙ ap (λ o. option_or o (option_map (λ k. length ns + k) (number_of ms w))) h

-- a new name that is appended gets the next number
pub number_of-append_new : (ns : List (List ℕ)) (w : List ℕ) → number_of ns w ≡ None → number_of (ns ++ w ∷ []) w ≡ Some (length ns)
number_of-append_new ns w h =
    number_of-append ns (w ∷ []) w
    ∙ ap (λ o. option_or o (option_map (λ k. length ns + k) (number_of (w ∷ []) w))) h
    ∙ ap (λ b. option_map (λ k. length ns + k) (if b then Some 0 else None)) ((bytes_eq-Decides w w).1 refl)
    ∙ ap Some (omega arith)

-- and every other text keeps the number that it has, or has none
pub number_of-append_other : (ns : List (List ℕ)) (v w : List ℕ) → bytes_eq w v ≡ false → number_of (ns ++ v ∷ []) w ≡ number_of ns w
number_of-append_other ns v w h =
    number_of-append ns (v ∷ []) w
    ∙ ap (λ b. option_or (number_of ns w) (option_map (λ k. length ns + k) (if b then Some 0 else None))) h
    ∙ by (number_of ns w)
  where
    by : (o : Option ℕ) → option_or o None ≡ o
    by None = refl
    by (Some i) = refl

-- distinct names stay so when a new one is appended
pub IsDistinct-append_new : (ns : List (List ℕ)) (w : List ℕ) → IsDistinct bytes_eq ns → number_of ns w ≡ None → IsDistinct bytes_eq (ns ++ w ∷ [])
IsDistinct-append_new ns w d h = IsDistinct-push nat_list_eq_equiv ns w d (sym (is_some-number_of ns w) ∙ ap is_some h)

-- among distinct names, the number of the name at a place is that place
pub number_of-slice_get : (ns : List (List ℕ)) (w : List ℕ) (i : ℕ) → IsDistinct bytes_eq ns → slice_get ns i ≡ Some w → number_of ns w ≡ Some i
number_of-slice_get [] w i d h = absurd (none-some w h)
number_of-slice_get (n ∷ ns) w zero d h =
    ap (λ b. if b then Some 0 else option_map suc (number_of ns w)) ((bytes_eq-Decides w n).1 (sym (same_Some n w h)))
number_of-slice_get (n ∷ ns) w (suc i) d h =
    let far : suc i < length (n ∷ ns) = slice_get_within (n ∷ ns) (suc i) w h in
    let apart : bytes_eq n w ≡ false = ap (bytes_eq n) (sym (get_or_from_slice_get ns i w w h)) ∙ apart_from_distinct bytes_eq (n ∷ ns) 0 (suc i) w d (omega arith) far in
    ap (λ b. if b then Some 0 else option_map suc (number_of ns w)) (nat_list_eq_equiv.symm w n ∙ apart)
    ∙ ap (option_map suc) (number_of-slice_get ns w i (IsDistinct-tail bytes_eq n ns d) h)

-- for `grind`: what a number says, and how it stands when names are appended
pub ruleset numbers = (slice_get-number_of, number_of-within, number_of-append_there, number_of-append_new, number_of-append_other)
