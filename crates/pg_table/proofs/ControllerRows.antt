-- The rows of a table that is made of choices, and the rows that are found there.
use Rattle.std.proofs.Common.{◌≡◌, ℕ, zero, suc, Bool, true, false, cond, ◌||◌, List, [], ◌∷◌, ◌++◌, map, filter, Option, Some, None, refl, sym, subst, ap, ◌∙◌, inl, inr}
use Rattle.std.specs.Prelude.{slice_get, find}
use Rattle.std.specs.List.{IsDistinct, AllByRecursion}
use Rattle.std.specs.Option.{option_and_then}
use Rattle.std.proofs.lemmas.Map.Keys.{IsDistinct-head, IsDistinct-tail}
use Rattle.pg_shape.proofs.Searches.{not_both, not_true}
use Rattle.pg_table.specs.declared.table.ControllerRow.{ControllerRow}
use Rattle.pg_table.specs.declared.table.ControllerState.{ControllerState}
use Rattle.pg_table.specs.Controllers.{ControllerChoice, GeneratedRow, row_for, rows_by, state_by, has_input_by, rows_for_by, find_row_by, state_at, table_row_by, table_state_by, table_by}
use Rattle.pg_table.proofs.Same.{IsSame}
use Rattle.pg_table.proofs.Lists.{IsIn, in_of_slice_get, get_map, of_flat}

-- What is found

-- what is found is the first of those that pass
find_first : {X : Type 0} (p : X → Bool) (xs : List X) → find p xs ≡ slice_get (filter p xs) 0
find_first p [] = refl
find_first p (x ∷ xs) = at (p x) (find_first p xs)
  where
    at : (b : Bool) → find p xs ≡ slice_get (filter p xs) 0 → cond b (Some x) (find p xs) ≡ slice_get (cond b (x ∷ filter p xs) (filter p xs)) 0
    at true later = refl
    at false later = later

-- the row that is found in a state is the first of those for the input
pub found_row : {D I A : Type 0} (same : I → I → Bool) (t : List (ControllerState D I A)) (n : ℕ) (s : ControllerState D I A) (i : I) → slice_get t n ≡ Some s
    → find_row_by same t n i ≡ slice_get (rows_for_by same i s.rows) 0
found_row same t n s i get =
    ap (option_and_then (λ s. find (λ r. has_input_by same r.inputs i) s.rows)) get ∙ find_first (λ r. has_input_by same r.inputs i) s.rows

-- The states of a table

module _ {D I A : Type 0} (same : D → D → Bool) (choose : D → I → Option (ControllerChoice D A)) (inputs : List I) where
  -- the state that a number is of is that of the list
  pub states_listed : (ss xs : List D) → map (λ s. s.desc) (map (table_state_by same ss) (map (state_by choose inputs) xs)) ≡ xs
  states_listed ss [] = refl
  states_listed ss (x ∷ xs) = ap (λ rest. x ∷ rest) (states_listed ss xs)

  pub state_listed : (ss xs : List D) (n : ℕ) → state_at (map (table_state_by same ss) (map (state_by choose inputs) xs)) n ≡ slice_get xs n
  state_listed ss [] n = refl
  state_listed ss (x ∷ xs) zero = refl
  state_listed ss (x ∷ xs) (suc n) = state_listed ss xs n

  -- a state of the table is one of the list with its rows
  pub state_whole : (ss : List D) (n : ℕ) (s : ControllerState D I A) → slice_get (table_by same choose inputs ss) n ≡ Some s
      → (x : D) × (slice_get ss n ≡ Some x) × (table_state_by same ss (state_by choose inputs x) ≡ s)
  state_whole ss n s h =
      let (g, here, made) = get_map (table_state_by same ss) (map (state_by choose inputs) ss) n s h in
      let (x, get, is) = get_map (state_by choose inputs) ss n g here in
      (x, get, ap (table_state_by same ss) is ∙ made)

-- Each row does what was chosen

row_for_in : {D I A : Type 0} (i : I) (o : Option (ControllerChoice D A)) (g : GeneratedRow D I A) → IsIn g (row_for i o) → (g.input ≡ i) × (o ≡ Some g.choice)
row_for_in i None g among = absurd among
row_for_in i (Some c) g (inl e) = (ap (λ g. g.input) (sym e), ap (λ g. Some g.choice) e)
row_for_in i (Some c) g (inr among) = absurd among

-- a row does what is chosen at its input
abbrev pub IsChosen : {D I A : Type 0} → (I → Option (ControllerChoice D A)) → ControllerRow I A → Type 0
IsChosen {D} {I} {A} choose r = (j : I) × (c : ControllerChoice D A) × (r.inputs ≡ j ∷ []) × (choose j ≡ Some c) × (r.acts ≡ c.acts)

module _ {D I A : Type 0} (same : D → D → Bool) (inputs : List I) where
  -- a generated row is that of a choice
  pub row_choice : (choose : I → Option (ControllerChoice D A)) (k : ℕ) (g : GeneratedRow D I A) → slice_get (rows_by choose inputs) k ≡ Some g → choose g.input ≡ Some g.choice
  row_choice choose k g get =
      let (i, there, among) = of_flat (λ i. row_for i (choose i)) g inputs (in_of_slice_get (rows_by choose inputs) k g get) in
      let (of, chose) = row_for_in i (choose i) g among in
      ap choose of ∙ chose

  gen_chosen : (choose : I → Option (ControllerChoice D A)) (ss : List D) (k : ℕ) (r : ControllerRow I A)
      → slice_get (map (table_row_by same ss) (rows_by choose inputs)) k ≡ Some r → IsChosen choose r
  gen_chosen choose ss k r h =
      let (g, get, made) = get_map (table_row_by same ss) (rows_by choose inputs) k r h in
      (g.input, g.choice, ap (λ r. r.inputs) (sym made), row_choice choose k g get, ap (λ r. r.acts) (sym made))

  pub row_chosen : (choose : D → I → Option (ControllerChoice D A)) (ss : List D) (n k : ℕ) (s : ControllerState D I A) (r : ControllerRow I A)
      → slice_get (table_by same choose inputs ss) n ≡ Some s → slice_get s.rows k ≡ Some r → IsChosen (choose s.desc) r
  row_chosen choose ss n k s r h g =
      let (x, get, is) = state_whole same choose inputs ss n s h in
      subst (λ s. slice_get s.rows k ≡ Some r → IsChosen (choose s.desc) r) is (gen_chosen (choose x) ss k r) g

-- for the input that it is for
pub input_chosen : {D I A : Type 0} (choose : I → Option (ControllerChoice D A)) (r : ControllerRow I A) (i : I) → IsChosen choose r → r.inputs ≡ i ∷ []
    → (c : ControllerChoice D A) × (choose i ≡ Some c) × (r.acts ≡ c.acts)
input_chosen choose r i (j, c, is, chose, acts) e =
    let one : j ≡ i = cc in
    (c, subst (λ i. choose i ≡ Some c) one chose, acts)

-- The rows for an input

module _ {D I A : Type 0} (same : I → I → Bool) (laws : IsSame same) (same_state : D → D → Bool) (ss : List D) (i : I) where
  abbrev row : GeneratedRow D I A → ControllerRow I A
  row = table_row_by same_state ss

  abbrev rows_at : List (GeneratedRow D I A) → List (ControllerRow I A)
  rows_at gens = rows_for_by same i (map row gens)

  -- the row of an input is for no other
  other_row : (j : I) (o : Option (ControllerChoice D A)) (rest : List (GeneratedRow D I A)) → same j i ≡ false → rows_at (row_for j o ++ rest) ≡ rows_at rest
  other_row j None rest h = refl
  other_row j (Some c) rest h = rw h refl

  -- and it is for that one
  own_row : (o : Option (ControllerChoice D A)) (rest : List (GeneratedRow D I A)) → rows_at rest ≡ [] → rows_at (row_for i o ++ rest) ≡ map row (row_for i o)
  own_row None rest h = h
  own_row (Some c) rest h = rw (laws.self i, h) refl

  module _ (choose : I → Option (ControllerChoice D A)) where
    -- where an input isn't among them, there is no row for it
    no_rows : (is : List I) → has_input_by same is i ≡ false → rows_at (rows_by choose is) ≡ []
    no_rows [] h = refl
    no_rows (j ∷ is) h = at (same j i) refl h (no_rows is)
      where
        at : (b : Bool) → same j i ≡ b → (b || has_input_by same is i) ≡ false → (has_input_by same is i ≡ false → rows_at (rows_by choose is) ≡ []) → rows_at (rows_by choose (j ∷ is)) ≡ []
        at true e h later = absurd cc
        at false e h later = other_row j (choose j) (rows_by choose is) e ∙ later h

    -- an input from which all are told apart is none of them
    not_among : (is : List I) → AllByRecursion (λ j. same i j ≡ false) is → has_input_by same is i ≡ false
    not_among [] h = refl
    not_among (j ∷ is) h = rw (turned, not_among is h.1) refl
      where
        turned : same j i ≡ false
        turned = not_true (same j i) (λ e. not_both (same i j) (subst (λ k. same k j ≡ true) (laws.is j i e) (laws.self j)) h.0)

    -- where it is among them once, there is the row of its choice
    own_rows : (is : List I) → IsDistinct same is → has_input_by same is i ≡ true → rows_at (rows_by choose is) ≡ map row (row_for i (choose i))
    own_rows [] apart h = absurd cc
    own_rows (j ∷ is) apart h = at (same j i) refl h (own_rows is (IsDistinct-tail same j is apart))
      where
        at : (b : Bool) → same j i ≡ b → (b || has_input_by same is i) ≡ true → (has_input_by same is i ≡ true → rows_at (rows_by choose is) ≡ map row (row_for i (choose i)))
            → rows_at (rows_by choose (j ∷ is)) ≡ map row (row_for i (choose i))
        at true e h later =
            let one : j ≡ i = laws.is j i e in
            let none = not_among is (subst (λ k. AllByRecursion (λ x. same k x ≡ false) is) one (IsDistinct-head same j is apart)) in
            rw one (own_row (choose i) (rows_by choose is) (no_rows is none))
        at false e h later = other_row j (choose j) (rows_by choose is) e ∙ later h

    -- a state has for an input the row of its choice, and no other
    pub one_row : (is : List I) → IsDistinct same is → ((c : ControllerChoice D A) → choose i ≡ Some c → has_input_by same is i ≡ true)
        → rows_at (rows_by choose is) ≡ map row (row_for i (choose i))
    one_row is apart listed = at (choose i) refl (has_input_by same is i) refl
      where
        at : (o : Option (ControllerChoice D A)) → choose i ≡ o → (b : Bool) → has_input_by same is i ≡ b → rows_at (rows_by choose is) ≡ map row (row_for i (choose i))
        at o e true h = own_rows is apart h
        at None e false h = no_rows is h ∙ ap (λ o. map row (row_for i o)) (sym e)
        at (Some c) e false h = absurd (not_both (has_input_by same is i) (listed c e) h)
