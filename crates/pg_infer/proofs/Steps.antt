-- Steps by which the table of a controller is made.
use Rattle.std.proofs.Common.{◌≡◌, ℕ, ◌+◌, ◌≤◌, ◌<◌, Bool, List, [], ◌∷◌, ◌++◌, length, take, get_or, Option, Some, None, refl, sym, ap, ◌∙◌}
use Rattle.std.specs.Prelude.{map}
use Rattle.std.specs.List.{flat_map}
use Rattle.std.specs.Option.{option_map, option_map_or}
use Rattle.std.proofs.lemmas.List.{append-nil, map-append, take_all, take_more}
use Rattle.std.proofs.lemmas.Grind.{flat_map-append}
use Rattle.std.proofs.lemmas.Simd.{map-map}
use Rattle.pg_table.specs.declared.table.ControllerRow.{ControllerRow}
use Rattle.pg_table.specs.declared.table.ControllerState.{ControllerState}
use Rattle.pg_table.specs.Controllers.{ControllerChoice, row_for, rows_by, state_by, with_row, table_row_by, table_state_by, table_by}
use Rattle.pg_infer.specs.Steps.{row_at, state_of}

-- the states with a row, if there is one, last among those of the last state
abbrev pub put_row : {D I A : Type 0} → List (ControllerState D I A) → Option (ControllerRow I A) → List (ControllerState D I A)
put_row states row = option_map_or (with_row states) row states

-- the rows at one more input
rows_more : {A B C : Type 0} (f : A → List B) (g : B → C) (xs : List A) (x : A) → map g (flat_map f (xs ++ x ∷ [])) ≡ map g (flat_map f xs) ++ map g (f x)
rows_more f g xs x = simp (flat_map-append, map-append, append-nil)

module _ {D I A : Type 0} (same : D → D → Bool) (states : List D) where
  -- a row that is put last among those of the last state
  with_row_last : (ss : List (ControllerState D I A)) (s : ControllerState D I A) (r : ControllerRow I A) → with_row (ss ++ s ∷ []) r ≡ ss ++ record s { rows = s.rows ++ r ∷ [] } ∷ []
  with_row_last [] s r = refl
  with_row_last (t ∷ []) s r = refl
  with_row_last (t ∷ u ∷ ss) s r = ap (λ rest. t ∷ rest) (with_row_last (u ∷ ss) s r)

  -- these states, and this one with these rows last
  abbrev table_with_state : List (ControllerState D I A) → D → List (ControllerRow I A) → List (ControllerState D I A)
  table_with_state ss s rows = ss ++ record { desc = s; rows = rows } ∷ []

  module _ (choose : I → Option (ControllerChoice D A)) where
    -- the rows at these inputs
    abbrev pub rows_at : List I → List (ControllerRow I A)
    rows_at inputs = map (table_row_by same states) (rows_by choose inputs)

    -- a state with its rows at these inputs
    abbrev pub state_with : List I → D → ControllerState D I A
    state_with inputs s = record { desc = s; rows = rows_at inputs }

    -- where the last state has its rows at some inputs, it has them at one more with the row for that
    input_more : (ss : List (ControllerState D I A)) (inputs : List I) (s : D) (i : I)
        → put_row (ss ++ state_with inputs s ∷ []) (row_at same states choose i) ≡ ss ++ state_with (inputs ++ i ∷ []) s ∷ []
    input_more ss inputs s i = at (choose i) refl
      where
        more : (o : Option (ControllerChoice D A)) → choose i ≡ o → rows_at (inputs ++ i ∷ []) ≡ rows_at inputs ++ map (table_row_by same states) (row_for i o)
        more o e =
            rows_more (λ i. row_for i (choose i)) (table_row_by same states) inputs i
            ∙ ap (λ o. rows_at inputs ++ map (table_row_by same states) (row_for i o)) e

        at : (o : Option (ControllerChoice D A)) → choose i ≡ o
            → put_row (ss ++ state_with inputs s ∷ []) (option_map (λ c. table_row_by same states (record { input = i; choice = c })) o)
            ≡ ss ++ state_with (inputs ++ i ∷ []) s ∷ []
        at None e = ap (table_with_state ss s) (sym (more None e ∙ append-nil (rows_at inputs)))
        at (Some c) e =
            with_row_last ss (state_with inputs s) (table_row_by same states (record { input = i; choice = c }))
            ∙ ap (table_with_state ss s) (sym (more (Some c) e))

    -- the step of a loop over inputs
    pub row_put : (ss before after : List (ControllerState D I A)) (inputs : List I) (s : D) (k : ℕ) (x : I) (row : Option (ControllerRow I A))
        → k < length inputs → before ≡ ss ++ state_with (take k inputs) s ∷ [] → row ≡ row_at same states choose (get_or inputs k x) → after ≡ put_row before row
        → after ≡ ss ++ state_with (take (k + 1) inputs) s ∷ []
    row_put ss before after inputs s k x row within was is put =
        let more = input_more ss (take k inputs) s (get_or inputs k x) in
        rw (take_more inputs k x within) (cc more)

  module _ (choose : D → I → Option (ControllerChoice D A)) (inputs : List I) where
    -- the step of a loop over states
    pub state_put : (before after : List (ControllerState D I A)) (k : ℕ) (x : D) → k < length states → x ≡ get_or states k x → before ≡ map (state_of same states choose inputs) (take k states)
        → after ≡ before ++ state_of same states choose inputs x ∷ [] → after ≡ map (state_of same states choose inputs) (take (k + 1) states)
    state_put before after k x within is was put =
        let more : map (state_of same states choose inputs) (take (k + 1) states) ≡ map (state_of same states choose inputs) (take k states) ++ state_of same states choose inputs x ∷ [] =
        ap (map (state_of same states choose inputs)) (take_more states k x within) ∙ map-append (state_of same states choose inputs) (take k states) (get_or states k x ∷ [])
        ∙ ap (λ x. map (state_of same states choose inputs) (take k states) ++ state_of same states choose inputs x ∷ []) (sym is) in
        cc

    -- once all states have been put the table is whole
    pub states_are_table : (table : List (ControllerState D I A)) (k : ℕ) → length states ≤ k → table ≡ map (state_of same states choose inputs) (take k states)
        → table ≡ table_by same choose inputs states
    states_are_table table k done was =
        was ∙ (ap (map (state_of same states choose inputs)) (take_all k states done)
        ∙ sym (map-map (table_state_by same states) (state_by choose inputs) states))
