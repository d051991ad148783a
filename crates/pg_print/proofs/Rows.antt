-- The lines of a table, written row by row and state by state.
use Rattle.std.proofs.Common.{◌≡◌, ◌<◌, ◌≤◌, ◌+◌, ℕ, zero, suc, List, [], ◌∷◌, ◌++◌, length, take, Option, Some, None, IfSome, refl, sym, subst, ap, ◌∙◌, arith}
use Rattle.std.specs.Prelude.{slice_get}
use Rattle.std.specs.List.{flat_map}
use Rattle.std.specs.Option.{option_map, option_map_or, option_and_then}
use Rattle.std.proofs.lemmas.List.{append_assoc, append-nil, map-append, take_all}
use Rattle.std.proofs.lemmas.Grind.{flat_map-append}
use Rattle.std.proofs.lemmas.Option.{same_Some}
use Rattle.pg_perm.specs.declared.draft.Draft.{Draft}
use Rattle.pg_lines.specs.Lines.{line_text, text_of}
use Rattle.pg_table.specs.declared.table.ControllerRow.{ControllerRow}
use Rattle.pg_table.specs.declared.table.ControllerState.{ControllerState}
use Rattle.pg_print.specs.TableText.{Wording, names_of, row_lines, state_lines, lines_at}

take_suc : {X : Type 0} (xs : List X) (k : ℕ) (x : X) → slice_get xs k ≡ Some x → take (suc k) xs ≡ take k xs ++ x ∷ []
take_suc [] k x h = absurd cc
take_suc (y ∷ ys) zero x h = ap (λ y. y ∷ []) (same_Some y x h)
take_suc (y ∷ ys) (suc k) x h = ap (λ rest. y ∷ rest) (take_suc ys k x h)

take_next : {X : Type 0} (xs : List X) (k : ℕ) (x : X) → slice_get xs k ≡ Some x → take (k + 1) xs ≡ take k xs ++ x ∷ []
take_next xs k x h = let next : k + 1 ≡ suc k = omega arith in ap (λ n. take n xs) next ∙ take_suc xs k x h

-- what is written for the elements so far, and then for the next
next_written : {X : Type 0} (f : X → List (List (List ℕ))) (xs : List X) (k : ℕ) (x : X) (new old start : List ℕ) → slice_get xs k ≡ Some x
    → old ≡ start ++ text_of (flat_map f (take k xs)) → new ≡ old ++ text_of (f x) → new ≡ start ++ text_of (flat_map f (take (k + 1) xs))
next_written f xs k x new old start get was put =
    put ∙ ap (λ old. old ++ text_of (f x)) was ∙ append_assoc start (text_of (flat_map f (take k xs))) (text_of (f x))
    ∙ ap (λ rest. start ++ rest) (sym (flat_map-append line_text (flat_map f (take k xs)) (f x)) ∙ ap text_of (sym more))
  where
    more : flat_map f (take (k + 1) xs) ≡ flat_map f (take k xs) ++ f x
    more = ap (flat_map f) (take_next xs k x get) ∙ (flat_map-append f (take k xs) (x ∷ []) ∙ ap (λ rest. flat_map f (take k xs) ++ rest) (append-nil (f x)))

module _ {D I A : Type 0} where
  -- a row stands at each place below the number of a state's rows
  pub has_row : (o : Option (ControllerState D I A)) (count place : ℕ) → option_map (λ s. length s.rows) o ≡ Some count → place < count
      → IfSome o (λ s. place < length s.rows)
  has_row None count place h below = absurd cc
  has_row (Some s) count place h below = subst (λ n. place < n) (sym (same_Some (length s.rows) count h)) below

  module _ (w : Wording D I A) (d : Draft) where
    -- the names so far, and then the next
    pub name_next : (t : List (ControllerState D I A)) (n : ℕ) (x : D) → option_map (λ s. s.desc) (slice_get t n) ≡ Some x
        → names_of w d (take (n + 1) t) ≡ names_of w d (take n t) ++ w.name d x ∷ []
    name_next t n x h = at (slice_get t n) refl h
      where
        at : (o : Option (ControllerState D I A)) → slice_get t n ≡ o → option_map (λ s. s.desc) o ≡ Some x → names_of w d (take (n + 1) t) ≡ names_of w d (take n t) ++ w.name d x ∷ []
        at None e h = absurd cc
        at (Some s) e h =
            ap (names_of w d) (take_next t n s e) ∙ (map-append (λ s. w.name d s.desc) (take n t) (s ∷ [])
            ∙ ap (λ x. names_of w d (take n t) ++ w.name d x ∷ []) (same_Some s.desc x h))

    module _ (names : List (List ℕ)) where
      -- the lines of the rows of a state before a place
      abbrev pub lines_before : List (ControllerState D I A) → ℕ → ℕ → List (List (List ℕ))
      lines_before t n place = option_map_or (λ s. flat_map (row_lines w d names (w.name d s.desc)) (take place s.rows)) (slice_get t n) []

      -- the step of a loop over the rows of a state
      pub row_written : (t : List (ControllerState D I A)) (n place : ℕ) (x : D) (name : List ℕ) (r : ControllerRow I A) (new old start : List ℕ)
          → option_map (λ s. s.desc) (slice_get t n) ≡ Some x → name ≡ w.name d x → option_and_then (λ s. slice_get s.rows place) (slice_get t n) ≡ Some r
          → old ≡ start ++ text_of (lines_before t n place) → new ≡ old ++ text_of (row_lines w d names name r) → new ≡ start ++ text_of (lines_before t n (place + 1))
      row_written t n place x name r new old start h named get was put = at (slice_get t n) h get was
        where
          at : (o : Option (ControllerState D I A)) → option_map (λ s. s.desc) o ≡ Some x → option_and_then (λ s. slice_get s.rows place) o ≡ Some r
              → old ≡ start ++ text_of (option_map_or (λ s. flat_map (row_lines w d names (w.name d s.desc)) (take place s.rows)) o [])
              → new ≡ start ++ text_of (option_map_or (λ s. flat_map (row_lines w d names (w.name d s.desc)) (take (place + 1) s.rows)) o [])
          at None h get was = absurd cc
          at (Some s) h get was =
              next_written (row_lines w d names (w.name d s.desc)) s.rows place r new old start get was
              (put ∙ ap (λ name. old ++ text_of (row_lines w d names name r)) (named ∙ ap (w.name d) (sym (same_Some s.desc x h))))

      -- once all rows are written
      pub rows_written : (t : List (ControllerState D I A)) (n count place : ℕ) (now start : List ℕ) → option_map (λ s. length s.rows) (slice_get t n) ≡ Some count
          → count ≤ place → now ≡ start ++ text_of (lines_before t n place) → now ≡ start ++ text_of (lines_at w d names t n)
      rows_written t n count place now start h past was = at (slice_get t n) h was
        where
          at : (o : Option (ControllerState D I A)) → option_map (λ s. length s.rows) o ≡ Some count
              → now ≡ start ++ text_of (option_map_or (λ s. flat_map (row_lines w d names (w.name d s.desc)) (take place s.rows)) o [])
              → now ≡ start ++ text_of (option_map_or (state_lines w d names) o [])
          at None h was = absurd cc
          at (Some s) h was =
              was ∙ ap (λ rows. start ++ text_of (flat_map (row_lines w d names (w.name d s.desc)) rows))
              (take_all place s.rows (subst (λ n. n ≤ place) (sym (same_Some (length s.rows) count h)) past))

      -- the step of a loop over the states of a table
      pub state_written : (t : List (ControllerState D I A)) (n : ℕ) (new old start : List ℕ) → n < length t
          → old ≡ start ++ text_of (flat_map (state_lines w d names) (take n t)) → new ≡ old ++ text_of (lines_at w d names t n)
          → new ≡ start ++ text_of (flat_map (state_lines w d names) (take (n + 1) t))
      state_written t n new old start within was put = at (slice_get t n) refl put
        where
          there : (t : List (ControllerState D I A)) (n : ℕ) → n < length t → slice_get t n ≡ None → ⊥
          there [] n within h = absurd (omega (arith, within))
          there (s ∷ ss) zero within h = absurd cc
          there (s ∷ ss) (suc n) within h = there ss n (omega (arith, within)) h

          at : (o : Option (ControllerState D I A)) → slice_get t n ≡ o → new ≡ old ++ text_of (option_map_or (state_lines w d names) o [])
              → new ≡ start ++ text_of (flat_map (state_lines w d names) (take (n + 1) t))
          at None e put = absurd (there t n within e)
          at (Some s) e put = next_written (state_lines w d names) t n s new old start e was put
