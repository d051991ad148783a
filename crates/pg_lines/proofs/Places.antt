-- What stands after the first lines of a text.
use Rattle.std.proofs.Common.{◌≡◌, ℕ, zero, suc, ◌+◌, List, [], ◌∷◌, ◌++◌, length, take, drop, refl, ap, sym, ◌∙◌, arith, append_assoc, append-nil, length-append, Option, Some, None}
use Rattle.std.specs.Option.{option_map, option_map_or}
use Rattle.std.specs.Prelude.{position, ◌==◌}
use Rattle.std.proofs.Math.Seq.{drop-append_seam}
use Rattle.std.proofs.lemmas.List.{take-append-drop}
use Rattle.pg_lines.specs.Lines.{lines_of, first_line, line_of_cut, bytes_after, bytes_after_line, place_after}
use Rattle.pg_lines.proofs.Steps.{lines_of-first, lines_of-none}

-- after one line are the other lines
bytes_after_line-lines : (bytes : List ℕ) → lines_of (bytes_after_line bytes) ≡ drop 1 (lines_of bytes)
bytes_after_line-lines bytes = at (first_line bytes) refl
  where
    at : (o : Option (List ℕ × List ℕ)) → first_line bytes ≡ o → lines_of (option_map_or (λ p. p.1) o []) ≡ drop 1 (lines_of bytes)
    at None e = sym (ap (drop 1) (lines_of-none bytes (sym e)))
    at (Some p) e = sym (ap (drop 1) (lines_of-first bytes p.0 p.1 (sym e)))

drop_one_more : {A : Type 0} (n : ℕ) (xs : List A) → drop 1 (drop n xs) ≡ drop (suc n) xs
drop_one_more zero xs = refl
drop_one_more (suc n) [] = refl
drop_one_more (suc n) (x ∷ xs) = drop_one_more n xs

-- after n lines are the lines from there on
pub bytes_after-lines : (n : ℕ) (bytes : List ℕ) → lines_of (bytes_after n bytes) ≡ drop n (lines_of bytes)
bytes_after-lines zero bytes = refl
bytes_after-lines (suc n) bytes = bytes_after_line-lines (bytes_after n bytes) ∙ ap (drop 1) (bytes_after-lines n bytes) ∙ drop_one_more n (lines_of bytes)

-- what is after a line stands at the end
bytes_after_line-end : (bytes : List ℕ) → (front : List ℕ) × (bytes ≡ front ++ bytes_after_line bytes)
bytes_after_line-end [] = ([], refl)
bytes_after_line-end (b ∷ bs) = at (position (λ c. c == 10) (b ∷ bs))
  where
    at : (o : Option ℕ) → (front : List ℕ)
        × (b ∷ bs ≡ front ++ option_map_or (λ p. p.1) (line_of_cut (b ∷ bs) (option_map (λ i. (take i (b ∷ bs), drop (i + 1) (b ∷ bs))) o)) [])
    at None = (b ∷ bs, sym (append-nil (b ∷ bs)))
    at (Some i) = (take (i + 1) (b ∷ bs), sym (take-append-drop (i + 1) (b ∷ bs)))

bytes_after-end : (n : ℕ) (bytes : List ℕ) → (front : List ℕ) × (bytes ≡ front ++ bytes_after n bytes)
bytes_after-end zero bytes = ([], refl)
bytes_after-end (suc n) bytes =
    let far = bytes_after-end n bytes in
    let near = bytes_after_line-end (bytes_after n bytes) in
    (far.0 ++ near.0, far.1 ∙ ap (λ (rest : List ℕ). far.0 ++ rest) near.1 ∙ sym (append_assoc far.0 near.0 (bytes_after (suc n) bytes)))

-- what is after n lines is what stands from their place on
pub bytes_after-place : (n : ℕ) (bytes : List ℕ) → bytes_after n bytes ≡ drop (place_after n bytes) bytes
bytes_after-place n bytes =
    let end = bytes_after-end n bytes in
    let place : place_after n bytes ≡ length end.0 = omega (arith, ap length end.1, length-append end.0 (bytes_after n bytes)) in
    sym (ap (λ (k : ℕ). drop k bytes) place ∙ ap (drop (length end.0)) end.1 ∙ drop-append_seam end.0 (bytes_after n bytes))
