-- The first line of a text, and the bytes after it.
use Rattle.std.proofs.Common.{◌≡◌, ℕ, ◌+◌, ◌<◌, Bool, true, false, List, [], ◌∷◌, length, take, drop, refl, ap, sym, ◌∙◌, arith, cond, Option, Some, None, add-one, length-drop}
use Rattle.std.specs.Prelude.{position, ◌==◌}
use Rattle.std.specs.List.{slice_split, onto_first}
use Rattle.std.specs.Option.{option_map, option_map_or}
use Rattle.std.proofs.lemmas.Option.{same_Some}
use Rattle.pg_lines.specs.Lines.{lines_of, without_empty_last, first_line, line_of_cut, cut_at, bytes_after, bytes_after_line}
use Rattle.pg_lines.proofs.Cuts.{parts_cut, parts_of_cut}

-- a cut gives one part at least
some_part : (p : ℕ → Bool) (xs : List ℕ) → (y : List ℕ) × (ys : List (List ℕ)) × (slice_split p xs ≡ y ∷ ys)
some_part p [] = ([], [], refl)
some_part p (x ∷ xs) = at (p x) (slice_split p xs)
  where
    at : (b : Bool) (parts : List (List ℕ)) → (y : List ℕ) × (ys : List (List ℕ)) × (cond b ([] ∷ parts) (onto_first x parts) ≡ y ∷ ys)
    at true parts = ([], parts, refl)
    at false [] = (x ∷ [], [], refl)
    at false (part ∷ parts) = (x ∷ part, parts, refl)

without_empty_last-cons : (x y : List ℕ) (ys : List (List ℕ)) → without_empty_last (x ∷ y ∷ ys) ≡ x ∷ without_empty_last (y ∷ ys)
without_empty_last-cons [] y ys = refl
without_empty_last-cons (c ∷ cs) y ys = refl

-- a line before other bytes is the first line, also where nothing stands after it
pub lines_after_first : (line rest : List ℕ) → without_empty_last (line ∷ slice_split (λ c. c == 10) rest) ≡ line ∷ lines_of rest
lines_after_first line rest =
    let part = some_part (λ c. c == 10) rest in
    ap (λ ps. without_empty_last (line ∷ ps)) part.2 ∙ without_empty_last-cons line part.0 part.1 ∙ ap (λ ps. line ∷ without_empty_last ps) (sym part.2)

-- the lines, when the first is cut off
lines_by_cut : (b : ℕ) (bs : List ℕ) (o : Option (List ℕ × List ℕ)) (line rest : List ℕ) → Some (line, rest) ≡ line_of_cut (b ∷ bs) o
    → without_empty_last (parts_of_cut 10 (b ∷ bs) o) ≡ line ∷ lines_of rest
lines_by_cut b bs None line rest h = ap (λ (p : List ℕ × List ℕ). p.0 ∷ lines_of p.1) (sym (same_Some (line, rest) (b ∷ bs, []) h))
lines_by_cut b bs (Some p) line rest h = lines_after_first p.0 p.1 ∙ ap (λ (q : List ℕ × List ℕ). q.0 ∷ lines_of q.1) (sym (same_Some (line, rest) p h))

pub lines_of-first : (bytes line rest : List ℕ) → Some (line, rest) ≡ first_line bytes → lines_of bytes ≡ line ∷ lines_of rest
lines_of-first [] line rest h = cc
lines_of-first (b ∷ bs) line rest h = ap without_empty_last (parts_cut 10 (b ∷ bs)) ∙ lines_by_cut b bs (cut_at 10 (b ∷ bs)) line rest h

pub lines_of-none : (bytes : List ℕ) → None ≡ first_line bytes → lines_of bytes ≡ []
lines_of-none [] h = refl
lines_of-none (b ∷ bs) h = no_line (cut_at 10 (b ∷ bs)) h
  where
    no_line : (o : Option (List ℕ × List ℕ)) → None ≡ line_of_cut (b ∷ bs) o → lines_of (b ∷ bs) ≡ []
    no_line None g = cc
    no_line (Some p) g = cc

-- a line takes a byte at least
pub length-rest : (bytes line rest : List ℕ) → Some (line, rest) ≡ first_line bytes → length rest < length bytes
length-rest [] line rest h = cc
length-rest (b ∷ bs) line rest h = shorter (position (λ c. c == 10) (b ∷ bs)) h
  where
    shorter : (o : Option ℕ) → Some (line, rest) ≡ line_of_cut (b ∷ bs) (option_map (λ i. (take i (b ∷ bs), drop (i + 1) (b ∷ bs))) o) → length rest < length (b ∷ bs)
    shorter None g = let e : rest ≡ [] = ap (λ (p : List ℕ × List ℕ). p.1) (same_Some (line, rest) (b ∷ bs, []) g) in omega (arith, ap length e)
    shorter (Some i) g =
        let e : rest ≡ drop (i + 1) (b ∷ bs) = ap (λ (p : List ℕ × List ℕ). p.1) (same_Some (line, rest) (take i (b ∷ bs), drop (i + 1) (b ∷ bs)) g) in
        omega (arith, ap length e, length-drop (i + 1) (b ∷ bs))

-- what is after one more line
pub bytes_after-more : (bytes line rest more : List ℕ) (before : ℕ) → rest ≡ bytes_after before bytes → Some (line, more) ≡ first_line rest → more ≡ bytes_after (before + 1) bytes
bytes_after-more bytes line rest more before is_rest h =
    ap (λ o. option_map_or (λ (p : List ℕ × List ℕ). p.1) o []) h ∙ ap bytes_after_line is_rest ∙ ap (λ k. bytes_after k bytes) (sym (add-one before))
