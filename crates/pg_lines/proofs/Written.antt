-- What is written as lines of words is cut into these lines, and into these words.
use Rattle.std.proofs.Common.{◌≡◌, ℕ, Bool, true, List, [], ◌∷◌, ◌++◌, length, drop, map, refl, ap, sym, ◌∙◌, arith, append_assoc, Option, Some, None}
use Rattle.std.specs.Prelude.{◌≢◌, ◌==◌, not, IsTrue}
use Rattle.std.specs.List.{slice_split, onto_first, join_with_byte, list_all}
use Rattle.std.proofs.lemmas.Bool.{and_parts, and_from, not-true}
use Rattle.std.proofs.lemmas.List.Folds.{list_all-append}
use Rattle.std.proofs.lemmas.List.Splits.{slice_split-cons_yes, slice_split-cons_no}
use Rattle.pg_lines.specs.Lines.{lines_of, words_of, without_empty_last, line_of_cut, cut_at, bytes_after, place_after, text_of, is_plain, are_plain}
use Rattle.pg_lines.proofs.Places.{bytes_after-lines}
use Rattle.pg_lines.proofs.Steps.{lines_after_first, lines_of-first}
use Rattle.pg_lines.proofs.Weaker.{all_weaker}

-- no element passes the test
abbrev has_none : (ℕ → Bool) → List ℕ → Bool
has_none p bytes = list_all (λ b. not (p b)) bytes

-- bytes that aren't cut are one part
split_none : (p : ℕ → Bool) (bytes : List ℕ) → has_none p bytes ≡ true → slice_split p bytes ≡ bytes ∷ []
split_none p [] h = refl
split_none p (b ∷ bs) h =
    let parts = and_parts (not (p b)) (has_none p bs) h in
    slice_split-cons_no p b bs (not-true (p b) parts.0) ∙ ap (onto_first b) (split_none p bs parts.1)

-- the first part ends at the first cut
split_after : (p : ℕ → Bool) (bytes : List ℕ) (c : ℕ) (rest : List ℕ) → has_none p bytes ≡ true → p c ≡ true
    → slice_split p (bytes ++ c ∷ rest) ≡ bytes ∷ slice_split p rest
split_after p [] c rest h cut = slice_split-cons_yes p c rest cut
split_after p (b ∷ bs) c rest h cut =
    let parts = and_parts (not (p b)) (has_none p bs) h in
    slice_split-cons_no p b (bs ++ c ∷ rest) (not-true (p b) parts.0) ∙ ap (onto_first b) (split_after p bs c rest parts.1 cut)

-- a plain word holds no space
no_space : (w : List ℕ) → list_all is_plain w ≡ true → has_none (λ b. b == 32) w ≡ true
no_space w h = all_weaker is_plain (λ b. not (b == 32)) w (λ b g. (and_parts (not (b == 32)) (not (b == 10)) g).0) h

-- and no newline
no_newline : (w : List ℕ) → list_all is_plain w ≡ true → has_none (λ b. b == 10) w ≡ true
no_newline w h = all_weaker is_plain (λ b. not (b == 10)) w (λ b g. (and_parts (not (b == 32)) (not (b == 10)) g).1) h

-- the words of a written line
pub words_written : (ws : List (List ℕ)) → IsTrue (are_plain ws) → ws ≢ [] → words_of (join_with_byte 32 ws) ≡ ws
words_written [] plain some = absurd (some refl)
words_written (w ∷ []) plain some = split_none (λ b. b == 32) w (no_space w (and_parts (list_all is_plain w) true plain).0)
words_written (w ∷ v ∷ ws) plain some =
    let parts = and_parts (list_all is_plain w) (are_plain (v ∷ ws)) plain in
    split_after (λ b. b == 32) w 32 (join_with_byte 32 (v ∷ ws)) (no_space w parts.0) refl
    ∙ ap (λ (vs : List (List ℕ)). w ∷ vs) (words_written (v ∷ ws) parts.1 (λ e. absurd cc))

-- a written line holds no newline
line_whole : (ws : List (List ℕ)) → are_plain ws ≡ true → has_none (λ b. b == 10) (join_with_byte 32 ws) ≡ true
line_whole [] plain = refl
line_whole (w ∷ []) plain = no_newline w (and_parts (list_all is_plain w) true plain).0
line_whole (w ∷ v ∷ ws) plain =
    let parts = and_parts (list_all is_plain w) (are_plain (v ∷ ws)) plain in
    list_all-append (λ b. not (b == 10)) w (32 ∷ join_with_byte 32 (v ∷ ws))
    ∙ and_from (has_none (λ b. b == 10) w) _ (no_newline w parts.0) (line_whole (v ∷ ws) parts.1)

-- the lines of a written text
pub lines_written : (lines : List (List (List ℕ))) → IsTrue (list_all are_plain lines) → lines_of (text_of lines) ≡ map (join_with_byte 32) lines
lines_written [] plain = refl
lines_written (ws ∷ lines) plain =
    let parts = and_parts (are_plain ws) (list_all are_plain lines) plain in
    let line : List ℕ = join_with_byte 32 ws in
    ap lines_of (append_assoc line (10 ∷ []) (text_of lines))
    ∙ ap without_empty_last (split_after (λ b. b == 10) line 10 (text_of lines) (line_whole ws parts.0) refl)
    ∙ lines_after_first line (text_of lines)
    ∙ ap (λ (rest : List (List ℕ)). line ∷ rest) (lines_written lines parts.1)

-- a text without a line is empty
no_lines : (bytes : List ℕ) → lines_of bytes ≡ [] → bytes ≡ []
no_lines [] h = refl
no_lines (b ∷ bs) h = at (cut_at 10 (b ∷ bs)) refl
  where
    at : (o : Option (List ℕ × List ℕ)) → cut_at 10 (b ∷ bs) ≡ o → b ∷ bs ≡ []
    at None e = absurd (cc (h, lines_of-first (b ∷ bs) (b ∷ bs) [] (sym (ap (line_of_cut (b ∷ bs)) e))))
    at (Some p) e = absurd (cc (h, lines_of-first (b ∷ bs) p.0 p.1 (sym (ap (line_of_cut (b ∷ bs)) e))))

-- nothing is left after the elements of a list
drop_all : {A B : Type 0} (f : A → B) (xs : List A) → drop (length xs) (map f xs) ≡ []
drop_all f [] = refl
drop_all f (x ∷ xs) = drop_all f xs

-- nothing stands after the last line of a written text
pub place_written : (lines : List (List (List ℕ))) → IsTrue (list_all are_plain lines)
    → place_after (length lines) (text_of lines) ≡ length (text_of lines)
place_written lines plain =
    let bytes : List ℕ = text_of lines in
    let none : bytes_after (length lines) bytes ≡ [] =
    no_lines (bytes_after (length lines) bytes) (bytes_after-lines (length lines) bytes ∙ ap (drop (length lines)) (lines_written lines plain)
    ∙ drop_all (join_with_byte 32) lines) in
    omega (arith, ap length none)
