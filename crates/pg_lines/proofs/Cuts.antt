use Rattle.std.proofs.Common.{◌≡◌, ℕ, ◌+◌, ◌≤◌, Bool, true, false, List, [], ◌∷◌, length, take, drop, refl, ap, sym, ◌∙◌, arith, cond, Option, Some, None}
use Rattle.std.specs.Prelude.{nat_lt, ◌==◌, not}
use Rattle.std.specs.List.{slice_split, onto_first, position_or_len}
use Rattle.std.specs.Borrow.{Bor}
use Rattle.std.specs.Option.{option_map}
use Rattle.std.proofs.lemmas.List.Splits.{slice_split_first}
use Rattle.std.proofs.lemmas.Bool.{ltb-true, ltb-false}
use Rattle.pg_lines.specs.Lines.{cut_at, words_left, words_of, first_rest}

-- where no element passes, the list is the one part
split_missing : {X : Type 0} (p : X → Bool) (xs : List X) → length xs ≤ position_or_len p xs → slice_split p xs ≡ xs ∷ []
split_missing p [] h = refl
split_missing p (x ∷ xs) h =
    (elim (p x) as (λ b. length (x ∷ xs) ≤ cond (not b) (1 + position_or_len p xs) 0 → cond b ([] ∷ slice_split p xs) (onto_first x (slice_split p xs)) ≡ (x ∷ xs) ∷ []) [
      | true ↦ λ (g : length (x ∷ xs) ≤ 0). absurd (omega arith)
      | false ↦ λ (g : length (x ∷ xs) ≤ 1 + position_or_len p xs). ap (onto_first x) (split_missing p xs (omega arith))
    ]) h

-- the parts from a cut on
abbrev pub parts_of_cut : ℕ → List ℕ → Option (List ℕ × List ℕ) → List (List ℕ)
parts_of_cut c bytes None = bytes ∷ []
parts_of_cut c bytes (Some p) = p.0 ∷ slice_split (λ b. b == c) p.1

-- cutting all is cutting once, and then the rest
pub parts_cut : (c : ℕ) (bytes : List ℕ) → slice_split (λ b. b == c) bytes ≡ parts_of_cut c bytes (cut_at c bytes)
parts_cut c bytes = at (nat_lt (position_or_len (λ b. b == c) bytes) (length bytes)) refl
  where
    at : (b : Bool) → nat_lt (position_or_len (λ b. b == c) bytes) (length bytes) ≡ b → slice_split (λ b. b == c) bytes
        ≡ parts_of_cut c bytes (option_map (λ i. (take i bytes, drop (i + 1) bytes)) (cond b (Some (position_or_len (λ b. b == c) bytes)) None))
    at true h = slice_split_first (λ b. b == c) bytes 0 (ltb-true _ _ h)
    at false h = split_missing (λ b. b == c) bytes (ltb-false _ _ h)

-- the first word and the words after it, by the cut at the first space
abbrev pub word_of_cut : List ℕ → Option (List ℕ × List ℕ) → Option (List ℕ × List (List ℕ))
word_of_cut line None = Some (line, [])
word_of_cut line (Some p) = Some (p.0, words_of p.1)

pub first_word : (rest : List ℕ) → first_rest (words_of rest) ≡ word_of_cut rest (cut_at 32 rest)
first_word rest = ap first_rest (parts_cut 32 rest) ∙ at (cut_at 32 rest)
  where
    at : (o : Option (List ℕ × List ℕ)) → first_rest (parts_of_cut 32 rest o) ≡ word_of_cut rest o
    at None = refl
    at (Some p) = refl

-- the same of what is left of a line
pub first_of_left : (o : Option (Bor (List ℕ))) (left : List (List ℕ)) (rest : Bor (List ℕ)) (found : Option (List ℕ × List ℕ))
    → words_left o ≡ left → o ≡ Some rest → found ≡ cut_at 32 rest.now → word_of_cut rest.now found ≡ first_rest left
first_of_left o left rest found is_left is_some is_found =
    ap (word_of_cut rest.now) is_found ∙ sym (first_word rest.now) ∙ sym (ap (λ x. first_rest (words_left x)) is_some) ∙ ap first_rest is_left
