-- The lines of a text, and the words of a line.
use Rattle.std.specs.Prelude.{ℕ, zero, suc, Bool, not, ◌&&◌, ◌==◌, ◌+◌, ◌-◌, List, [], ◌∷◌, ◌++◌, length, take, drop, Option, Some, None, position}
use Rattle.std.specs.List.{slice_split, join_with_byte, flat_map, list_all}
use Rattle.std.specs.Option.{option_map, option_map_or}
use Rattle.std.specs.Borrow.{Bor}

-- the parts without an empty last one: nothing after the last newline is no line
abbrev pub without_empty_last : List (List ℕ) → List (List ℕ)
without_empty_last [] = []
without_empty_last ([] ∷ []) = []
without_empty_last (part ∷ parts) = part ∷ without_empty_last parts

-- the lines of a text, without their newlines
abbrev pub lines_of : List ℕ → List (List ℕ)
lines_of bytes = without_empty_last (slice_split (λ b. b == 10) bytes)

-- the words of a line, which single spaces part: where two spaces meet, or one is at an end, there is an empty word
abbrev pub words_of : List ℕ → List (List ℕ)
words_of line = slice_split (λ b. b == 32) line

-- the words of what is left of a line
abbrev pub words_left : Option (Bor (List ℕ)) → List (List ℕ)
words_left None = []
words_left (Some rest) = words_of rest.now

-- the first element, and the list without it
abbrev pub first_rest : {A : Type 0} → List A → Option (A × List A)
first_rest [] = None
first_rest (x ∷ xs) = Some (x, xs)

-- the bytes before the first c, and those after it
abbrev pub cut_at : ℕ → List ℕ → Option (List ℕ × List ℕ)
cut_at c bytes = option_map (λ i. (take i bytes, drop (i + 1) bytes)) (position (λ b. b == c) bytes)

-- the line before a cut, or all of it
abbrev pub line_of_cut : List ℕ → Option (List ℕ × List ℕ) → Option (List ℕ × List ℕ)
line_of_cut bytes None = Some (bytes, [])
line_of_cut bytes (Some p) = Some p

-- the first line, and the bytes after its newline
abbrev pub first_line : List ℕ → Option (List ℕ × List ℕ)
first_line [] = None
first_line (b ∷ bs) = line_of_cut (b ∷ bs) (cut_at 10 (b ∷ bs))

-- the bytes after the first line
abbrev pub bytes_after_line : List ℕ → List ℕ
bytes_after_line bytes = option_map_or (λ p. p.1) (first_line bytes) []

-- the bytes after the first n lines
abbrev pub bytes_after : ℕ → List ℕ → List ℕ
bytes_after zero bytes = bytes
bytes_after (suc n) bytes = bytes_after_line (bytes_after n bytes)

-- the place after line n, in bytes
abbrev pub place_after : ℕ → List ℕ → ℕ
place_after n bytes = length bytes - length (bytes_after n bytes)

-- a line of words: single spaces part them, and a newline ends it
abbrev pub line_text : List (List ℕ) → List ℕ
line_text ws = join_with_byte 32 ws ++ 10 ∷ []

-- a text of lines of words
abbrev pub text_of : List (List (List ℕ)) → List ℕ
text_of lines = flat_map line_text lines

-- neither a space nor a newline
abbrev pub is_plain : ℕ → Bool
is_plain b = not (b == 32) && not (b == 10)

-- no word holds a space or a newline
abbrev pub are_plain : List (List ℕ) → Bool
are_plain ws = list_all (list_all is_plain) ws
