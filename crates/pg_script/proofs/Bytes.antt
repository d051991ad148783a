-- Bytes are the text of their lines, perhaps without its last newline.
use Rattle.std.proofs.Common.{◌≡◌, ℕ, List, [], ◌∷◌, ◌++◌, map, refl, ap, sym, subst, ◌∙◌, append-nil, append_assoc, inl, inr, Ok}
use Rattle.std.specs.Prelude.{◌==◌}
use Rattle.std.specs.List.{slice_split, join_with_byte, flat_map}
use Rattle.std.proofs.lemmas.List.Splits.{join_with_byte-slice_split}
use Rattle.pg_lines.specs.Lines.{lines_of, words_of, without_empty_last, text_of}
use Rattle.pg_script.specs.Printing.{script_text, IsTextOf}
use Rattle.pg_script.specs.Scripts.{Operations}
use Rattle.pg_script.specs.Texts.{reading}
use Rattle.pg_script.proofs.Taken.{words_kept}

-- lines, each with a newline after it
abbrev with_newlines : List (List ℕ) → List ℕ
with_newlines lines = flat_map (λ line. line ++ 10 ∷ []) lines

-- the words of lines are those that the lines are written of
words_text : (lines : List (List ℕ)) → text_of (map words_of lines) ≡ with_newlines lines
words_text [] = refl
words_text (line ∷ lines) = λ i. (join_with_byte-slice_split 32 line i ++ 10 ∷ []) ++ words_text lines i

-- one more line before a text
line_before : (part : List ℕ) (bytes text : List ℕ) → IsTextOf bytes text → IsTextOf (part ++ 10 ∷ bytes) ((part ++ 10 ∷ []) ++ text)
line_before part bytes text (inl e) = inl (append_assoc part (10 ∷ []) text ∙ ap (λ (t : List ℕ). part ++ 10 ∷ t) e)
line_before part bytes text (inr e) =
    inr (append_assoc part (10 ∷ []) text ∙ ap (λ (t : List ℕ). part ++ 10 ∷ t) e ∙ sym (append_assoc part (10 ∷ bytes) (10 ∷ [])))

-- the parts between newlines are lines, but for an empty last one
parts_text : (parts : List (List ℕ)) → IsTextOf (join_with_byte 10 parts) (with_newlines (without_empty_last parts))
parts_text [] = inl refl
parts_text ([] ∷ []) = inl refl
parts_text ((c ∷ cs) ∷ []) = inr (append-nil (c ∷ cs ++ 10 ∷ []))
parts_text ([] ∷ part ∷ parts) = line_before [] (join_with_byte 10 (part ∷ parts)) _ (parts_text (part ∷ parts))
parts_text ((c ∷ cs) ∷ part ∷ parts) = line_before (c ∷ cs) (join_with_byte 10 (part ∷ parts)) _ (parts_text (part ∷ parts))

-- the bytes of lines
lines_text : (bytes : List ℕ) → IsTextOf bytes (with_newlines (lines_of bytes))
lines_text bytes =
    let parts : List (List ℕ) = slice_split (λ b. b == 10) bytes in
    subst (λ (whole : List ℕ). IsTextOf whole (with_newlines (without_empty_last parts))) (join_with_byte-slice_split 10 bytes) (parts_text parts)

-- a script is the text of what it says
pub text_kept : (bytes : List ℕ) (s : Operations) → reading bytes ≡ Ok s → IsTextOf bytes (script_text s)
text_kept bytes s e =
    let same : with_newlines (lines_of bytes) ≡ script_text s = sym (words_text (lines_of bytes)) ∙ ap text_of (words_kept bytes s e) in
    subst (IsTextOf bytes) same (lines_text bytes)
