-- The text of lines, as they are put one after another.
use Rattle.std.proofs.Common.{◌≡◌, ℕ, List, [], ◌∷◌, ◌++◌, map, refl, ap, sym, ◌∙◌, append_assoc}
use Rattle.pg_lines.specs.Lines.{line_text, text_of}
use Rattle.pg_forms.specs.declared.line.Line.{Line}
use Rattle.pg_forms.specs.Forms.{spelling}

-- the text of lines, and of the lines after them
text_of-both : (ls more : List Line) → text_of (map spelling (ls ++ more)) ≡ text_of (map spelling ls) ++ text_of (map spelling more)
text_of-both [] more = refl
text_of-both (l ∷ ls) more =
    ap (λ (t : List ℕ). line_text (spelling l) ++ t) (text_of-both ls more)
    ∙ sym (append_assoc (line_text (spelling l)) (text_of (map spelling ls)) (text_of (map spelling more)))

text_of-each : {A : Type 0} (f : A → Line) (xs : List A) → text_of (map (λ x. spelling (f x)) xs) ≡ text_of (map spelling (map f xs))
text_of-each f [] = refl
text_of-each f (x ∷ xs) = ap (λ (t : List ℕ). line_text (spelling (f x)) ++ t) (text_of-each f xs)

-- lines put last
pub lines_put : {A : Type 0} (f : A → Line) (xs : List A) (ls : List Line) (before now : List ℕ) → before ≡ text_of (map spelling ls)
    → now ≡ before ++ text_of (map (λ x. spelling (f x)) xs) → now ≡ text_of (map spelling (ls ++ map f xs))
lines_put f xs ls before now is_before is_now =
    is_now ∙ ap (λ (t : List ℕ). t ++ text_of (map (λ x. spelling (f x)) xs)) is_before
    ∙ ap (λ (t : List ℕ). text_of (map spelling ls) ++ t) (text_of-each f xs) ∙ sym (text_of-both ls (map f xs))
