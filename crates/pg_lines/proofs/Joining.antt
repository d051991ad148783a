-- The text of lines, as they are put one after another.
use Rattle.std.proofs.Common.{◌≡◌, ℕ, List, [], ◌∷◌, ◌++◌, map, refl, ap, ◌∙◌, append-nil, append_assoc}
use Rattle.std.specs.List.{join_by, join_with_byte, flat_map}
use Rattle.std.specs.Borrow.{Bor}
use Rattle.pg_lines.specs.Lines.{line_text}

-- a word, and the others after spaces
joined_from : (w : List ℕ) (ws : List (Bor (List ℕ))) → w ++ flat_map (λ v. 32 ∷ v.now) ws ≡ join_with_byte 32 (w ∷ map (λ v. v.now) ws)
joined_from w [] = append-nil w
joined_from w (v ∷ ws) = ap (λ (more : List ℕ). w ++ 32 ∷ more) (joined_from v.now ws)

joined : (ws : List (Bor (List ℕ))) → join_by (λ v. v.now) (32 ∷ []) ws ≡ join_with_byte 32 (map (λ v. v.now) ws)
joined [] = refl
joined (w ∷ ws) = joined_from w.now ws

-- a line put last
pub line_put : (ws : List (Bor (List ℕ))) (before line told more now : List ℕ) → line ≡ join_by (λ v. v.now) (32 ∷ []) ws → told ≡ line
    → more ≡ before ++ told → now ≡ more ++ 10 ∷ [] → now ≡ before ++ line_text (map (λ v. v.now) ws)
line_put ws before line told more now is_line is_told is_more is_now =
    is_now ∙ ap (λ (b : List ℕ). b ++ 10 ∷ []) is_more ∙ append_assoc before told (10 ∷ [])
    ∙ ap (λ (l : List ℕ). before ++ (l ++ 10 ∷ [])) (is_told ∙ is_line ∙ joined ws)
