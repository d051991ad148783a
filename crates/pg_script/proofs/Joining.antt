-- The text of a script, as its parts are put one after another.
use Rattle.std.proofs.Common.{◌≡◌, ℕ, List, [], ◌∷◌, ◌++◌, map, codes, refl, ap, sym, ◌∙◌, append_assoc}
use Rattle.std.proofs.lemmas.Grind.{flat_map-append}
use Rattle.std.proofs.lemmas.List.{map-append}
use Rattle.pg_lines.specs.Lines.{line_text, text_of}
use Rattle.pg_script.specs.declared.script.ScriptOp.{ScriptOp}
use Rattle.pg_script.specs.declared.statement.Statement.TheVariants.{Cores, Blocks, Done}
use Rattle.pg_script.specs.Forms.{spelling}
use Rattle.pg_script.specs.Printing.{op_line_of, script_text}
use Rattle.pg_script.specs.Scripts.{Operations}

ops_text : (os : List ScriptOp) → text_of (map (λ o. spelling (op_line_of o)) os) ≡ text_of (map spelling (map op_line_of os))
ops_text [] = refl
ops_text (o ∷ os) = ap (λ (t : List ℕ). line_text (spelling (op_line_of o)) ++ t) (ops_text os)

-- the counts, the operations and `done`, one after the other
pub parts_put : (s : Operations) (none counts ops whole : List ℕ) → none ≡ []
    → counts ≡ none ++ text_of (spelling (Cores s.cores) ∷ spelling (Blocks s.blocks) ∷ [])
    → ops ≡ counts ++ text_of (map (λ o. spelling (op_line_of o)) s.ops) → whole ≡ ops ++ codes "done\n" → whole ≡ script_text s
parts_put s none counts ops whole is_none is_counts is_ops is_whole =
    let head : List ℕ = text_of (spelling (Cores s.cores) ∷ spelling (Blocks s.blocks) ∷ []) in
    let body : List ℕ = text_of (map spelling (map op_line_of s.ops)) in
    is_whole ∙ ap (λ (t : List ℕ). t ++ codes "done\n") (is_ops ∙ (λ i. (is_counts ∙ ap (λ (t : List ℕ). t ++ head) is_none) i ++ ops_text s.ops i))
    ∙ append_assoc head body (codes "done\n")
    ∙ ap (λ (t : List ℕ). head ++ t) (sym (flat_map-append line_text (map spelling (map op_line_of s.ops)) (spelling Done ∷ []))
    ∙ ap text_of (sym (map-append spelling (map op_line_of s.ops) (Done ∷ []))))
    ∙ sym (flat_map-append line_text (spelling (Cores s.cores) ∷ spelling (Blocks s.blocks) ∷ []) (map spelling (map op_line_of s.ops ++ Done ∷ [])))
