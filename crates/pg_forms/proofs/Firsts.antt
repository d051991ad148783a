use Rattle.std.proofs.Common.{◌≡◌, ℕ, true, List, ◌∷◌, ap, sym, ◌∙◌, Some}
use Rattle.std.specs.Prelude.{◌&&◌}
use Rattle.std.proofs.lemmas.Bool.{and_parts}
use Rattle.pg_perm.specs.Names.{is_name, is_state_name}
use Rattle.pg_lines.specs.Lines.{first_rest}
use Rattle.pg_lines.proofs.Firsts.{first_rest_is}
use Rattle.pg_forms.specs.Pairs.{are_pairs}

-- after a reply and a final state the rest answers for all
pub pairs_after_first : (left rest behind : List (List ℕ)) (reply fin : List ℕ) → Some (reply, rest) ≡ first_rest left → Some (fin, behind) ≡ first_rest rest
    → is_name reply ≡ true → is_state_name fin ≡ true → are_pairs left ≡ are_pairs behind
pairs_after_first left rest behind reply fin h g named state =
    ap are_pairs (first_rest_is left reply rest h) ∙ ap (λ ws. are_pairs (reply ∷ ws)) (first_rest_is rest fin behind g)
    ∙ ap (λ b. (b && is_state_name fin) && are_pairs behind) named ∙ ap (λ b. b && are_pairs behind) state

-- after a reply and a final state replies and final states go on
pub pairs_go_on : (left rest behind : List (List ℕ)) (reply fin : List ℕ) → Some (reply, rest) ≡ first_rest left → Some (fin, behind) ≡ first_rest rest
    → are_pairs left ≡ true → are_pairs behind ≡ true
pairs_go_on left rest behind reply fin h g all =
    let whole : left ≡ reply ∷ fin ∷ behind = first_rest_is left reply rest h ∙ ap (λ ws. reply ∷ ws) (first_rest_is rest fin behind g) in
    (and_parts (is_name reply && is_state_name fin) (are_pairs behind) (sym (ap are_pairs whole) ∙ all)).1
