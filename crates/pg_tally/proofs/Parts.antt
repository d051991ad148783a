-- The parts of a summary, one after another.
use Rattle.std.proofs.Common.{◌≡◌, ℕ, List, [], ◌++◌, append_assoc, ap, ◌∙◌}

-- what is put after nothing, five times
pub put_in_turn : (s0 s1 s2 s3 s4 s5 a b c d e : List ℕ) → s0 ≡ [] → s1 ≡ s0 ++ a → s2 ≡ s1 ++ b → s3 ≡ s2 ++ c → s4 ≡ s3 ++ d → s5 ≡ s4 ++ e
    → s5 ≡ a ++ (b ++ (c ++ (d ++ e)))
put_in_turn s0 s1 s2 s3 s4 s5 a b c d e h0 h1 h2 h3 h4 h5 =
    h5 ∙ ap (λ (t : List ℕ). t ++ e) (h4 ∙ ap (λ (t : List ℕ). t ++ d) (h3 ∙ ap (λ (t : List ℕ). t ++ c) (h2 ∙ ap (λ (t : List ℕ). t ++ b) (h1 ∙ ap (λ (t : List ℕ). t ++ a) h0))))
    ∙ simp append_assoc
