use Rattle.std.proofs.Common.{◌≡◌, ℕ, [], ◌∷◌, length, take, sym, ap, ◌∙◌}
use Rattle.pg_turn.proofs.Added.{begins_taken}
use Rattle.pg_turn.proofs.laws.small_logs.Goals as goal

pub returns-clause-begins : goal.returns-clause-begins
returns-clause-begins c p tells one = sym (ap (λ n. take n ((0, 5) ∷ (1, 6) ∷ [])) (sym one) ∙ begins_taken ((0, 5) ∷ (1, 6) ∷ []) p.seen tells.0)
