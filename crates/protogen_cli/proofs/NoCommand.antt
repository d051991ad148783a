-- Words that are no command.
use Rattle.std.proofs.Common.{◌≡◌, ℕ, ◌≤◌, List, [], ◌∷◌, None, refl, length, arith}
use Rattle.protogen_cli.specs.Words.{command_of}

-- six words or more
pub no_command : (words : List (List ℕ)) → 6 ≤ length words → None ≡ command_of words
no_command [] many = absurd (omega (arith, many))
no_command (a ∷ []) many = absurd (omega (arith, many))
no_command (a ∷ b ∷ []) many = refl
no_command (a ∷ b ∷ c ∷ []) many = absurd (omega (arith, many))
no_command (a ∷ b ∷ c ∷ d ∷ []) many = refl
no_command (a ∷ b ∷ c ∷ d ∷ e ∷ []) many = absurd (omega (arith, many))
no_command (a ∷ b ∷ c ∷ d ∷ e ∷ f ∷ more) many = refl
