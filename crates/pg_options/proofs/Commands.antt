-- The command of words that are right.
use Rattle.std.proofs.Common.{◌≡◌, Bool, true, ℕ, List, ◌∷◌, drop, Option, Some, None, if◌then◌else◌, refl, sym, ap, ◌∙◌}
use Rattle.std.specs.Option.{option_and_then}
use Rattle.pg_options.specs.declared.names.CommandName.{CommandName}
use Rattle.pg_options.specs.Options.{Given, given_in, are_right, are_options, command_name, command_with, command_if_right, command_of}
use Rattle.pg_options.specs.Parsers.{AreRight}

right_of : (command : CommandName) (read : Option (List Given)) → are_options command read ≡ true → (gs : List Given) × (read ≡ Some gs) × (are_right command gs ≡ true)
right_of command None e = cc
right_of command (Some gs) e = (gs, refl, e)

-- words after a first word that are options of the command are right for it
pub right_words : (command : CommandName) (words rest : List (List ℕ)) (word : List ℕ) → words ≡ word ∷ rest → are_options command (given_in rest) ≡ true
    → (gs : List Given) × AreRight command words gs
right_words command words rest word is e =
    let (gs, read, right) = right_of command (given_in rest) e in
    (gs, (ap (λ (ws : List (List ℕ)). given_in (drop 1 ws)) is ∙ read, right))

-- and the words are that command
pub command_is : (command : CommandName) (words rest : List (List ℕ)) (word : List ℕ) (gs : List Given) → words ≡ word ∷ rest → Some command ≡ command_name word
    → AreRight command words gs → Some (command_with command gs) ≡ command_of words
command_is command words rest word gs is named right =
    let read : given_in rest ≡ Some gs = sym (ap (λ (ws : List (List ℕ)). given_in (drop 1 ws)) is) ∙ right.0 in
    sym (ap command_of is ∙ ap (option_and_then (λ c. option_and_then (command_if_right c) (given_in rest))) (sym named)
    ∙ ap (option_and_then (command_if_right command)) read ∙ ap (λ (b : Bool). if b then Some (command_with command gs) else None) right.1)
