-- The parser of a command, as `clap` sees it.
use Rattle.std.specs.Prelude.{◌≡◌, ℕ, true, List, [], ◌∷◌, drop, Some}
use Rattle.clap.specs.declared.parser.matches.Found.{Found}
use Rattle.clap.specs.Matches.{first_value}
use Rattle.clap.specs.Walk.{Rule}
use Rattle.clap.specs.Simple.{App, new_rule, new_app, on_top, with_rule}
use Rattle.pg_options.specs.declared.names.CommandName.{CommandName}
use Rattle.pg_options.specs.declared.names.OptionName.{OptionName}
use Rattle.pg_options.specs.Names.{command_word, long_name, default_of, options_of, has_option}
use Rattle.pg_options.specs.Options.{Given, given_in, are_right, value_of}

-- an option with its name and its default
abbrev pub parser_rule : OptionName → Rule
parser_rule o = record (new_rule (long_name o)) { long = Some (long_name o); defaults = default_of o ∷ [] }

-- a parser with these options more
abbrev pub with_options : List OptionName → App → App
with_options [] a = a
with_options (o ∷ os) a = with_options os (with_rule a (parser_rule o))

-- the parser of a command: its options, and none for help
abbrev pub bare_parser : CommandName → App
bare_parser command = on_top (λ s. record s { disable_help_flag = true }) (new_app (command_word command))

abbrev pub parser_of : CommandName → App
parser_of command = with_options (options_of command) (bare_parser command)

-- the words after the first are these options, and right for the command
abbrev pub AreRight : CommandName → List (List ℕ) → List Given → Type 0
AreRight command words gs = (given_in (drop 1 words) ≡ Some gs) × (are_right command gs ≡ true)

-- what was found are the values of the command's options
abbrev pub HasValues : CommandName → List Given → Found → Type 0
HasValues command gs found = (o : OptionName) → has_option command o ≡ true → first_value found (long_name o) ≡ Some (value_of o gs)
