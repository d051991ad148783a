-- The rule of the words: which words are those of a command, and of which.
use Rattle.std.specs.Prelude.{ℕ, Bool, true, false, not, nat_le, ◌==◌, ◌&&◌, List, [], ◌∷◌, map, find, String, string_bytes, Option, Some, None, is_some, unwrap_or, if◌then◌else◌}
use Rattle.std.specs.Option.{option_map, option_and_then, option_map_or}
use Rattle.std.specs.List.{list_any}
use Rattle.std.specs.Borrow.{Bor}
use Rattle.pg_perm.specs.declared.kinds.Mode.{Mode}
use Rattle.pg_perm.specs.declared.kinds.Mode.TheVariants.{Defer}
use Rattle.pg_perm.specs.Words.{modes, mode_word}
use Rattle.pg_perm.specs.Vocabularies.{find_word}
use Rattle.pg_script.specs.Numbers.{number_of}
use Rattle.pg_options.specs.declared.names.CommandName.{CommandName}
use Rattle.pg_options.specs.declared.names.CommandName.TheVariants as command
use Rattle.pg_options.specs.declared.names.OptionName.{OptionName}
use Rattle.pg_options.specs.declared.names.OptionName.TheVariants as option
use Rattle.pg_options.specs.declared.command.Command.{Command}
use Rattle.pg_options.specs.declared.command.Command.TheVariants.{Text, Drill}
use Rattle.pg_options.specs.declared.command.Drill as declared_drill
use Rattle.pg_options.specs.declared.command.Task.TheVariants.{Check, Compile, Run}
use Rattle.pg_options.specs.declared.command.Machine.TheVariants.{Atomic, Controllers}
use Rattle.pg_options.specs.Names.{command_names, command_word, option_names, option_word, same_option, has_option, default_of, least, most}

-- the bytes of each word
abbrev pub word_bytes : {A : Type 0} → List (String A) → List (List ℕ)
word_bytes words = map string_bytes words

-- an option that is given, and its value as a word
pub record Given : Type 0 where
  pub option : OptionName
  pub value : List ℕ

-- what stands before the first `=` of a word, and what after it, where it has one
abbrev pub cut : List ℕ → Option (List ℕ × List ℕ)
cut [] = None
cut (b ∷ bs) = if b == 61 then Some ([], bs) else option_map (λ p. (b ∷ p.0, p.1)) (cut bs)

-- the option that a word names
abbrev pub option_of : List ℕ → Option OptionName
option_of word = find_word option_word option_names word

-- the option of a word with a value, if it names one
abbrev pub given : List ℕ → List ℕ → Option Given
given word value = option_map (λ o. record { option = o; value = value }) (option_of word)

-- the option before those that follow
abbrev pub with_first : Option Given → Option (List Given) → Option (List Given)
with_first (Some g) (Some gs) = Some (g ∷ gs)
with_first g gs = None

-- the options that the words give, one after another
abbrev pub given_in : List (List ℕ) → Option (List Given)
given_in [] = Some []
given_in (word ∷ []) = option_and_then (λ p. with_first (given p.0 p.1) (Some [])) (cut word)
given_in (word ∷ value ∷ rest) = option_map_or (λ p. with_first (given p.0 p.1) (given_in (value ∷ rest))) (cut word) (with_first (given word value) (given_in rest))

-- the first option of the words, with the words after it
abbrev pub first_by_name : List ℕ → List ℕ → List (List ℕ) → Option (Given × List (List ℕ))
first_by_name name value rest = option_map (λ g. (g, rest)) (given name value)

abbrev pub first_in_two : List ℕ → List (List ℕ) → Option (Given × List (List ℕ))
first_in_two word [] = None
first_in_two word (value ∷ rest) = first_by_name word value rest

abbrev pub first_by_cut : Option (List ℕ × List ℕ) → List ℕ → List (List ℕ) → Option (Given × List (List ℕ))
first_by_cut (Some (name, value)) word rest = first_by_name name value rest
first_by_cut None word rest = first_in_two word rest

abbrev pub first_given : List (List ℕ) → Option (Given × List (List ℕ))
first_given [] = None
first_given (word ∷ rest) = first_by_cut (cut word) word rest

-- the same of texts
abbrev pub parts_of : {A : Type 0} → OptionName × Bor (List ℕ) × Bor (List (String A)) → Given × List (List ℕ)
parts_of (option, value, rest) = (record { option = option; value = value.now }, word_bytes rest.now)

-- the number, where the option may have it
abbrev pub within : OptionName → ℕ → Option ℕ
within o n = if nat_le (least o) n && nat_le n (most o) then Some n else None

-- the number of a word, where the option may have it
abbrev pub number_in : OptionName → List ℕ → Option ℕ
number_in o word = option_and_then (within o) (number_of word)

-- the mode of a word
abbrev pub mode_in : List ℕ → Option Mode
mode_in word = find_word mode_word modes word

-- the option may have this value
abbrev pub allows : OptionName → List ℕ → Bool
allows option.Mode value = is_some (mode_in value)
allows o value = is_some (number_in o value)

-- the option is given
abbrev pub is_given : OptionName → List Given → Bool
is_given o gs = list_any (λ g. same_option g.option o) gs

-- it is an option of the command, has a value that it may have, and isn't given again after it
abbrev pub is_right : CommandName → Given → List Given → Bool
is_right command g gs = has_option command g.option && allows g.option g.value && not (is_given g.option gs)

abbrev pub are_right : CommandName → List Given → Bool
are_right command [] = true
are_right command (g ∷ gs) = is_right command g gs && are_right command gs

-- words are options, and right
abbrev pub are_options : CommandName → Option (List Given) → Bool
are_options command read = option_map_or (are_right command) read false

abbrev pub are_options_of : Option CommandName → List (List ℕ) → Bool
are_options_of command rest = option_map_or (λ c. are_options c (given_in rest)) command false

-- the value of an option, given or not
abbrev pub value_of : OptionName → List Given → List ℕ
value_of o gs = option_map_or (λ g. g.value) (find (λ g. same_option g.option o) gs) (default_of o)

-- the mode and the number of an option, whose values are right
abbrev pub mode_given : List Given → Mode
mode_given gs = unwrap_or (mode_in (value_of option.Mode gs)) Defer

abbrev pub number_given : OptionName → List Given → ℕ
number_given o gs = unwrap_or (number_in o (value_of o gs)) 0

-- the drill with these options
abbrev pub drill_with : List Given → declared_drill.Drill
drill_with gs = record {
  mode = mode_given gs;
  seed = number_given option.Seed gs;
  cores = number_given option.Cores gs;
  blocks = number_given option.Blocks gs;
  ops = number_given option.Ops gs;
}

-- the command of this name with these options
abbrev pub command_with : CommandName → List Given → Command
command_with command.Check gs = Text Check
command_with command.Atomic gs = Text (Run Atomic)
command_with command.Compile gs = Text (Compile (mode_given gs))
command_with command.Run gs = Text (Run (Controllers (mode_given gs) (number_given option.Seed gs)))
command_with command.Drill gs = Drill (drill_with gs)

-- the command with the options that are given, where they are right
abbrev pub command_if_right : CommandName → List Given → Option Command
command_if_right command gs = if are_right command gs then Some (command_with command gs) else None

-- the command that a word names
abbrev pub command_name : List ℕ → Option CommandName
command_name word = find_word command_word command_names word

-- the command that the words are, if they are one: its name, and then its options
abbrev pub command_of : List (List ℕ) → Option Command
command_of [] = None
command_of (word ∷ rest) = option_and_then (λ c. option_and_then (command_if_right c) (given_in rest)) (command_name word)

-- the words are those of a command
abbrev pub is_taken : List (List ℕ) → Bool
is_taken words = is_some (command_of words)
