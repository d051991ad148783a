-- The words that the program is called with.
use Rattle.std.specs.Prelude.{ℕ, Bool, nat_le, ◌&&◌, List, [], ◌∷◌, map, codes, String, string_bytes, Option, Some, None, is_some, if◌then◌else◌}
use Rattle.std.specs.Option.{option_map, option_and_then}
use Rattle.std.specs.Str.{bytes_eq}
use Rattle.pg_perm.specs.declared.kinds.Mode.{Mode}
use Rattle.pg_perm.specs.declared.kinds.Mode.TheVariants.{Stall, Defer}
use Rattle.pg_script.specs.Numbers.{number_of}
use Rattle.protogen_cli.specs.declared.words.Machine.TheVariants.{Atomic, Controllers}
use Rattle.protogen_cli.specs.declared.words.Command.{Command}
use Rattle.protogen_cli.specs.declared.words.Command.TheVariants.{Check, Compile, Run}

-- the bytes of each word
abbrev pub word_bytes : {A : Type 0} → List (String A) → List (List ℕ)
word_bytes words = map string_bytes words

-- the command that a word is, if it is one
abbrev pub command_in : List ℕ → Option Command
command_in word = if bytes_eq word (codes "check") then Some Check else if bytes_eq word (codes "atomic") then Some (Run Atomic) else None

abbrev pub mode_in : List ℕ → Option Mode
mode_in word = if bytes_eq word (codes "stall") then Some Stall else if bytes_eq word (codes "defer") then Some Defer else None

-- the command that three words are, if they are one
abbrev pub command_with : List ℕ → List ℕ → List ℕ → Option Command
command_with word option value = if bytes_eq word (codes "compile") && bytes_eq option (codes "--mode") then option_map (λ m. Compile m) (mode_in value) else None

-- the number that a word is, where it fits into 64 bits
abbrev pub seed_in : List ℕ → Option ℕ
seed_in word = option_and_then (λ n. if nat_le n 18446744073709551615 then Some n else None) (number_of word)

-- a run on the controllers of a mode, on the schedule of a seed
abbrev pub controllers : List ℕ → List ℕ → Option Command
controllers mode seed = option_and_then (λ m. option_map (λ n. Run (Controllers m n)) (seed_in seed)) (mode_in mode)

-- the command that five words are, if they are one
abbrev pub command_with_two : List ℕ → List ℕ → List ℕ → List ℕ → List ℕ → Option Command
command_with_two word first mode second seed = if bytes_eq word (codes "run") && bytes_eq first (codes "--mode") && bytes_eq second (codes "--seed") then controllers mode seed else None

-- the command that the words are, if they are one: a word alone, or one with one option or two, each with its value
abbrev pub command_of : List (List ℕ) → Option Command
command_of (word ∷ []) = command_in word
command_of (word ∷ option ∷ value ∷ []) = command_with word option value
command_of (word ∷ first ∷ mode ∷ second ∷ seed ∷ []) = command_with_two word first mode second seed
command_of words = None

-- the words are those of a command
abbrev pub is_taken : List (List ℕ) → Bool
is_taken words = is_some (command_of words)
