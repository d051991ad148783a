-- The names of commands and options, and what options there are.
use Rattle.std.specs.Prelude.{◌≡◌, ℕ, Bool, true, false, refl, List, [], ◌∷◌, codes, Some, slice_get}
use Rattle.std.specs.List.{list_any}
use Rattle.pg_options.specs.declared.names.CommandName.{CommandName}
use Rattle.pg_options.specs.declared.names.CommandName.TheVariants.{Check, Atomic, Compile, Run, Drill}
use Rattle.pg_options.specs.declared.names.OptionName.{OptionName}
use Rattle.pg_options.specs.declared.names.OptionName.TheVariants.{Mode, Seed, Cores, Blocks, Ops}

-- the commands, the word of each, and that each is in the list
abbrev pub command_names : List CommandName
command_names = Check ∷ Atomic ∷ Compile ∷ Run ∷ Drill ∷ []

abbrev pub command_word : CommandName → List ℕ
command_word Check = codes "check"
command_word Atomic = codes "atomic"
command_word Compile = codes "compile"
command_word Run = codes "run"
command_word Drill = codes "drill"

pub command_names_listed : (x : CommandName) → (n : ℕ) × (slice_get command_names n ≡ Some x)
command_names_listed Check = (0, refl)
command_names_listed Atomic = (1, refl)
command_names_listed Compile = (2, refl)
command_names_listed Run = (3, refl)
command_names_listed Drill = (4, refl)

-- the options, the word of each, and that each is in the list
abbrev pub option_names : List OptionName
option_names = Mode ∷ Seed ∷ Cores ∷ Blocks ∷ Ops ∷ []

abbrev pub option_word : OptionName → List ℕ
option_word Mode = codes "--mode"
option_word Seed = codes "--seed"
option_word Cores = codes "--cores"
option_word Blocks = codes "--blocks"
option_word Ops = codes "--ops"

pub option_names_listed : (x : OptionName) → (n : ℕ) × (slice_get option_names n ≡ Some x)
option_names_listed Mode = (0, refl)
option_names_listed Seed = (1, refl)
option_names_listed Cores = (2, refl)
option_names_listed Blocks = (3, refl)
option_names_listed Ops = (4, refl)

-- the word of an option without its hyphens
abbrev pub long_name : OptionName → List ℕ
long_name Mode = codes "mode"
long_name Seed = codes "seed"
long_name Cores = codes "cores"
long_name Blocks = codes "blocks"
long_name Ops = codes "ops"

abbrev pub same_option : OptionName → OptionName → Bool
same_option Mode Mode = true
same_option Seed Seed = true
same_option Cores Cores = true
same_option Blocks Blocks = true
same_option Ops Ops = true
same_option o p = false

-- the options of a command
abbrev pub options_of : CommandName → List OptionName
options_of Check = []
options_of Atomic = []
options_of Compile = Mode ∷ []
options_of Run = Mode ∷ Seed ∷ []
options_of Drill = Mode ∷ Seed ∷ Cores ∷ Blocks ∷ Ops ∷ []

abbrev pub has_option : CommandName → OptionName → Bool
has_option command o = list_any (λ own. same_option own o) (options_of command)

-- the value of an option that isn't given
abbrev pub default_of : OptionName → List ℕ
default_of Mode = codes "defer"
default_of Seed = codes "0"
default_of Cores = codes "4"
default_of Blocks = codes "8"
default_of Ops = codes "1000"

-- the least and the greatest number that an option may have; the mode has none
abbrev pub least : OptionName → ℕ
least Mode = 0
least Seed = 0
least Cores = 1
least Blocks = 1
least Ops = 1

abbrev pub most : OptionName → ℕ
most Mode = 0
most Seed = 18446744073709551615
most Cores = 32
most Blocks = 64
most Ops = 16384
