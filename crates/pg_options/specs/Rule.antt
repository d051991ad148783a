-- The rule of the words, said without reading them.
use Rattle.std.specs.Prelude.{◌≡◌, ◌⊎◌, ℕ, List, [], ◌∷◌, ◌++◌, codes}
use Rattle.pg_options.specs.Names.{option_word}
use Rattle.pg_options.specs.Options.{Given}

-- the words are an option with its value, as two words or as one, and then the rest
abbrev pub Gives : Given → List (List ℕ) → List (List ℕ) → Type 0
Gives g words rest = (words ≡ option_word g.option ∷ g.value ∷ rest)
    ⊎ (words ≡ (option_word g.option ++ codes "=" ++ g.value) ∷ rest)

-- the words are these options, one after another
abbrev pub Spell : List Given → List (List ℕ) → Type 0
Spell [] words = words ≡ []
Spell (g ∷ gs) words = (rest : List (List ℕ)) × Gives g words rest × Spell gs rest
