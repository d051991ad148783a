-- What the stores among steps store.
use Rattle.std.specs.Prelude.{ℕ, List, [], ◌∷◌, None, unwrap_or}
use Rattle.std.specs.List.{last_or}
use Rattle.pg_perm.specs.declared.step.Step.{Step}
use Rattle.pg_perm.specs.declared.step.Step.TheVariants.{Txn, Stale, Load, Store}

-- the words that the stores among the steps store, in their order
abbrev pub words_stored : List Step → List ℕ
words_stored [] = []
words_stored (Txn c e ∷ xs) = words_stored xs
words_stored (Stale c ∷ xs) = words_stored xs
words_stored (Load c v ∷ xs) = words_stored xs
words_stored (Store c v ∷ xs) = v ∷ words_stored xs

-- the word of the last store among the steps, or 0 where there is none
abbrev pub last_word_stored : List Step → ℕ
last_word_stored steps = unwrap_or (last_or None (words_stored steps)) 0
