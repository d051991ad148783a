-- The names of the states of the controllers.
use Rattle.std.specs.Prelude.{ℕ, Bool, ◌&&◌, ◌==◌, if◌then◌else◌, List, [], ◌∷◌, ◌++◌, codes, length}
use Rattle.pg_perm.specs.declared.draft.Draft.{Draft}
use Rattle.pg_perm.specs.Words.{cache_name, dir_name}
use Rattle.pg_table.specs.declared.cache.Desc.{Desc}
use Rattle.pg_table.specs.declared.cache.Desc.TheVariants.{Stable, Ask, Leave}
use Rattle.pg_table.specs.declared.cache.Phase.{Phase}
use Rattle.pg_table.specs.declared.cache.Phase.TheVariants.{D, Ad, Ac, A}
use Rattle.pg_table.specs.declared.cache.Tag.{Tag}
use Rattle.pg_table.specs.declared.cache.Tag.TheVariants.{Plain, Kept, Gave, Gone}
use Rattle.pg_table.specs.declared.directory.DirDesc.{DirDesc}
use Rattle.pg_table.specs.declared.directory.DirDesc.TheVariants.{State, Busy}
use Rattle.pg_table.specs.Descriptors.{out_state, final_states}

-- the name of the first of these states, if there is one
abbrev pub first_name : Draft → List ℕ → List ℕ
first_name d [] = []
first_name d (s ∷ ss) = cache_name d s

-- the name has one character
abbrev pub is_single : List ℕ → Bool
is_single name = length name == 1

-- two names as one, which still tells where the first ends
abbrev pub join_names : List ℕ → List ℕ → List ℕ
join_names a b = if is_single a && is_single b then a ++ b else a ++ codes "." ++ b

abbrev pub phase_word : Phase → List ℕ
phase_word D = codes "_D"
phase_word Ad = codes "_AD"
phase_word Ac = codes "_AC"
phase_word A = codes "_A"

abbrev pub tag_word : Tag → List ℕ
tag_word Plain = []
tag_word Kept = codes "_kept"
tag_word Gave = codes "_gave"
tag_word Gone = codes "_gone"

-- where an operation began and where it ends with its first final state, what it waits for, and its tag; an evict ends as out
abbrev pub state_name : Draft → Desc → List ℕ
state_name d (Stable s) = cache_name d s
state_name d (Ask event s phase tag) = join_names (cache_name d s) (first_name d (final_states d s event)) ++ phase_word phase ++ tag_word tag
state_name d (Leave s) = join_names (cache_name d s) (cache_name d (out_state d)) ++ codes "_A"

abbrev pub dir_state_name : Draft → DirDesc → List ℕ
dir_state_name d (State n) = dir_name d n
dir_state_name d (Busy n) = dir_name d n ++ codes "_D"
