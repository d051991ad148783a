-- The forms of the lines of a script, by how they are spelled.
use Rattle.std.specs.Prelude.{ℕ, ◌<◌, ◌^◌, List, [], ◌∷◌, codes}
use Rattle.std.specs.Fmt.{decimal}
use Rattle.pg_script.specs.declared.statement.OpForm.{OpForm}
use Rattle.pg_script.specs.declared.statement.OpForm.TheVariants.{Load, Store, Evict}
use Rattle.pg_script.specs.declared.statement.Statement.{Statement}
use Rattle.pg_script.specs.declared.statement.Statement.TheVariants.{Cores, Blocks, Op, Done}

-- the words of an operation, with a core and a block
abbrev pub op_words : List ℕ → List ℕ → OpForm → List (List ℕ)
op_words core block Load = core ∷ codes "load" ∷ block ∷ []
op_words core block (Store value) = core ∷ codes "store" ∷ block ∷ decimal value ∷ []
op_words core block Evict = core ∷ codes "evict" ∷ block ∷ []

-- the words of a line
abbrev pub spelling : Statement → List (List ℕ)
spelling (Cores n) = codes "cores" ∷ decimal n ∷ []
spelling (Blocks n) = codes "blocks" ∷ decimal n ∷ []
spelling (Op core block form) = codes "op" ∷ op_words (decimal core) (decimal block) form
spelling Done = codes "done" ∷ []

-- the number has at most 20 digits
abbrev pub IsShort : ℕ → Type 0
IsShort n = n < 10 ^ 20

abbrev pub HasShortValue : OpForm → Type 0
HasShortValue Load = Unit {0}
HasShortValue (Store value) = IsShort value
HasShortValue Evict = Unit {0}

-- no number of the line has more than 20 digits
abbrev pub HasShortNumbers : Statement → Type 0
HasShortNumbers (Cores n) = IsShort n
HasShortNumbers (Blocks n) = IsShort n
HasShortNumbers (Op core block form) = IsShort core × IsShort block × HasShortValue form
HasShortNumbers Done = Unit {0}
