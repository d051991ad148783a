-- What a line of a script says, by its words.
use Rattle.std.specs.Prelude.{ℕ, List, [], ◌∷◌, codes, Option, Some, None, if◌then◌else◌}
use Rattle.std.specs.Str.{bytes_eq}
use Rattle.std.specs.Option.{option_map, option_and_then}
use Rattle.pg_script.specs.declared.statement.OpForm.{OpForm}
use Rattle.pg_script.specs.declared.statement.OpForm.TheVariants.{Load, Store, Evict}
use Rattle.pg_script.specs.declared.statement.Statement.{Statement}
use Rattle.pg_script.specs.declared.statement.Statement.TheVariants.{Cores, Blocks, Op, Done}
use Rattle.pg_script.specs.Numbers.{number_of}

-- what an operation without a value is, by its word
abbrev pub plain_form : List ℕ → Option OpForm
plain_form w = if bytes_eq w (codes "load") then Some Load else if bytes_eq w (codes "evict") then Some Evict else None

-- what an operation with a value is, by its word and the value
abbrev pub valued_form : List ℕ → List ℕ → Option OpForm
valued_form w value = if bytes_eq w (codes "store") then option_map (λ n. Store n) (number_of value) else None

-- what an operation is, by its word and the words after its block
abbrev pub op_form : List ℕ → List (List ℕ) → Option OpForm
op_form w [] = plain_form w
op_form w (value ∷ []) = valued_form w value
op_form w _ = None

-- an operation, by the words of its core, of what it is and of its block, and the words after these
abbrev pub op_of_words : List ℕ → List ℕ → List ℕ → List (List ℕ) → Option Statement
op_of_words core w block ws =
    option_and_then (λ c. option_and_then (λ b. option_map (λ f. Op c b f) (op_form w ws)) (number_of block)) (number_of core)

-- a line that begins with `op`, by the words after that
abbrev pub op_line : List (List ℕ) → Option Statement
op_line (core ∷ w ∷ block ∷ ws) = op_of_words core w block ws
op_line _ = None

-- the number of a line that has no other word after its first
abbrev pub count_of : List (List ℕ) → Option ℕ
count_of (n ∷ []) = number_of n
count_of _ = None

-- the line `done`
abbrev pub done_line : List (List ℕ) → Option Statement
done_line [] = Some Done
done_line _ = None

-- what a line of these words says; a line that is in no form says nothing
abbrev pub statement_of : List (List ℕ) → Option Statement
statement_of [] = None
statement_of (w ∷ ws) = if bytes_eq w (codes "cores") then option_map (λ n. Cores n) (count_of ws)
    else if bytes_eq w (codes "blocks") then option_map (λ n. Blocks n) (count_of ws)
    else if bytes_eq w (codes "op") then op_line ws
    else if bytes_eq w (codes "done") then done_line ws
    else None
