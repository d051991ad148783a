-- The text of a drill's summary.
use Rattle.std.specs.Prelude.{ℕ, List, [], ◌∷◌, codes}
use Rattle.std.specs.Fmt.{decimal}
use Rattle.pg_lines.specs.Lines.{text_of}
use Rattle.pg_tally.specs.declared.tally.Tally.{Tally}

-- the words of a line that tells a number
abbrev pub number_line : List ℕ → ℕ → List (List ℕ)
number_line name n = name ∷ decimal n ∷ []

-- the words of the line that tells which drill it is
abbrev pub drill_line : ℕ → ℕ → ℕ → ℕ → List (List ℕ)
drill_line seed cores blocks ops =
    codes "drill"
    ∷ codes "seed" ∷ decimal seed
    ∷ codes "cores" ∷ decimal cores
    ∷ codes "blocks" ∷ decimal blocks
    ∷ codes "ops" ∷ decimal ops
    ∷ []

-- the lines of a summary: which drill it is, the numbers of its tally, and a last line
abbrev pub summary_lines : ℕ → ℕ → ℕ → ℕ → Tally → List (List (List ℕ))
summary_lines seed cores blocks ops t =
    drill_line seed cores blocks ops
    ∷ number_line (codes "txns") t.txns
    ∷ number_line (codes "stale") t.stale
    ∷ number_line (codes "loads") t.loads
    ∷ number_line (codes "late") t.late
    ∷ number_line (codes "stores") t.stores
    ∷ number_line (codes "events") t.events
    ∷ number_line (codes "sum") t.sum
    ∷ (codes "end" ∷ [])
    ∷ []

abbrev pub summary : ℕ → ℕ → ℕ → ℕ → Tally → List ℕ
summary seed cores blocks ops t = text_of (summary_lines seed cores blocks ops t)
