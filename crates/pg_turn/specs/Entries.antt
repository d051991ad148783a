-- Lists of entries, each of which names its maker.
use Rattle.std.specs.Prelude.{◌≡◌, ◌==◌, ◌<◌, ℕ, List, [], ◌∷◌, ◌++◌}
use Rattle.std.specs.List.{filter}

-- the log begins with what was seen
abbrev pub StartsWith : {E : Type 0} → List E → List E → Type 0
StartsWith {E} log seen = (rest : List E) × (log ≡ seen ++ rest)

-- P holds of each entry
abbrev pub Each : {E : Type 0} → (E → Type 0) → List E → Type 0
Each P [] = Unit {0}
Each P (e ∷ es) = P e × Each P es

module _ {E : Type 0} (maker : E → ℕ) where
  -- the entries that n made, in their order
  abbrev pub by : ℕ → List E → List E
  by n log = filter (λ e. maker e == n) log

  -- n made each of them
  abbrev pub Names : ℕ → List E → Type 0
  Names n [] = Unit {0}
  Names n (e ∷ es) = (maker e ≡ n) × Names n es

  -- each maker is below n
  abbrev pub NamedBelow : ℕ → List E → Type 0
  NamedBelow n [] = Unit {0}
  NamedBelow n (e ∷ es) = (maker e < n) × NamedBelow n es
