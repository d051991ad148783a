-- Which cores the directory knows of, and where its state is in its table.
use Rattle.std.specs.Prelude.{ℕ, ◌≡◌, ◌<◌, ◌≤◌, Bool, List, [], ◌∷◌, Option, Some, None, IfSome, slice_get}
use Rattle.std.specs.Option.{option_map}
use Rattle.pg_perm.specs.declared.kinds.DirKind.TheVariants as kind
use Rattle.pg_perm.specs.declared.draft.Draft.{Draft}
use Rattle.pg_perm.specs.declared.draft.DirLine.{DirLine}
use Rattle.pg_terms.specs.Due.{same_kind}
use Rattle.pg_directory.specs.DirEntries.{initial_entry}
use Rattle.pg_table.specs.declared.directory.DirDesc.TheVariants.{State}
use Rattle.pg_table.specs.Tables.{DirTableState}
use Rattle.pg_controllers.specs.Directories.{Directory}

-- the directory of a block at first
abbrev pub initial_directory : Draft → Directory
initial_directory d = record { desc = State (initial_entry d).dir; memory = 0; owner = None; sharers = []; last = 0 }

abbrev pub is_idle : DirLine → Bool
is_idle l = same_kind kind.Idle l.kind

-- how many cores a block has, its directory, and the number of the directory's state
pub record NumberedDirectory : Type 0 where
  pub cores : ℕ
  pub number : ℕ
  pub directory : Directory

-- the number is that of its state
abbrev pub IsNumbered : List DirTableState → NumberedDirectory → Type 0
IsNumbered t v = option_map (λ s. s.desc) (slice_get t v.number) ≡ Some v.directory.desc

abbrev pub AreBelow : ℕ → List ℕ → Type 0
AreBelow n [] = Unit {0}
AreBelow n (c ∷ cs) = (c < n) × AreBelow n cs

-- there are at most 64 cores, and the owner and the sharers are among them
pub record IsInside (n : ℕ) (owner : Option ℕ) (sharers : List ℕ) : Type 0 where
  pub few : n ≤ 64
  pub owner_below : IfSome owner (λ o. o < n)
  pub sharers_below : AreBelow n sharers
