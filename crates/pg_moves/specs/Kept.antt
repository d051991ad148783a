-- Worlds that are orderly with some marks, and what holds of each world that is reached.
use Rattle.std.specs.Prelude.{ℕ, List}
use Rattle.pg_perm.specs.declared.draft.Draft.{Draft}
use Rattle.pg_table.specs.Tables.{TableState}
use Rattle.pg_controllers.specs.Worlds.{World}
use Rattle.pg_orderly.specs.Orderly.{Mark, IsOrderly}
use Rattle.pg_safe.specs.Moving.{IsComplete}
use Rattle.pg_safe.specs.OneRow.{HasDirState}

-- it is orderly, with some marks
abbrev pub IsOrderlyWorld : Draft → ℕ → World → Type 0
IsOrderlyWorld d n w = (u : ℕ → Mark) × IsOrderly d n w u

-- a world that is orderly, with each line and the directory in a state of its table
pub record IsSoundWorld (d : Draft) (t : List TableState) (n : ℕ) (w : World) : Type 0 where
  pub marks : ℕ → Mark
  pub orderly : IsOrderly d n w marks
  pub complete : IsComplete t n w
  pub directory : HasDirState d w
