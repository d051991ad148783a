-- What a visit adds to the events of its pass, and what it saw where it added none.
use Rattle.std.specs.Prelude.{ℕ, ◌≡◌, true, List, [], ◌∷◌, ◌++◌}
use Rattle.pg_messages.specs.declared.messages.WorldEvent.{WorldEvent}
use Rattle.pg_safe.specs.Moving.{is_finished}
use Rattle.pg_world.specs.Kept.{WorldView}
use Rattle.pg_world.specs.declared.turns.WorldRoot.{WorldRoot}
use Rattle.pg_world.specs.Turns.{root_of, journal_of}

-- one event of this number more stands last
abbrev pub IsOneMore : ℕ → List (ℕ × WorldEvent) → List (ℕ × WorldEvent) → Type 0
IsOneMore number old new = (e : WorldEvent) × (new ≡ old ++ (number, e) ∷ [])

-- the world with this root and this journal is finished
pub record SawFinished (root : WorldRoot) (seen : List (ℕ × WorldEvent)) : Type 0 where
  pub world : WorldView
  pub root_is : root_of world ≡ root
  pub journal : journal_of world ≡ seen
  pub finished : is_finished world.world ≡ true
