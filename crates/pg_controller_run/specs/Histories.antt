-- The histories of a script's blocks on the generated controllers.
use Rattle.std.specs.Prelude.{ℕ, ◌≡◌, ◌<◌, List, [], ◌∷◌, ◌++◌, length, map, get_or}
use Rattle.pg_perm.specs.declared.kinds.Mode.{Mode}
use Rattle.pg_perm.specs.declared.kinds.Op.{Op}
use Rattle.pg_perm.specs.declared.step.Step.{Step}
use Rattle.pg_perm.specs.declared.step.Step.TheVariants.{Load}
use Rattle.pg_perm.specs.declared.draft.Draft.{Draft}
use Rattle.pg_script.specs.Scripts.{Operations}
use Rattle.pg_history.specs.HistoryText.{histories_text}
use Rattle.pg_atomic.specs.Steps.{IsRun}
use Rattle.pg_atomic.specs.Stores.{last_word_stored}
use Rattle.pg_table.specs.Tables.{generated_tables}
use Rattle.pg_table.specs.Pick.{pick}
use Rattle.pg_controllers.specs.Worlds.{World}
use Rattle.pg_controllers.specs.Runs.{opening}
use Rattle.pg_serial.specs.Serial.{accesses_of}
use Rattle.pg_refined.specs.Operations.{MadeOf}
use Rattle.pg_runs.specs.Headline.{serial_order}
use Rattle.pg_run.specs.Schedules.{block, scheduled}
use Rattle.pg_run.specs.Systems.{SystemView, todo_on, todo_of}

-- What a run gives

-- the worlds of all blocks once the schedule of the seed has led them from their openings to the end
abbrev pub final_worlds : Draft → Mode → ℕ → Operations → List World
final_worlds d m seed s = scheduled d (pick (generated_tables d m).cache) seed (map (opening d) (todo_of s))

-- the history of a block
abbrev pub block_steps : Draft → Mode → ℕ → Operations → ℕ → List Step
block_steps d m seed s b = serial_order s.cores (block d (final_worlds d m seed s) b)

-- the text of all blocks
abbrev pub histories : Draft → Mode → ℕ → Operations → List ℕ
histories d m seed s = histories_text (block_steps d m seed s) s.blocks

-- What a history is

-- a run of the atomic machine, in which each load gives the word of the last store before it, or 0 where there is none, and each core makes the accesses of
-- all its operations in their order, stores with their words
pub record IsAtomicHistory (d : Draft) (given : List (List Op)) (steps : List Step) : Type 0 where
  pub run : IsRun d (length given) steps
  pub loads : (before after : List Step) (c v : ℕ) → steps ≡ before ++ Load c v ∷ after → v ≡ last_word_stored before
  pub accesses : (c : ℕ) → c < length given → MadeOf c (get_or given c []) (accesses_of c steps)

-- the text tells such a history of each block of the script
pub record TellsHistories (d : Draft) (s : Operations) (text : List ℕ) : Type 0 where
  pub steps : ℕ → List Step
  pub told : text ≡ histories_text steps s.blocks
  pub atomic : (b : ℕ) → b < s.blocks → IsAtomicHistory d (todo_on s b) (steps b)

-- What a system shows

-- the history of a block, as far as it has come
abbrev pub serial_steps : SystemView → ℕ → List Step
serial_steps s b = serial_order (length (get_or s.given b [])) (block s.tables.protocol s.worlds b)
