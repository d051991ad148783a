-- A drill: the script of a seed on the controllers of MOESI, and its summary.
use Rattle.std.specs.Prelude.{ℕ, ◌≡◌, ◌<◌, true, List}
use Rattle.std.specs.List.{All, flat_map}
use Rattle.pg_perm.specs.declared.kinds.Mode.{Mode}
use Rattle.pg_perm.specs.declared.step.Step.{Step}
use Rattle.pg_samples.specs.Drafts.{moesi}
use Rattle.pg_script.specs.Scripts.{Operations}
use Rattle.pg_script.specs.Drills.{drill_operations}
use Rattle.pg_messages.specs.declared.messages.DoneEntry.{DoneEntry}
use Rattle.pg_messages.specs.declared.messages.WorldEvent.{WorldEvent}
use Rattle.pg_table.specs.Tables.{generated_tables}
use Rattle.pg_controllers.specs.Worlds.{World}
use Rattle.pg_safe.specs.Moving.{is_finished}
use Rattle.pg_runs.specs.Headline.{serial_order}
use Rattle.pg_run.specs.Schedules.{block, AreReached}
use Rattle.pg_run.specs.Systems.{todo_on, todo_of}
use Rattle.pg_controller_run.specs.Histories.{IsAtomicHistory, final_worlds}
use Rattle.pg_tally.specs.declared.tally.Tally.{Tally}
use Rattle.pg_tally.specs.Tallies.{tally_of}
use Rattle.pg_tally.specs.Summaries.{summary}

-- the histories of blocks with n cores, one after another
abbrev pub all_steps : ℕ → List World → List Step
all_steps n ws = flat_map (serial_order n) ws

-- what their cores completed
abbrev pub all_done : List World → List DoneEntry
all_done ws = flat_map (λ w. w.done) ws

-- their events
abbrev pub all_events : List World → List (ℕ × WorldEvent)
all_events ws = flat_map (λ w. w.journal) ws

-- the tally of all of them
abbrev pub tally_of_blocks : ℕ → List World → Tally
tally_of_blocks n ws = tally_of (all_steps n ws) (all_done ws) (all_events ws)

-- the blocks of a drill, once the schedule of its seed has led them to their end
abbrev pub drill_worlds : Mode → ℕ → ℕ → ℕ → ℕ → List World
drill_worlds m seed cores blocks ops = final_worlds moesi m seed (drill_operations seed cores blocks ops)

-- the summary of a drill
abbrev pub drill_text : Mode → ℕ → ℕ → ℕ → ℕ → List ℕ
drill_text m seed cores blocks ops = summary seed cores blocks ops (tally_of_blocks cores (drill_worlds m seed cores blocks ops))

-- the text tells the tally of worlds that the controllers of MOESI reach from a script, in which all is done, and whose histories are runs of the atomic
-- machine that make the accesses of all operations
pub record TellsDrill (m : Mode) (seed cores blocks ops : ℕ) (s : Operations) (text : List ℕ) : Type 0 where
  pub worlds : List World
  pub told : text ≡ summary seed cores blocks ops (tally_of_blocks cores worlds)
  pub reached : AreReached moesi (generated_tables moesi m).cache (todo_of s) worlds
  pub finished : All (λ w. is_finished w ≡ true) worlds
  pub atomic : (b : ℕ) → b < blocks → IsAtomicHistory moesi (todo_on s b) (serial_order cores (block moesi worlds b))
