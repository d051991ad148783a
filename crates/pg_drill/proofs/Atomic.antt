-- What a drill tells.
use Rattle.std.proofs.Common.{◌≡◌, ℕ, arith, List, [], ◌∷◌}
use Rattle.std.specs.Prelude.{map}
use Rattle.pg_perm.specs.declared.kinds.Mode.{Mode}
use Rattle.pg_perm.specs.declared.kinds.Op.{Op}
use Rattle.pg_perm.specs.declared.draft.Draft.{Draft}
use Rattle.pg_perm.specs.Drafts.{IsWellFormed}
use Rattle.pg_shape.specs.Shaped.{IsShaped}
use Rattle.pg_samples.specs.Drafts.{moesi}
use Rattle.pg_script.specs.Drills.{drill_operations}
use Rattle.pg_table.specs.Tables.{TableState, generated_tables}
use Rattle.pg_table.specs.Pick.{pick}
use Rattle.pg_table.specs.Sound.{IsSoundCache}
use Rattle.pg_table.proofs.Mixed.{generated_is_sound}
use Rattle.pg_controllers.specs.Runs.{opening}
use Rattle.pg_reached.proofs.Reached.{openings_reached}
use Rattle.pg_run.specs.Schedules.{draws_of, work_of, scheduled, AreReached}
use Rattle.pg_run.specs.Systems.{todo_of}
use Rattle.pg_run.proofs.Ends.{all_reached, all_quiet, all_of_quiet, all_finished}
use Rattle.pg_controller_run.proofs.Final.{history_of_block}
use Rattle.pg_drill.specs.Drills.{TellsDrill, drill_text, drill_worlds}
use Rattle.pg_drill.proofs.Texts.{moesi_is_well_formed, moesi_is_shaped}

opened : (d : Draft) (t : List TableState) → IsWellFormed d → IsShaped d → IsSoundCache d t → (given : List (List (List Op))) → AreReached d t given (map (opening d) given)
opened d t well shape sound [] = tt
opened d t well shape sound (g ∷ gs) = (openings_reached d t g well shape sound, opened d t well shape sound gs)

pub tells_drill : (m : Mode) (seed cores blocks ops : ℕ) (text : List ℕ) → text ≡ drill_text m seed cores blocks ops → TellsDrill m seed cores blocks ops (drill_operations seed cores blocks ops) text
tells_drill m seed cores blocks ops text exact =
    let s = drill_operations seed cores blocks ops in
    let t = (generated_tables moesi m).cache in
    let sound : IsSoundCache moesi t = (generated_is_sound moesi m moesi_is_well_formed moesi_is_shaped).cache in
    let ws = map (opening moesi) (todo_of s) in
    let each = opened moesi t moesi_is_well_formed moesi_is_shaped sound (todo_of s) in
    let led = all_reached moesi t (todo_of s) (work_of moesi ws) (draws_of seed) ws each in
    record {
      worlds = drill_worlds m seed cores blocks ops;
      told = exact;
      reached = led;
      finished = all_finished moesi t (todo_of s) (scheduled moesi (pick t) seed ws) led
          (all_of_quiet moesi (pick t) (scheduled moesi (pick t) seed ws) (all_quiet moesi t (todo_of s) (work_of moesi ws) (draws_of seed) ws each (omega arith)));
      atomic = λ b low. history_of_block moesi m seed b s moesi_is_well_formed moesi_is_shaped low;
    }
