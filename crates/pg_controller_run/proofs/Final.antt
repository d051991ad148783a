-- What the schedule of a seed makes of a script's blocks: histories that are runs of the atomic machine.
use Rattle.std.proofs.Common.{◌≡◌, ℕ, zero, suc, ◌<◌, arith, true, List, [], ◌∷◌, length, get_or, refl, ap, subst, ◌∙◌}
use Rattle.std.specs.Prelude.{map}
use Rattle.std.proofs.lemmas.List.FromFn.{length-map-range_with_len, get_or-map-range_with_len}
use Rattle.pg_perm.specs.declared.kinds.Mode.{Mode}
use Rattle.pg_perm.specs.declared.kinds.Op.{Op}
use Rattle.pg_perm.specs.declared.draft.Draft.{Draft}
use Rattle.pg_perm.specs.Drafts.{IsWellFormed}
use Rattle.pg_shape.specs.Shaped.{IsShaped}
use Rattle.pg_script.specs.Scripts.{Operations}
use Rattle.pg_table.specs.Tables.{TableState, generated_tables}
use Rattle.pg_table.specs.Pick.{pick as picked}
use Rattle.pg_table.specs.Sound.{IsSoundCache}
use Rattle.pg_table.proofs.Mixed.{generated_is_sound}
use Rattle.pg_controllers.specs.Worlds.{World}
use Rattle.pg_controllers.specs.Runs.{opening}
use Rattle.pg_safe.specs.Moving.{is_finished}
use Rattle.pg_reached.specs.Reached.{IsReachedWorld}
use Rattle.pg_reached.proofs.Reached.{sound_world, openings_reached}
use Rattle.pg_runs.specs.Headline.{IsAtomicRun, serial_order}
use Rattle.pg_runs.proofs.Headline.{reached_runs, latest_store, finished_runs}
use Rattle.pg_run.specs.Schedules.{block, draws_of, work_of, scheduled, AreReached}
use Rattle.pg_run.specs.Systems.{todo_on, todo_of}
use Rattle.pg_run.proofs.Ends.{all_reached, all_quiet, all_of_quiet, all_finished}
use Rattle.pg_run.proofs.Openings.{todo_length}
use Rattle.pg_controller_run.specs.Histories.{IsAtomicHistory, final_worlds, block_steps}

-- One world

pub given_length : (d : Draft) (t : List TableState) (given : List (List Op)) (w : World) → IsReachedWorld d t given w → length w.cores ≡ length given
given_length d t given w r = (sound_world d t given w r).orderly.cores

pub world_runs : (d : Draft) (t : List TableState) (given : List (List Op)) (w : World) → IsReachedWorld d t given w → IsAtomicRun d given w
world_runs = reached_runs

-- once it is finished
finished_history : (d : Draft) (t : List TableState) (given : List (List Op)) (w : World) → IsReachedWorld d t given w → is_finished w ≡ true → IsAtomicHistory d given (serial_order (length given) w)
finished_history d t given w r done = record {
  run = (reached_runs d t given w r).run;
  loads = λ before after c v same. latest_store d t given w before after c v r same;
  accesses = λ c low. finished_runs d t given w c r low done;
}

-- All worlds

openings_reached_each : (d : Draft) (t : List TableState) → IsWellFormed d → IsShaped d → IsSoundCache d t → (given : List (List (List Op))) → AreReached d t given (map (opening d) given)
openings_reached_each d t well shape sound [] = tt
openings_reached_each d t well shape sound (g ∷ gs) = (openings_reached d t g well shape sound, openings_reached_each d t well shape sound gs)

reached_length : (d : Draft) (t : List TableState) (given : List (List (List Op))) (ws : List World) → AreReached d t given ws → length ws ≡ length given
reached_length d t [] [] each = refl
reached_length d t [] (w ∷ ws) each = absurd each
reached_length d t (g ∷ gs) [] each = absurd each
reached_length d t (g ∷ gs) (w ∷ ws) each = ap suc (reached_length d t gs ws each.1)

reached_at : (d : Draft) (t : List TableState) (given : List (List (List Op))) (ws : List World) (b : ℕ) → AreReached d t given ws → b < length given
    → IsReachedWorld d t (get_or given b []) (block d ws b)
reached_at d t [] ws b each low = absurd (omega (arith, low))
reached_at d t (g ∷ gs) [] b each low = absurd each
reached_at d t (g ∷ gs) (w ∷ ws) zero each low = each.0
reached_at d t (g ∷ gs) (w ∷ ws) (suc b) each low = reached_at d t gs ws b each.1 (omega (arith, low))

-- the schedule leads them to their ends
module _ (d : Draft) (t : List TableState) (given : List (List (List Op))) (ws : List World) (seed : ℕ) (each : AreReached d t given ws) where
  led : AreReached d t given (scheduled d (picked t) seed ws)
  led = all_reached d t given (work_of d ws) (draws_of seed) ws each

  finished_at : (b : ℕ) → b < length given → is_finished (block d (scheduled d (picked t) seed ws) b) ≡ true
  finished_at b low =
      let quiet = all_of_quiet d (picked t) (scheduled d (picked t) seed ws) (all_quiet d t given (work_of d ws) (draws_of seed) ws each (omega arith)) in
      let size = reached_length d t given (scheduled d (picked t) seed ws) led in
      all_finished d t given (scheduled d (picked t) seed ws) led quiet b (opening d []) (omega (arith, low, size))

  history_at : (b : ℕ) → b < length given → IsAtomicHistory d (get_or given b []) (serial_order (length (get_or given b [])) (block d (scheduled d (picked t) seed ws) b))
  history_at b low = finished_history d t (get_or given b []) (block d (scheduled d (picked t) seed ws) b) (reached_at d t given (scheduled d (picked t) seed ws) b led low) (finished_at b low)

-- A script's blocks

pub todo_at : (s : Operations) (b : ℕ) → b < s.blocks → get_or (todo_of s) b [] ≡ todo_on s b
todo_at s b low = get_or-map-range_with_len (todo_on s) 0 s.blocks b b [] low (omega arith)

pub history_of_block : (d : Draft) (m : Mode) (seed b : ℕ) (s : Operations) → IsWellFormed d → IsShaped d → b < s.blocks → IsAtomicHistory d (todo_on s b) (block_steps d m seed s b)
history_of_block d m seed b s well shape low =
    let t = (generated_tables d m).cache in
    let sound : IsSoundCache d t = (generated_is_sound d m well shape).cache in
    let size : length (todo_of s) ≡ s.blocks = length-map-range_with_len (todo_on s) 0 s.blocks in
    let told = history_at d t (todo_of s) (map (opening d) (todo_of s)) seed (openings_reached_each d t well shape sound (todo_of s)) b (omega (arith, low, size)) in
    subst (λ (n : ℕ). IsAtomicHistory d (todo_on s b) (serial_order n (block d (final_worlds d m seed s) b))) (todo_length s b)
    (subst (λ (g : List (List Op)). IsAtomicHistory d g (serial_order (length g) (block d (final_worlds d m seed s) b))) (todo_at s b low) told)

pub final_length : (d : Draft) (m : Mode) (seed : ℕ) (s : Operations) → IsWellFormed d → IsShaped d → length (final_worlds d m seed s) ≡ s.blocks
final_length d m seed s well shape =
    let t = (generated_tables d m).cache in
    let opened = openings_reached_each d t well shape (generated_is_sound d m well shape).cache (todo_of s) in
    reached_length d t (todo_of s) (final_worlds d m seed s) (led d t (todo_of s) (map (opening d) (todo_of s)) seed opened) ∙ length-map-range_with_len (todo_on s) 0 s.blocks
