-- Runs of which each world is orderly.
use Rattle.std.proofs.Common.{◌≡◌, ℕ, true, List, [], ◌∷◌}
use Rattle.std.specs.Prelude.{length}
use Rattle.pg_perm.specs.declared.kinds.Mode.{Mode}
use Rattle.pg_perm.specs.declared.kinds.Op.{Op}
use Rattle.pg_perm.specs.declared.draft.Draft.{Draft}
use Rattle.pg_controllers.specs.Worlds.{World, Picks, step, can_happen}
use Rattle.pg_controllers.specs.Runs.{opening}
use Rattle.pg_controllers.specs.Worked.{picks, journal_entry}
use Rattle.pg_worked.specs.Marked.{MarkedWorld, mark_of, AreOrderly, IsOrderlyRun}
use Rattle.pg_worked.proofs.Direct.{IsDirect, direct}

abbrev pub AreDirect : Draft → Picks → ℕ → World → List MarkedWorld → Type 0
AreDirect d pick n w [] = Unit {0}
AreDirect d pick n w (x ∷ xs) = (can_happen d pick w x.event ≡ true) × (step d pick w (journal_entry x.event) ≡ x.world) × IsDirect d n x.world (mark_of x.marks) × AreDirect d pick n x.world xs

pub are_direct : (d : Draft) (pick : Picks) (n : ℕ) (w : World) (xs : List MarkedWorld) → AreDirect d pick n w xs → AreOrderly d pick n w xs
are_direct d pick n w [] h = tt
are_direct d pick n w (x ∷ xs) h = (h.0, h.1, direct d n x.world (mark_of x.marks) h.2, are_direct d pick n x.world xs h.3)

pub direct_run : (d : Draft) (mode : Mode) (given : List (List Op)) (xs : List MarkedWorld) → IsDirect d (length given) (opening d given) (mark_of []) → AreDirect d (picks d mode) (length given) (opening d given) xs → IsOrderlyRun d mode given xs
direct_run d mode given xs o h = (direct d (length given) (opening d given) (mark_of []) o, are_direct d (picks d mode) (length given) (opening d given) xs h)
