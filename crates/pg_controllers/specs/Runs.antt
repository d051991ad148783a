-- Openings, and the worlds that are reached from them.
use Rattle.std.specs.Prelude.{ℕ, ◌≡◌, true, List, [], ◌∷◌, map, None}
use Rattle.pg_perm.specs.declared.kinds.Op.{Op}
use Rattle.pg_perm.specs.declared.draft.Draft.{Draft}
use Rattle.pg_directory.specs.DirEntries.{initial_entry}
use Rattle.pg_table.specs.declared.directory.DirDesc.TheVariants.{State}
use Rattle.pg_table.specs.Descriptors.{out_state}
use Rattle.pg_controllers.specs.Networks.{Core, idle_line}
use Rattle.pg_messages.specs.declared.messages.WorldEvent.{WorldEvent}
use Rattle.pg_controllers.specs.Worlds.{World, Picks, step, can_happen}

abbrev pub opening_core : Draft → List Op → Core
opening_core d ops = record { line = idle_line (out_state d); left = ops; slot = None; queue = [] }

abbrev pub opening : Draft → List (List Op) → World
opening d given = record {
  cores = map (opening_core d) given;
  replies = [];
  directory = record { desc = State (initial_entry d).dir; memory = 0; owner = None; sharers = []; last = 0 };
  order = [];
  done = [];
  journal = [];
}

abbrev pub replay : Draft → Picks → World → List (ℕ × WorldEvent) → World
replay d pick w [] = w
replay d pick w (e ∷ es) = replay d pick (step d pick w e) es

abbrev pub AreEnabled : Draft → Picks → World → List (ℕ × WorldEvent) → Type 0
AreEnabled d pick w [] = Unit {0}
AreEnabled d pick w (e ∷ es) = (can_happen d pick w e.1 ≡ true) × AreEnabled d pick (step d pick w e) es

-- replaying its journal from the opening gives the world
pub record IsReached (d : Draft) (pick : Picks) (given : List (List Op)) (w : World) : Type 0 where
  pub enabled : AreEnabled d pick (opening d given) w.journal
  pub same : replay d pick (opening d given) w.journal ≡ w
