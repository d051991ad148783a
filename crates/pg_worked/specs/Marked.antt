-- Runs whose worlds are orderly, with the marks of the cores after each event.
use Rattle.std.specs.Prelude.{ℕ, ◌≡◌, true, List, [], ◌∷◌, Option, Some, None, length, get_or, take}
use Rattle.pg_perm.specs.declared.kinds.Event.{Event}
use Rattle.pg_perm.specs.declared.kinds.Mode.{Mode}
use Rattle.pg_perm.specs.declared.kinds.Op.{Op}
use Rattle.pg_perm.specs.declared.draft.Draft.{Draft}
use Rattle.pg_table.specs.declared.cache.Desc.{Desc}
use Rattle.pg_messages.specs.declared.messages.Ordered.{Ordered}
use Rattle.pg_messages.specs.declared.messages.Reply.{Reply}
use Rattle.pg_messages.specs.declared.messages.WorldEvent.{WorldEvent}
use Rattle.pg_controllers.specs.Networks.{Core}
use Rattle.pg_controllers.specs.Directories.{Directory}
use Rattle.pg_controllers.specs.Worlds.{World, Picks, step, can_happen}
use Rattle.pg_controllers.specs.Runs.{opening}
use Rattle.pg_controllers.specs.Worked.{picks, journal_entry, line_at_rest, core_with}
use Rattle.pg_orderly.specs.Orderly.{Mark, IsOrderly}

-- how far a core has caught up, and the stamp of its last request
abbrev pub mark : ℕ → ℕ → Mark
mark seen last = record { seen = seen; last = last }

abbrev pub mark_of : List Mark → ℕ → Mark
mark_of marks c = get_or marks c (mark 0 0)

-- an event, and the world and the mark of each core after it
pub record MarkedWorld : Type 0 where
  pub event : WorldEvent
  pub world : World
  pub marks : List Mark

-- the event leads to these cores, replies and directory. So many events of a run that ends in the given world have happened,
-- with so many requests that were handled and so many accesses that are done
abbrev pub after : World → WorldEvent → ℕ → ℕ → ℕ → List Core → List Reply → Directory → List Mark → MarkedWorld
after end e events requests accesses cores replies dir marks = record {
  event = e;
  world = record { cores = cores; replies = replies; directory = dir; order = take requests end.order; done = take accesses end.done; journal = take events end.journal };
  marks = marks;
}

-- each event can happen in its turn and leads to the world beside it, which is orderly with the marks beside it
abbrev pub AreOrderly : Draft → Picks → ℕ → World → List MarkedWorld → Type 0
AreOrderly d pick n w [] = Unit {0}
AreOrderly d pick n w (x ∷ xs) = (can_happen d pick w x.event ≡ true) × (step d pick w (journal_entry x.event) ≡ x.world)
    × IsOrderly d n x.world (mark_of x.marks) × AreOrderly d pick n x.world xs

-- and so is the opening, where no core has asked for anything
abbrev pub IsOrderlyRun : Draft → Mode → List (List Op) → List MarkedWorld → Type 0
IsOrderlyRun d mode given xs = IsOrderly d (length given) (opening d given) (mark_of [])
    × AreOrderly d (picks d mode) (length given) (opening d given) xs

-- Cores

-- a core that has these operations still to begin, one with a message in its queue, and one whose request is in its slot
abbrev pub to_do : List Op → Core
to_do ops = record { line = line_at_rest 0 0 0; left = ops; slot = None; queue = [] }

abbrev pub still : List Op → Core → Core
still ops x = record x { left = ops }

abbrev pub met_by : List Ordered → Core → Core
met_by ms x = record x { queue = ms }

abbrev pub asking : ℕ → Event → Option ℕ → Core → Core
asking q e v x = record x { slot = Some (record { request = q; event = e; word = v }) }

-- a core with its line at rest in a state, with its word and stamp
abbrev pub rests : ℕ → ℕ → ℕ → Core
rests s v k = core_with (line_at_rest s v k)

-- a core with an operation outstanding, its word and stamp
abbrev pub busy_with : Op → Desc → ℕ → ℕ → Core
busy_with o s v k = core_with (record { desc = s; word = v; stamp = k; need = None; got = 0; deferred = []; pending = Some o })

-- one that counts: so many acknowledgements are needed, so many came, and these forwards are put off
abbrev pub counting : ℕ → ℕ → List Ordered → Core → Core
counting need got deferred x = record x { line = record x.line { need = Some need; got = got; deferred = deferred } }
