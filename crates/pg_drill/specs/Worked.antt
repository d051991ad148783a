-- Two blocks of two cores, of which only what happened is told.
use Rattle.std.specs.Prelude.{ℕ, true, false, List, [], ◌∷◌}
use Rattle.pg_perm.specs.declared.kinds.Event.TheVariants as event
use Rattle.pg_samples.specs.Drafts.{moesi}
use Rattle.pg_messages.specs.declared.messages.Finished.TheVariants as finish
use Rattle.pg_messages.specs.declared.messages.OrderEntry.{OrderEntry}
use Rattle.pg_messages.specs.declared.messages.DoneEntry.{DoneEntry}
use Rattle.pg_messages.specs.declared.messages.WorldEvent.{WorldEvent}
use Rattle.pg_messages.specs.declared.messages.WorldEvent.TheVariants.{Issue, Request, Ordered, Reply}
use Rattle.pg_controllers.specs.Worlds.{World}
use Rattle.pg_controllers.specs.Runs.{opening}

abbrev pub world_of : List OrderEntry → List DoneEntry → List (ℕ × WorldEvent) → World
world_of order done journal = record (opening moesi []) { order = order; done = done; journal = journal }

-- core 0's load is late: core 1's store is completed before it
abbrev pub first_block : World
first_block = world_of
    (record { core = 0; event = event.Load; stale = false } ∷ record { core = 1; event = event.Store; stale = false } ∷ [])
    (record { stamp = 2; core = 1; fin = finish.Store 7; late = false } ∷ record { stamp = 1; core = 0; fin = finish.Load 0; late = true } ∷ [])
    ((0, Issue 0) ∷ (0, Issue 1) ∷ (0, Request 0) ∷ (0, Request 1) ∷ (0, Ordered 0) ∷ (0, Reply 1) ∷ (0, Reply 1) ∷ (0, Reply 0) ∷ [])

-- core 1 stores and loads, core 0 takes the block, stores and loads, and core 1's evict is stale
abbrev pub second_block : World
second_block = world_of
    (record { core = 1; event = event.Store; stale = false }
    ∷ record { core = 0; event = event.Store; stale = false }
    ∷ record { core = 1; event = event.Evict; stale = true }
    ∷ [])
    (record { stamp = 1; core = 1; fin = finish.Store 5; late = false }
    ∷ record { stamp = 1; core = 1; fin = finish.Load 5; late = false }
    ∷ record { stamp = 2; core = 0; fin = finish.Store 6; late = false }
    ∷ record { stamp = 2; core = 0; fin = finish.Load 6; late = false }
    ∷ [])
    ((0, Issue 1) ∷ (0, Request 1) ∷ (0, Reply 0) ∷ (0, Issue 1) ∷ (0, Issue 1) ∷ (0, Issue 0) ∷ (0, Request 0) ∷ (0, Ordered 1) ∷ (0, Request 1)
    ∷ (0, Ordered 1) ∷ (0, Reply 0) ∷ (0, Issue 0) ∷ [])
