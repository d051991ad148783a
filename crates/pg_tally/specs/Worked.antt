-- Small histories, with what their cores completed and their events.
use Rattle.std.specs.Prelude.{ℕ, true, false, List, [], ◌∷◌}
use Rattle.pg_perm.specs.declared.kinds.Event.TheVariants as event
use Rattle.pg_perm.specs.declared.step.Step.{Step}
use Rattle.pg_perm.specs.declared.step.Step.TheVariants.{Txn, Stale, Load, Store}
use Rattle.pg_messages.specs.declared.messages.Finished.TheVariants as finish
use Rattle.pg_messages.specs.declared.messages.DoneEntry.{DoneEntry}
use Rattle.pg_messages.specs.declared.messages.WorldEvent.{WorldEvent}
use Rattle.pg_messages.specs.declared.messages.WorldEvent.TheVariants.{Issue, Request, Ordered, Reply}

-- core 0's load is late: core 1's store is completed before it, and stands after it
abbrev pub late_load_steps : List Step
late_load_steps = Txn 0 event.Load ∷ Load 0 0 ∷ Txn 1 event.Store ∷ Store 1 7 ∷ []

abbrev pub late_load_done : List DoneEntry
late_load_done =
    record { stamp = 2; core = 1; fin = finish.Store 7; late = false }
    ∷ record { stamp = 1; core = 0; fin = finish.Load 0; late = true }
    ∷ []

abbrev pub late_load_journal : List (ℕ × WorldEvent)
late_load_journal = (0, Issue 0) ∷ (0, Issue 1) ∷ (0, Request 0) ∷ (0, Request 1) ∷ (0, Ordered 0) ∷ (0, Reply 1) ∷ (0, Reply 1) ∷ (0, Reply 0) ∷ []

-- core 0 stores and loads, core 1 stores and loads, core 0's evict is stale, and one more copy is gained; one store found its copy gone
abbrev pub stale_evict_steps : List Step
stale_evict_steps =
    Txn 0 event.Store ∷ Store 0 5 ∷ Load 0 5 ∷ Txn 1 event.Store ∷ Store 1 6 ∷ Load 1 6 ∷ Stale 0 ∷ Txn 0 event.Load ∷ []

abbrev pub stale_evict_done : List DoneEntry
stale_evict_done =
    record { stamp = 1; core = 0; fin = finish.Store 5; late = true }
    ∷ record { stamp = 1; core = 0; fin = finish.Load 5; late = false }
    ∷ record { stamp = 2; core = 1; fin = finish.Store 6; late = false }
    ∷ record { stamp = 2; core = 1; fin = finish.Load 6; late = false }
    ∷ []

abbrev pub stale_evict_journal : List (ℕ × WorldEvent)
stale_evict_journal =
    (0, Issue 0) ∷ (0, Request 0) ∷ (0, Reply 0) ∷ (0, Issue 0) ∷ (0, Issue 1) ∷ (0, Request 1) ∷ (0, Ordered 0) ∷ (0, Request 0) ∷ (0, Ordered 0) ∷ (0, Reply 0) ∷ []
