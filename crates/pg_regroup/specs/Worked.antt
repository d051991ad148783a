-- What two cores completed, for what was worked out by hand.
use Rattle.std.specs.Prelude.{ℕ, false, true, List, [], ◌∷◌}
use Rattle.pg_perm.specs.declared.kinds.Event.TheVariants as event
use Rattle.pg_messages.specs.declared.messages.OrderEntry.{OrderEntry}
use Rattle.pg_messages.specs.declared.messages.DoneEntry.{DoneEntry}
use Rattle.pg_messages.specs.declared.messages.Finished.{Finished}
use Rattle.pg_messages.specs.declared.messages.Finished.TheVariants as finish

abbrev pub done_at : ℕ → ℕ → Finished → DoneEntry
done_at k c f = record { stamp = k; core = c; fin = f; late = false }

abbrev pub late_at : ℕ → ℕ → Finished → DoneEntry
late_at k c f = record { stamp = k; core = c; fin = f; late = true }

-- core 0 loads and core 1 stores; the load completes last, when the block is core 1's already
abbrev pub load_and_store : List OrderEntry
load_and_store = record { core = 0; event = event.Load; stale = false } ∷ record { core = 1; event = event.Store; stale = false } ∷ []

abbrev pub late_load : List DoneEntry
late_load = done_at 2 1 (finish.Store 7) ∷ late_at 1 0 (finish.Load 0) ∷ []
