-- The events that are enabled in a world.
use Rattle.std.specs.Prelude.{ℕ, List, ◌++◌, map, length}
use Rattle.std.specs.List.{filter, range_with_len}
use Rattle.pg_messages.specs.declared.messages.WorldEvent.{WorldEvent}
use Rattle.pg_messages.specs.declared.messages.WorldEvent.TheVariants.{Issue, Request, Ordered, Reply}
use Rattle.pg_controllers.specs.Worlds.{Picks, World, is_enabled}

-- the events that n cores and r replies may have, in order: those of the cores kind by kind, and then the replies by their places
abbrev pub events_of : ℕ → ℕ → List WorldEvent
events_of n r = map (λ c. Issue c) (range_with_len 0 n) ++ map (λ c. Request c) (range_with_len 0 n) ++ map (λ c. Ordered c) (range_with_len 0 n) ++ map (λ i. Reply i) (range_with_len 0 r)

-- those that are enabled in a world
abbrev pub enabled_events : Picks → World → List WorldEvent
enabled_events pick w = filter (is_enabled pick w) (events_of (length w.cores) (length w.replies))
