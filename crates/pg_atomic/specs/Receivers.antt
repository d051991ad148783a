-- The cores to which a request may send a forward.
use Rattle.std.specs.Prelude.{ℕ, List, [], if◌then◌else◌}
use Rattle.pg_perm.specs.declared.kinds.Event.{Event}
use Rattle.pg_perm.specs.declared.kinds.Event.TheVariants as event
use Rattle.pg_terms.specs.Terms.{same_event}
use Rattle.pg_directory.specs.DirEntries.{DirEntry, Request, with_owner, without_core}

-- those that may be sent an invalidation: the sharers at a store, and else none
abbrev pub invalidated : DirEntry → Event → List ℕ
invalidated s e = if same_event e event.Store then s.sharers else []

-- those and the owner, but not the core that asks
abbrev pub receivers : DirEntry → Request → List ℕ
receivers s q = without_core q.core (with_owner s.owner (invalidated s q.event))
