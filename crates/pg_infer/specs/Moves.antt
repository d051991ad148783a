-- Where a state goes with the stable state that it stands on.
use Rattle.std.specs.Prelude.{ℕ}
use Rattle.pg_perm.specs.declared.kinds.Event.TheVariants.{Store}
use Rattle.pg_perm.specs.declared.draft.Draft.{Draft}
use Rattle.pg_table.specs.declared.cache.Desc.{Desc}
use Rattle.pg_table.specs.declared.cache.Desc.TheVariants.{Stable, Ask, Leave}
use Rattle.pg_table.specs.declared.cache.Tag.TheVariants.{Plain}
use Rattle.pg_table.specs.Descriptors.{store_phase}

-- the state once a forward that is earlier than the outstanding operation has led the cache to this stable state
abbrev pub desc_moved_to : Draft → Desc → ℕ → Desc
desc_moved_to d (Stable s) t = Stable t
desc_moved_to d (Ask event s phase tag) t = Ask Store t (store_phase d t) Plain
desc_moved_to d (Leave s) t = Leave t
