-- The tags of an operation, one by one.
use Rattle.std.specs.Prelude.{ℕ, Bool}
use denote.Enum.Bare.{sameb}
use Rattle.pg_perm.specs.declared.kinds.Event.{Event}
use Rattle.pg_perm.specs.declared.kinds.Mode.{Mode}
use Rattle.pg_perm.specs.declared.kinds.Mode.TheVariants as mode
use Rattle.pg_perm.specs.declared.draft.Draft.{Draft}
use Rattle.pg_table.specs.contracts.cache.Tag.{the_type}
use Rattle.pg_table.specs.declared.cache.Tag.{Tag}
use Rattle.pg_table.specs.declared.cache.Tag.TheVariants.{Plain}
use Rattle.pg_table.specs.Descriptors.{is_tag_of}

-- an operation that began in this state has the tag
abbrev pub has_tag : Draft → Mode → ℕ → Event → Tag → Bool
has_tag d mode.Stall s event t = sameb the_type t Plain
has_tag d mode.Defer s event t = is_tag_of d s event t
