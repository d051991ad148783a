-- Which inputs may come to a cache controller in a state.
use Rattle.std.specs.Prelude.{ℕ, Bool, true, false, ◌&&◌, ◌||◌, Option, is_some}
use Rattle.std.specs.Option.{option_map_or}
use Rattle.pg_perm.specs.declared.kinds.Event.TheVariants.{Load, Store}
use Rattle.pg_perm.specs.declared.draft.Draft.{Draft}
use Rattle.pg_perm.specs.declared.draft.ReplyName.TheVariants as reply
use Rattle.pg_terms.specs.Terms.{shared}
use Rattle.pg_terms.specs.Due.{is_due}
use Rattle.pg_terms.specs.Rows.{final_state}
use Rattle.pg_table.specs.declared.cache.Desc.{Desc}
use Rattle.pg_table.specs.declared.cache.Desc.TheVariants.{Stable, Ask, Leave}
use Rattle.pg_table.specs.declared.cache.Phase.TheVariants.{D, Ad, Ac, A}
use Rattle.pg_table.specs.declared.cache.Tag.{Tag}
use Rattle.pg_table.specs.declared.cache.Input.{Input}
use Rattle.pg_table.specs.declared.cache.Input.TheVariants as at
use Rattle.pg_table.specs.Descriptors.{end_under_tag, final_states}
use Rattle.pg_table.specs.Choices.{is_later, is_earlier, store_final}

-- the operation may end under its tag: there is a final state, and the later forwards may come to that
abbrev pub may_end : Draft → Tag → Option ℕ → Bool
may_end d tag o = option_map_or (λ x. is_some (end_under_tag d x tag)) o false

abbrev pub is_due_input : Draft → Desc → Input → Bool
-- at rest each event of the core
is_due_input d (Stable s) (at.Core event) = true
-- and a forward that is due
is_due_input d (Stable s) (at.Forward f) = is_due d s f
-- a load gets data with which it may end
is_due_input d (Ask Load s D tag) (at.DataAll r) = may_end d tag (final_state d s Load (reply.Reply r))
-- and a later forward
is_due_input d (Ask Load s D tag) (at.Forward f) = is_later d s Load tag f
-- a store that waits for data gets data with which it may end
is_due_input d (Ask Store s Ad tag) (at.DataAll r) = may_end d tag (final_state d s Store (reply.Reply r))
-- or data for which it has a final state, and acknowledgements are still to come: only sharers send them
is_due_input d (Ask Store s Ad tag) (at.DataPart r) = is_some (shared d) && is_some (final_state d s Store (reply.Reply r))
-- or acknowledgements first
is_due_input d (Ask Store s Ad tag) at.AckMore = is_some (shared d)
-- and a later forward, or an earlier one that is due
is_due_input d (Ask Store s Ad tag) (at.Forward f) = is_later d s Store tag f || is_earlier d s tag f && is_due d s f
-- a store that waits for a count gets it
is_due_input d (Ask Store s Ac tag) at.CountAll = true
-- or gets it while acknowledgements are still to come: only sharers send them
is_due_input d (Ask Store s Ac tag) at.CountPart = is_some (shared d)
-- or acknowledgements first
is_due_input d (Ask Store s Ac tag) at.AckMore = is_some (shared d)
-- and an earlier forward, which is due where it began
is_due_input d (Ask Store s Ac tag) (at.Forward f) = is_due d s f
-- a store that waits for acknowledgements gets one of them
is_due_input d (Ask Store s A tag) at.AckMore = true
-- or the last, with which it may end
is_due_input d (Ask Store s A tag) at.AckLast = may_end d tag (store_final (final_states d s Store))
-- and a later forward
is_due_input d (Ask Store s A tag) (at.Forward f) = is_later d s Store tag f
-- an evict gets its answer
is_due_input d (Leave s) at.PutAck = true
-- and a forward that is due
is_due_input d (Leave s) (at.Forward f) = is_due d s f
-- nothing else comes
is_due_input d _ _ = false
