-- Which forwards a request sends to other cores.
use Rattle.std.specs.Prelude.{ℕ, ◌==◌, ◌&&◌, Option, None, if◌then◌else◌}
use Rattle.std.specs.Option.{option_and_then}
use Rattle.pg_perm.specs.declared.kinds.Event.TheVariants as event
use Rattle.pg_perm.specs.declared.kinds.FwdClass.TheVariants.{Inv}
use Rattle.pg_perm.specs.declared.draft.Draft.{Draft}
use Rattle.pg_perm.specs.declared.draft.RowLine.{RowLine}
use Rattle.pg_terms.specs.Terms.{is, forward_of, same_event}
use Rattle.pg_terms.specs.Due.{forward_in}
use Rattle.pg_directory.specs.DirEntries.{DirEntry, Request, is_among, row_of}

-- what the row of a request sends to a core: at a write an invalidation to each sharer, and what is passed on to the owner; nothing to the requestor
abbrev pub forward_by_row : Draft → DirEntry → Request → ℕ → RowLine → Option ℕ
forward_by_row d s q c r = if q.core == c then None
    else if same_event q.event event.Store && is_among s.sharers c then forward_of d Inv
    else if is s.owner c then forward_in r.form
    else None

-- the forward that a request sends to a core
abbrev pub forward_sent : Draft → DirEntry → Request → ℕ → Option ℕ
forward_sent d s q c = option_and_then (forward_by_row d s q c) (row_of d s q)
