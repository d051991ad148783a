-- What a directory knows of a block: its own state, the owner, and the sharers. It follows from the requests alone, in the order in which they
-- are handled, and from no word and no message in flight.
use Rattle.std.specs.Prelude.{ℕ, Bool, ◌==◌, nat_lt, List, [], ◌∷◌, Option, Some, None, position, unwrap_or, if◌then◌else◌}
use Rattle.std.specs.List.{list_any}
use Rattle.std.specs.Option.{option_map_or}
use Rattle.pg_perm.specs.declared.kinds.DirKind.TheVariants as kind
use Rattle.pg_perm.specs.declared.kinds.Event.{Event}
use Rattle.pg_perm.specs.declared.kinds.Event.TheVariants as event
use Rattle.pg_perm.specs.declared.kinds.Who.{Who}
use Rattle.pg_perm.specs.declared.kinds.Who.TheVariants.{Other, Sharer, Owner}
use Rattle.pg_perm.specs.declared.kinds.Left.{Left}
use Rattle.pg_perm.specs.declared.kinds.Left.TheVariants.{Last, More}
use Rattle.pg_perm.specs.declared.kinds.ReqClass.TheVariants.{Read, Write}
use Rattle.pg_perm.specs.declared.draft.Draft.{Draft}
use Rattle.pg_perm.specs.declared.draft.RowLine.{RowLine}
use Rattle.pg_terms.specs.declared.cases.DirCase.{DirCase}
use Rattle.pg_terms.specs.declared.cases.DirCase.TheVariants as case
use Rattle.pg_terms.specs.Terms.{is, dir_row}
use Rattle.pg_terms.specs.Due.{same_kind, kind_is}
use Rattle.pg_terms.specs.Rows.{is_by_share}

-- the directory's entry of a block: its state, the owner or none, and the sharers in ascending order
pub record DirEntry : Type 0 where
  pub dir : ℕ
  pub owner : Option ℕ
  pub sharers : List ℕ

-- a request that the directory handles: whose it is, and for what the core asks
pub record Request : Type 0 where
  pub core : ℕ
  pub event : Event

-- Sharers

-- a core is among them
abbrev pub is_among : List ℕ → ℕ → Bool
is_among cores c = list_any (λ x. x == c) cores

-- the cores with one more in its place, where it isn't there yet
abbrev pub with_core : ℕ → List ℕ → List ℕ
with_core c [] = c ∷ []
with_core c (x ∷ xs) = if nat_lt c x then c ∷ x ∷ xs else if c == x then x ∷ xs else x ∷ with_core c xs

-- the cores without one
abbrev pub without_core : ℕ → List ℕ → List ℕ
without_core c [] = []
without_core c (x ∷ xs) = if x == c then without_core c xs else x ∷ without_core c xs

-- the cores with the owner, if there is one
abbrev pub with_owner : Option ℕ → List ℕ → List ℕ
with_owner None cores = cores
with_owner (Some o) cores = with_core o cores

-- Rows

-- what a core is to the directory
abbrev pub who : DirEntry → ℕ → Who
who s c = if is s.owner c then Owner else if is_among s.sharers c then Sharer else Other

-- whether sharers are left
abbrev pub left_of : List ℕ → Left
left_of [] = Last
left_of (x ∷ xs) = More

-- the case of a request, by what its core is and whether sharers are left without it
abbrev pub case_for : Event → Who → Left → DirCase
case_for event.Load w left = case.Ask Read w
case_for event.Store w left = case.Ask Write w
case_for event.Evict w left = case.Evict w left

abbrev pub case_of : DirEntry → Request → DirCase
case_of s q = case_for q.event (who s q.core) (left_of (without_core q.core s.sharers))

-- the row of a request
abbrev pub row_of : Draft → DirEntry → Request → Option RowLine
row_of d s q = dir_row d s.dir (case_of s q)

-- Bookkeeping

-- a share makes the owner a sharer
abbrev pub entry_after_share : DirEntry → DirEntry
entry_after_share s = record s { owner = None; sharers = with_owner s.owner s.sharers }

-- who reads is the owner where the next state is owned, and else a sharer
abbrev pub entry_after_read : Draft → RowLine → ℕ → DirEntry → DirEntry
entry_after_read d r c s = if kind_is kind.Owned d r.next
    then record { dir = r.next; owner = Some c; sharers = s.sharers }
    else record { dir = r.next; owner = s.owner; sharers = with_core c s.sharers }

-- who writes is the owner, and nobody shares
abbrev pub entry_after_write : RowLine → ℕ → DirEntry → DirEntry
entry_after_write r c s = record { dir = r.next; owner = Some c; sharers = [] }

-- who evicts is neither
abbrev pub entry_after_evict : RowLine → ℕ → DirEntry → DirEntry
entry_after_evict r c s = record { dir = r.next; owner = if is s.owner c then None else s.owner; sharers = without_core c s.sharers }

abbrev pub entry_after_row : Draft → RowLine → Event → ℕ → DirEntry → DirEntry
entry_after_row d r event.Load c s = entry_after_read d r c (if is_by_share d r then entry_after_share s else s)
entry_after_row d r event.Store c s = entry_after_write r c s
entry_after_row d r event.Evict c s = entry_after_evict r c s

-- what the directory knows after a request; one that has no row, such as a stale evict, changes nothing
abbrev pub entry_after : Draft → DirEntry → Request → DirEntry
entry_after d s q = option_map_or (λ r. entry_after_row d r q.event q.core s) (row_of d s q) s

-- the entry at first: idle, with no owner and no sharers
abbrev pub initial_entry : Draft → DirEntry
initial_entry d = record { dir = unwrap_or (position (λ l. same_kind kind.Idle l.kind) d.dirs) 0; owner = None; sharers = [] }

-- what the directory knows after these requests
abbrev pub entry_after_all : Draft → DirEntry → List Request → DirEntry
entry_after_all d s [] = s
entry_after_all d s (q ∷ qs) = entry_after_all d (entry_after d s q) qs
