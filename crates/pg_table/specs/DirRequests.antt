-- The requests that a directory handles, as inputs of its controller.
use Rattle.std.specs.Prelude.{ℕ, Bool, true, false, Option}
use Rattle.pg_perm.specs.declared.kinds.Event.{Event}
use Rattle.pg_perm.specs.declared.kinds.Event.TheVariants as event
use Rattle.pg_perm.specs.declared.kinds.Who.{Who}
use Rattle.pg_perm.specs.declared.kinds.Who.TheVariants.{Other, Sharer, Owner}
use Rattle.pg_perm.specs.declared.kinds.Left.{Left}
use Rattle.pg_perm.specs.declared.kinds.ReqClass.TheVariants.{Read, Write}
use Rattle.pg_perm.specs.declared.draft.Draft.{Draft}
use Rattle.pg_directory.specs.DirEntries.{DirEntry, Request, without_core, left_of, who}
use Rattle.pg_table.specs.declared.directory.DirDesc.{DirDesc}
use Rattle.pg_table.specs.declared.directory.DirDesc.TheVariants.{State, Busy}
use Rattle.pg_table.specs.declared.directory.DirInput.{DirInput}
use Rattle.pg_table.specs.declared.directory.DirInput.TheVariants as met
use Rattle.pg_table.specs.Directory.{DirChoice, dir_choice}

-- the directory state that the controller is in, or that it goes to once the data has come
abbrev pub dir_of : DirDesc → ℕ
dir_of (State n) = n
dir_of (Busy n) = n

-- the controller waits for data
abbrev pub is_busy : DirDesc → Bool
is_busy (State n) = false
is_busy (Busy n) = true

-- an evict, by what its core is to the directory and whether sharers are left without it
abbrev pub evict_input : Who → Left → DirInput
evict_input Other left = met.EvictNone
evict_input Sharer left = met.Evict Sharer left
evict_input Owner left = met.Evict Owner left

abbrev pub input_for : Event → Who → Left → DirInput
input_for event.Load w left = met.Ask Read w
input_for event.Store w left = met.Ask Write w
input_for event.Evict w left = evict_input w left

-- a request that comes while the controller waits for nothing
abbrev pub request_input : DirEntry → Request → DirInput
request_input s q = input_for q.event (who s q.core) (left_of (without_core q.core s.sharers))

-- what the controller does with it
abbrev pub request_choice : Draft → DirEntry → Request → Option DirChoice
request_choice d s q = dir_choice d (State s.dir) (request_input s q)
