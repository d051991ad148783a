-- What the directory handled, in its order, what it knew between, and what it sent.
use Rattle.std.specs.Prelude.{ℕ, zero, suc, ◌≡◌, ◌<◌, ◌==◌, ◌&&◌, Bool, List, [], ◌∷◌, length, get_or, Option, Some, None, if◌then◌else◌}
use Rattle.std.specs.Option.{option_map, option_and_then}
use Rattle.pg_perm.specs.declared.kinds.Event.{Event}
use Rattle.pg_perm.specs.declared.kinds.Event.TheVariants as event
use Rattle.pg_perm.specs.declared.kinds.Who.TheVariants.{Other}
use Rattle.pg_perm.specs.declared.kinds.FwdClass.TheVariants.{Inv}
use Rattle.pg_perm.specs.declared.draft.Draft.{Draft}
use Rattle.pg_perm.specs.declared.draft.Action.{Action}
use Rattle.pg_perm.specs.declared.draft.Action.TheVariants as action
use Rattle.pg_terms.specs.Terms.{same_event, same_who, has_class}
use Rattle.pg_directory.specs.DirEntries.{DirEntry, Request, who, without_core, entry_after, initial_entry}
use Rattle.pg_directory.specs.Sends.{forward_sent}
use Rattle.pg_directory.specs.Sound.{IsLegal}
use Rattle.pg_directory.specs.Requests.{action_of}
use Rattle.pg_messages.specs.declared.messages.Ordered.{Ordered}
use Rattle.pg_messages.specs.declared.messages.Ordered.TheVariants.{Forward, AckCount, PutAck}

-- how many entries there are, the request of each, and what the directory knows before each; entry number j has the stamp j + 1
pub record DirOrder : Type 0 where
  pub top : ℕ
  pub at : ℕ → Request
  pub dir_entry : ℕ → DirEntry

-- what is known after the first k of some requests; past their end, what is known after all
abbrev pub dir_entry_at : Draft → DirEntry → List Request → ℕ → DirEntry
dir_entry_at d s qs zero = s
dir_entry_at d s [] (suc k) = s
dir_entry_at d s (q ∷ qs) (suc k) = dir_entry_at d (entry_after d s q) qs k

-- the request with number j; past the end it means nothing
abbrev pub request_at : List Request → ℕ → Request
request_at qs j = get_or qs j (record { core = 0; event = event.Load })

-- the order that some requests make, from an idle directory on
abbrev pub dir_order : Draft → List Request → DirOrder
dir_order d qs = record { top = length qs; at = request_at qs; dir_entry = dir_entry_at d (initial_entry d) qs }

-- the order begins with an idle directory, each request is legal where it stands, and each changes what is known by the rows
pub record IsDirOrder (d : Draft) (n : ℕ) (p : DirOrder) : Type 0 where
  pub starts : p.dir_entry 0 ≡ initial_entry d
  pub inside : (j : ℕ) → j < p.top → (p.at j).core < n
  pub legal : (j : ℕ) → j < p.top → IsLegal d (p.dir_entry j) (p.at j)
  pub follows : (j : ℕ) → j < p.top → p.dir_entry (suc j) ≡ entry_after d (p.dir_entry j) (p.at j)

-- an evict of a core that holds nothing
abbrev pub is_stale : DirEntry → Request → Bool
is_stale s q = same_event q.event event.Evict && same_who (who s q.core) Other

-- the forward that is passed on to the owner
abbrev pub passed_forward : Draft → DirEntry → Request → Option ℕ
passed_forward d s q = option_and_then (λ o. forward_sent d s q o) s.owner

-- how many acknowledgements a request of each event waits for, where n other cores share
abbrev pub acks_by_event : Event → ℕ → ℕ
acks_by_event event.Load n = 0
acks_by_event event.Store n = n
acks_by_event event.Evict n = 0

-- how many it waits for: one from each other sharer for a store, and none otherwise
abbrev pub acks_needed : DirEntry → Request → ℕ
acks_needed s q = acks_by_event q.event (length (without_core q.core s.sharers))

-- what is sent to the requestor, by the action of the row
abbrev pub own_message : Event → Option Action → ℕ → ℕ → Option Ordered
own_message event.Evict a n k = Some (PutAck k)
own_message event.Load (Some action.Count) n k = Some (AckCount n k)
own_message event.Store (Some action.Count) n k = Some (AckCount n k)
own_message e a n k = None

-- the number that a forward carries: an invalidation carries none
abbrev pub acks_carried : Draft → ℕ → ℕ → ℕ
acks_carried d n f = if has_class Inv d f then 0 else n

-- the message of a request with stamp k to a core
abbrev pub message_to : Draft → DirEntry → Request → ℕ → ℕ → Option Ordered
message_to d s q k c = if q.core == c then own_message q.event (action_of d s q) (acks_needed s q) k
    else option_map (λ f. Forward f q.core (acks_carried d (acks_needed s q) f) k) (forward_sent d s q c)

-- the message of entry j to a core
abbrev pub entry_message : Draft → DirOrder → ℕ → ℕ → Option Ordered
entry_message d p c j = message_to d (p.dir_entry j) (p.at j) (suc j) c
