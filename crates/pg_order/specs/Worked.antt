-- Small orders, worked out by hand.
use Rattle.std.specs.Prelude.{ℕ, zero, suc, ◌≡◌, Bool, true, false, List, [], ◌∷◌, Some, None}
use Rattle.pg_perm.specs.declared.kinds.Event.{Event}
use Rattle.pg_perm.specs.declared.kinds.Event.TheVariants.{Load, Store, Evict}
use Rattle.pg_perm.specs.declared.draft.Draft.{Draft}
use Rattle.pg_samples.specs.Drafts.{msi, mosi}
use Rattle.pg_directory.specs.DirEntries.{Request}
use Rattle.pg_messages.specs.declared.messages.Ordered.{Ordered}
use Rattle.pg_messages.specs.declared.messages.Ordered.TheVariants.{Forward, AckCount, PutAck}
use Rattle.pg_order.specs.Messages.{sent_between}
use Rattle.pg_order.specs.Orders.{DirOrder, dir_order, is_stale, acks_needed, entry_message}
use Rattle.pg_order.specs.Views.{View, is_unserved, acks_owed}

abbrev pub request_by : ℕ → Event → Request
request_by c e = record { core = c; event = e }

-- all messages to a core
abbrev pub messages_to : Draft → DirOrder → ℕ → List Ordered
messages_to d p c = sent_between (entry_message d p c) 0 p.top

-- MSI: a sharer stores, and the other sharer alone is invalidated and acknowledges
abbrev pub upgrade : DirOrder
upgrade = dir_order msi (request_by 0 Load ∷ request_by 1 Load ∷ request_by 0 Store ∷ [])

abbrev pub Upgrade : Type 0
Upgrade = (upgrade.dir_entry 2 ≡ record { dir = 1; owner = None; sharers = 0 ∷ 1 ∷ [] }) × (upgrade.dir_entry 3 ≡ record { dir = 2; owner = Some 0; sharers = [] })
    × (messages_to msi upgrade 0 ≡ []) × (messages_to msi upgrade 1 ≡ Forward 4 0 0 3 ∷ []) × (acks_needed (upgrade.dir_entry 2) (upgrade.at 2) ≡ 1)

-- MOSI: an owner stores beside two sharers. It meets two loads, and then the count for its own store
abbrev pub owner_stores : DirOrder
owner_stores = dir_order mosi (request_by 0 Store ∷ request_by 1 Load ∷ request_by 2 Load ∷ request_by 0 Store ∷ [])

-- core 1 has caught up with three entries, and the others with all
abbrev pub owner_view : View
owner_view = record { seen = λ c. seen_by c; last = λ c. 0; pending = λ c. false }
  where
    seen_by : ℕ → ℕ
    seen_by zero = 4
    seen_by (suc zero) = 3
    seen_by (suc (suc c)) = 4

abbrev pub OwnerStores : Type 0
OwnerStores = (messages_to mosi owner_stores 0 ≡ Forward 6 1 0 2 ∷ Forward 6 2 0 3 ∷ AckCount 2 4 ∷ []) × (messages_to mosi owner_stores 1 ≡ Forward 5 0 0 4 ∷ [])
    × (messages_to mosi owner_stores 2 ≡ Forward 5 0 0 4 ∷ []) × (acks_owed owner_stores owner_view 3 ≡ 1)

-- MOSI: another core stores. The owner is told how many acknowledgements that core waits for, and the sharer isn't
abbrev pub other_stores : DirOrder
other_stores = dir_order mosi (request_by 0 Store ∷ request_by 1 Load ∷ request_by 2 Store ∷ [])

abbrev pub OtherStores : Type 0
OtherStores = (messages_to mosi other_stores 0 ≡ Forward 6 1 0 2 ∷ Forward 7 2 1 3 ∷ []) × (messages_to mosi other_stores 1 ≡ Forward 5 2 0 3 ∷ [])

-- MSI: an evict that another store came before is stale
abbrev pub lost_evict : DirOrder
lost_evict = dir_order msi (request_by 0 Store ∷ request_by 1 Store ∷ request_by 0 Evict ∷ [])

abbrev pub LostEvict : Type 0
LostEvict = (messages_to msi lost_evict 0 ≡ Forward 6 1 0 2 ∷ PutAck 3 ∷ []) × (is_stale (lost_evict.dir_entry 2) (lost_evict.at 2) ≡ true)
    × (is_stale (lost_evict.dir_entry 1) (request_by 0 Evict) ≡ false)

-- MOSI: a load is ordered behind the owner's second store. The owner has met its forward, and hasn't served it while that store is pending
abbrev pub load_behind : DirOrder
load_behind = dir_order mosi (request_by 0 Store ∷ request_by 1 Load ∷ request_by 0 Store ∷ request_by 2 Load ∷ [])

abbrev pub view_where : Bool → View
view_where b = record { seen = λ c. 4; last = λ c. 3; pending = λ c. b }

abbrev pub PutOffLoad : Type 0
PutOffLoad = (is_unserved mosi load_behind (view_where true) 3 ≡ true) × (is_unserved mosi load_behind (view_where false) 3 ≡ false)
