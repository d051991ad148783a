-- The eleven kinds of request, by the row and by what the core is to the directory. What a directory knows afterwards, and what other cores are
-- sent, goes by the kind alone, and no row is looked at again.
use Rattle.std.specs.Prelude.{ℕ, ◌≡◌, ◌≢◌, ◌==◌, true, false, [], Option, Some, None}
use Rattle.std.specs.Option.{option_and_then}
use Rattle.pg_perm.specs.declared.kinds.DirKind.TheVariants as kind
use Rattle.pg_perm.specs.declared.kinds.Event.{Event}
use Rattle.pg_perm.specs.declared.kinds.Event.TheVariants.{Load, Store, Evict}
use Rattle.pg_perm.specs.declared.kinds.Who.{Who}
use Rattle.pg_perm.specs.declared.kinds.Who.TheVariants.{Other, Sharer, Owner}
use Rattle.pg_perm.specs.declared.kinds.FwdClass.TheVariants.{Inv, Share, Keep, Drop}
use Rattle.pg_perm.specs.declared.draft.Draft.{Draft}
use Rattle.pg_perm.specs.declared.draft.Action.{Action}
use Rattle.pg_perm.specs.declared.draft.Action.TheVariants.{Reply, Forward, Count}
use Rattle.pg_terms.specs.Terms.{has_class, lists, forward_of, keep_of}
use Rattle.pg_terms.specs.Due.{kind_is}
use Rattle.pg_terms.specs.Rows.{action_in}
use Rattle.pg_directory.specs.DirEntries.{DirEntry, Request, with_core, without_core, with_owner, who, row_of, entry_after}
use Rattle.pg_directory.specs.Sends.{forward_sent}

pub data Kind : Type 0 where
  -- an evict of a core that holds nothing
  Stale : Kind
  -- a load that memory answers, and ends as a sharer or as the owner
  Read_shared : Kind
  Read_owned : Kind
  -- a load that is passed on to the owner, by a forward of this number
  Read_share : ℕ → Kind
  Read_keep : ℕ → Kind
  Read_drop : ℕ → Kind
  -- a store that memory answers, one that is passed on to the owner, and one of the owner
  Write_reply : Kind
  Write_drop : ℕ → Kind
  Write_count : Kind
  -- an evict of the owner, and one of a sharer
  Evict_owner : Kind
  Evict_sharer : Kind

-- what the directory knows after a request of this kind by core r, which leads to the directory state next
abbrev pub entry_after_kind : Kind → ℕ → ℕ → DirEntry → DirEntry
entry_after_kind Stale r next s = s
entry_after_kind Read_shared r next s = record { dir = next; owner = s.owner; sharers = with_core r s.sharers }
entry_after_kind Read_owned r next s = record { dir = next; owner = Some r; sharers = s.sharers }
entry_after_kind (Read_share f) r next s = record { dir = next; owner = None; sharers = with_core r (with_owner s.owner s.sharers) }
entry_after_kind (Read_keep f) r next s = record { dir = next; owner = s.owner; sharers = with_core r s.sharers }
entry_after_kind (Read_drop f) r next s = record { dir = next; owner = Some r; sharers = s.sharers }
entry_after_kind Write_reply r next s = record { dir = next; owner = Some r; sharers = [] }
entry_after_kind (Write_drop f) r next s = record { dir = next; owner = Some r; sharers = [] }
entry_after_kind Write_count r next s = record { dir = next; owner = Some r; sharers = [] }
entry_after_kind Evict_owner r next s = record { dir = next; owner = None; sharers = s.sharers }
entry_after_kind Evict_sharer r next s = record { dir = next; owner = s.owner; sharers = without_core r s.sharers }

-- what the requestor is after a request of this kind
abbrev pub requestor_by_kind : Kind → Who
requestor_by_kind Stale = Other
requestor_by_kind Read_shared = Sharer
requestor_by_kind Read_owned = Owner
requestor_by_kind (Read_share f) = Sharer
requestor_by_kind (Read_keep f) = Sharer
requestor_by_kind (Read_drop f) = Owner
requestor_by_kind Write_reply = Owner
requestor_by_kind (Write_drop f) = Owner
requestor_by_kind Write_count = Owner
requestor_by_kind Evict_owner = Other
requestor_by_kind Evict_sharer = Other

-- a share makes the owner a sharer
abbrev pub who_after_share : Who → Who
who_after_share Other = Other
who_after_share Sharer = Sharer
who_after_share Owner = Sharer

-- a drop leaves the owner nothing
abbrev pub who_after_drop : Who → Who
who_after_drop Other = Other
who_after_drop Sharer = Sharer
who_after_drop Owner = Other

-- what another core than the requestor is after a request of this kind, by what it was
abbrev pub other_by_kind : Kind → Who → Who
other_by_kind Stale w = w
other_by_kind Read_shared w = w
other_by_kind Read_owned w = w
other_by_kind (Read_share f) w = who_after_share w
other_by_kind (Read_keep f) w = w
other_by_kind (Read_drop f) w = who_after_drop w
other_by_kind Write_reply w = Other
other_by_kind (Write_drop f) w = Other
other_by_kind Write_count w = Other
other_by_kind Evict_owner w = w
other_by_kind Evict_sharer w = w

-- to a sharer the first, to the owner the second
abbrev pub to_holder : Who → Option ℕ → Option ℕ → Option ℕ
to_holder Other one two = None
to_holder Sharer one two = one
to_holder Owner one two = two

-- what a request of this kind sends to another core than its own
abbrev pub forward_by_kind : Draft → Kind → Who → Option ℕ
forward_by_kind d Stale w = None
forward_by_kind d Read_shared w = None
forward_by_kind d Read_owned w = None
forward_by_kind d (Read_share f) w = to_holder w None (Some f)
forward_by_kind d (Read_keep f) w = to_holder w None (Some f)
forward_by_kind d (Read_drop f) w = to_holder w None (Some f)
forward_by_kind d Write_reply w = to_holder w (forward_of d Inv) None
forward_by_kind d (Write_drop f) w = to_holder w (forward_of d Inv) (Some f)
forward_by_kind d Write_count w = to_holder w (forward_of d Inv) None
forward_by_kind d Evict_owner w = None
forward_by_kind d Evict_sharer w = None

-- for what the core asks by a request of this kind
abbrev pub event_by_kind : Kind → Event
event_by_kind Stale = Evict
event_by_kind Read_shared = Load
event_by_kind Read_owned = Load
event_by_kind (Read_share f) = Load
event_by_kind (Read_keep f) = Load
event_by_kind (Read_drop f) = Load
event_by_kind Write_reply = Store
event_by_kind (Write_drop f) = Store
event_by_kind Write_count = Store
event_by_kind Evict_owner = Evict
event_by_kind Evict_sharer = Evict

abbrev pub IsByMemory : Option Action → Type 0
IsByMemory does = (m : ℕ) × (does ≡ Some (Reply m))

-- what the directory does with a request of this kind: memory replies, or it is passed on by the forward of the kind, or counted; with an evict nothing
abbrev pub DoesByKind : Kind → Option Action → Type 0
DoesByKind Stale does = does ≡ None
DoesByKind Read_shared does = IsByMemory does
DoesByKind Read_owned does = IsByMemory does
DoesByKind (Read_share f) does = does ≡ Some (Forward f)
DoesByKind (Read_keep f) does = does ≡ Some (Forward f)
DoesByKind (Read_drop f) does = does ≡ Some (Forward f)
DoesByKind Write_reply does = IsByMemory does
DoesByKind (Write_drop f) does = does ≡ Some (Forward f)
DoesByKind Write_count does = does ≡ Some Count
DoesByKind Evict_owner does = does ≡ None
DoesByKind Evict_sharer does = does ≡ None

abbrev pub HasOwner : DirEntry → Type 0
HasOwner s = (o : ℕ) × (s.owner ≡ Some o)

-- what is known before a request of this kind by core r, and of the state that it leads to
abbrev pub KindFacts : Draft → Kind → ℕ → ℕ → DirEntry → Type 0
KindFacts d Stale r next s = who s r ≡ Other
KindFacts d Read_shared r next s = (who s r ≡ Other) × (s.owner ≡ None) × (kind_is kind.Shared d next ≡ true)
KindFacts d Read_owned r next s = (s.owner ≡ None) × (s.sharers ≡ []) × (kind_is kind.Owned d next ≡ true)
KindFacts d (Read_share f) r next s = (who s r ≡ Other) × HasOwner s × (has_class Share d f ≡ true) × (kind_is kind.Shared d next ≡ true)
KindFacts d (Read_keep f) r next s = (who s r ≡ Other) × HasOwner s × (has_class Keep d f ≡ true) × (kind_is kind.Mixed d next ≡ true)
    × ((x t : ℕ) → lists d s.dir x ≡ true → keep_of d x ≡ Some t → lists d next t ≡ true)
KindFacts d (Read_drop f) r next s = (who s r ≡ Other) × HasOwner s × (s.sharers ≡ []) × (has_class Drop d f ≡ true) × (kind_is kind.Owned d next ≡ true)
KindFacts d Write_reply r next s = (s.owner ≡ None) × (kind_is kind.Owned d next ≡ true)
KindFacts d (Write_drop f) r next s = (who s r ≢ Owner) × HasOwner s × (has_class Drop d f ≡ true) × (kind_is kind.Owned d next ≡ true)
KindFacts d Write_count r next s = (who s r ≡ Owner) × (kind_is kind.Owned d next ≡ true)
KindFacts d Evict_owner r next s = (who s r ≡ Owner) × (s.sharers ≡ [] → kind_is kind.Idle d next ≡ true) × (s.sharers ≢ [] → kind_is kind.Shared d next ≡ true)
KindFacts d Evict_sharer r next s = (who s r ≡ Sharer)
    × (s.owner ≡ None → (without_core r s.sharers ≡ [] → kind_is kind.Idle d next ≡ true) × (without_core r s.sharers ≢ [] → kind_is kind.Shared d next ≡ true))
    × (HasOwner s → ((x : ℕ) → lists d s.dir x ≡ true → lists d next x ≡ true)
    × (without_core r s.sharers ≢ [] → kind_is kind.Mixed d next ≡ true)
    × (kind_is kind.Mixed d next ≡ false → kind_is kind.Owned d next ≡ true))

-- the request is of this kind, and leads to this directory state
pub record IsOfKind (d : Draft) (s : DirEntry) (q : Request) (k : Kind) (next : ℕ) : Type 0 where
  pub knows : entry_after d s q ≡ entry_after_kind k q.core next s
  pub sends : (c : ℕ) → (q.core == c) ≡ false → forward_sent d s q c ≡ forward_by_kind d k (who s c)
  pub known : KindFacts d k q.core next s
  pub asks : q.event ≡ event_by_kind k
  pub does : DoesByKind k (option_and_then (λ r. action_in r.form) (row_of d s q))
