-- The words of kinds, and the names that have a number.
use Rattle.std.specs.Prelude.{◌≡◌, ℕ, List, [], ◌∷◌, codes, Some, slice_get, unwrap_or, refl}
use Rattle.pg_perm.specs.declared.kinds.Role.{Role}
use Rattle.pg_perm.specs.declared.kinds.Role.TheVariants.{Out, Shared, Owner}
use Rattle.pg_perm.specs.declared.kinds.Perm.{Perm}
use Rattle.pg_perm.specs.declared.kinds.Perm.TheVariants as perm
use Rattle.pg_perm.specs.declared.kinds.ReqClass.{ReqClass}
use Rattle.pg_perm.specs.declared.kinds.ReqClass.TheVariants as asks
use Rattle.pg_perm.specs.declared.kinds.DirKind.{DirKind}
use Rattle.pg_perm.specs.declared.kinds.DirKind.TheVariants as knows
use Rattle.pg_perm.specs.declared.kinds.FwdClass.{FwdClass}
use Rattle.pg_perm.specs.declared.kinds.FwdClass.TheVariants as asked
use Rattle.pg_perm.specs.declared.kinds.Who.{Who}
use Rattle.pg_perm.specs.declared.kinds.Who.TheVariants as who
use Rattle.pg_perm.specs.declared.kinds.Left.{Left}
use Rattle.pg_perm.specs.declared.kinds.Left.TheVariants as left
use Rattle.pg_perm.specs.declared.kinds.Event.{Event}
use Rattle.pg_perm.specs.declared.kinds.Event.TheVariants.{Load, Store, Evict}
use Rattle.pg_perm.specs.declared.kinds.Mode.{Mode}
use Rattle.pg_perm.specs.declared.kinds.Mode.TheVariants as mode
use Rattle.pg_perm.specs.declared.draft.Draft.{Draft}
use Rattle.pg_perm.specs.Drafts.{cache_names, dir_names, message_names}

-- The words by which texts, tables and histories call the kinds: the values of each, the word of a value, and that each value is in the list

abbrev pub roles : List Role
roles = Out ∷ Shared ∷ Owner ∷ []

abbrev pub role_word : Role → List ℕ
role_word Out = codes "out"
role_word Shared = codes "shared"
role_word Owner = codes "owner"

pub roles_listed : (x : Role) → (n : ℕ) × (slice_get roles n ≡ Some x)
roles_listed Out = (0, refl)
roles_listed Shared = (1, refl)
roles_listed Owner = (2, refl)

abbrev pub perms : List Perm
perms = perm.None ∷ perm.Read ∷ perm.Write ∷ []

abbrev pub perm_word : Perm → List ℕ
perm_word perm.None = codes "none"
perm_word perm.Read = codes "read"
perm_word perm.Write = codes "write"

pub perms_listed : (x : Perm) → (n : ℕ) × (slice_get perms n ≡ Some x)
perms_listed perm.None = (0, refl)
perms_listed perm.Read = (1, refl)
perms_listed perm.Write = (2, refl)

abbrev pub dir_kinds : List DirKind
dir_kinds = knows.Idle ∷ knows.Shared ∷ knows.Owned ∷ knows.Mixed ∷ []

abbrev pub dir_word : DirKind → List ℕ
dir_word knows.Idle = codes "idle"
dir_word knows.Shared = codes "shared"
dir_word knows.Owned = codes "owned"
dir_word knows.Mixed = codes "mixed"

pub dir_kinds_listed : (x : DirKind) → (n : ℕ) × (slice_get dir_kinds n ≡ Some x)
dir_kinds_listed knows.Idle = (0, refl)
dir_kinds_listed knows.Shared = (1, refl)
dir_kinds_listed knows.Owned = (2, refl)
dir_kinds_listed knows.Mixed = (3, refl)

abbrev pub requests : List ReqClass
requests = asks.Read ∷ asks.Write ∷ asks.Clean ∷ asks.Dirty ∷ []

abbrev pub request_word : ReqClass → List ℕ
request_word asks.Read = codes "read"
request_word asks.Write = codes "write"
request_word asks.Clean = codes "clean"
request_word asks.Dirty = codes "dirty"

pub requests_listed : (x : ReqClass) → (n : ℕ) × (slice_get requests n ≡ Some x)
requests_listed asks.Read = (0, refl)
requests_listed asks.Write = (1, refl)
requests_listed asks.Clean = (2, refl)
requests_listed asks.Dirty = (3, refl)

abbrev pub forwards : List FwdClass
forwards = asked.Inv ∷ asked.Share ∷ asked.Keep ∷ asked.Drop ∷ []

abbrev pub forward_word : FwdClass → List ℕ
forward_word asked.Inv = codes "inv"
forward_word asked.Share = codes "share"
forward_word asked.Keep = codes "keep"
forward_word asked.Drop = codes "drop"

pub forwards_listed : (x : FwdClass) → (n : ℕ) × (slice_get forwards n ≡ Some x)
forwards_listed asked.Inv = (0, refl)
forwards_listed asked.Share = (1, refl)
forwards_listed asked.Keep = (2, refl)
forwards_listed asked.Drop = (3, refl)

abbrev pub events : List Event
events = Load ∷ Store ∷ Evict ∷ []

abbrev pub event_word : Event → List ℕ
event_word Load = codes "load"
event_word Store = codes "store"
event_word Evict = codes "evict"

pub events_listed : (x : Event) → (n : ℕ) × (slice_get events n ≡ Some x)
events_listed Load = (0, refl)
events_listed Store = (1, refl)
events_listed Evict = (2, refl)

abbrev pub senders : List Who
senders = who.Other ∷ who.Sharer ∷ who.Owner ∷ []

abbrev pub who_word : Who → List ℕ
who_word who.Other = codes "other"
who_word who.Sharer = codes "sharer"
who_word who.Owner = codes "owner"

pub senders_listed : (x : Who) → (n : ℕ) × (slice_get senders n ≡ Some x)
senders_listed who.Other = (0, refl)
senders_listed who.Sharer = (1, refl)
senders_listed who.Owner = (2, refl)

abbrev pub lefts : List Left
lefts = left.Last ∷ left.More ∷ []

abbrev pub left_word : Left → List ℕ
left_word left.Last = codes "last"
left_word left.More = codes "more"

pub lefts_listed : (x : Left) → (n : ℕ) × (slice_get lefts n ≡ Some x)
lefts_listed left.Last = (0, refl)
lefts_listed left.More = (1, refl)

abbrev pub modes : List Mode
modes = mode.Stall ∷ mode.Defer ∷ []

abbrev pub mode_word : Mode → List ℕ
mode_word mode.Stall = codes "stall"
mode_word mode.Defer = codes "defer"

pub modes_listed : (x : Mode) → (n : ℕ) × (slice_get modes n ≡ Some x)
modes_listed mode.Stall = (0, refl)
modes_listed mode.Defer = (1, refl)

-- who may evict
abbrev pub holders : List Who
holders = who.Sharer ∷ who.Owner ∷ []

-- The names by number

-- the name with this number; a number past the last has no name
abbrev pub name_of : List (List ℕ) → ℕ → List ℕ
name_of names n = unwrap_or (slice_get names n) []

-- the name of a cache state
abbrev pub cache_name : Draft → ℕ → List ℕ
cache_name d n = name_of (cache_names d) n

-- the name of a directory state
abbrev pub dir_name : Draft → ℕ → List ℕ
dir_name d n = name_of (dir_names d) n

-- the name of a request, a forward or a reply
abbrev pub message_name : Draft → ℕ → List ℕ
message_name d n = name_of (message_names d) n
