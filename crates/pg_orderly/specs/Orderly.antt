-- What holds of each world that is reached, in terms of the directory's order.
use Rattle.std.specs.Prelude.{ℕ, zero, suc, ◌+◌, ◌≡◌, ◌≢◌, ◌<◌, ◌≤◌, ◌⊎◌, ◌==◌, ◌&&◌, not, Bool, true, false, cond, List, [], ◌∷◌, length, filter, Option, Some, None, is_none, if◌then◌else◌}
use Rattle.pg_perm.specs.declared.kinds.Event.{Event}
use Rattle.pg_perm.specs.declared.kinds.Event.TheVariants as event
use Rattle.pg_perm.specs.declared.kinds.Op.{Op}
use Rattle.pg_perm.specs.declared.kinds.FwdClass.TheVariants.{Inv, Share}
use Rattle.pg_perm.specs.declared.draft.Draft.{Draft}
use Rattle.pg_perm.specs.declared.draft.Action.{Action}
use Rattle.pg_perm.specs.declared.draft.Action.TheVariants as action
use Rattle.pg_perm.specs.declared.draft.ReplyName.TheVariants as reply
use Rattle.pg_terms.specs.Terms.{out, cache_is, has_class}
use Rattle.pg_terms.specs.Rows.{allows}
use Rattle.pg_directory.specs.Sound.{fits}
use Rattle.pg_directory.specs.Requests.{IsReply, action_of}
use Rattle.pg_table.specs.declared.cache.Desc.{Desc}
use Rattle.pg_table.specs.declared.cache.Desc.TheVariants.{Stable, Ask, Leave}
use Rattle.pg_table.specs.declared.cache.Phase.{Phase}
use Rattle.pg_table.specs.declared.cache.Phase.TheVariants.{D, Ad, Ac, A}
use Rattle.pg_table.specs.declared.cache.Tag.{Tag}
use Rattle.pg_table.specs.declared.cache.Tag.TheVariants.{Plain, Kept}
use Rattle.pg_table.specs.Descriptors.{store_phase}
use Rattle.pg_table.specs.Choices.{tag_by}
use Rattle.pg_messages.specs.declared.messages.Ordered.{Ordered}
use Rattle.pg_messages.specs.declared.messages.Ordered.TheVariants.{Forward, AckCount, PutAck}
use Rattle.pg_order.specs.Messages.{sent_between, tally}
use Rattle.pg_order.specs.Orders.{DirOrder, IsDirOrder, acks_needed, passed_forward, entry_message}
use Rattle.pg_order.specs.Views.{View, is_unserved, IsWaiting, acks_owed}
use Rattle.pg_messages.specs.declared.messages.Ask.{Ask as SentRequest}
use Rattle.pg_messages.specs.declared.messages.Reply.{Reply}
use Rattle.pg_messages.specs.declared.messages.Reply.TheVariants.{Data, InvAck, WbData}
use Rattle.pg_controllers.specs.Networks.{Line, Core, event_of}
use Rattle.pg_controllers.specs.Directories.{is_busy, dir_entry_of}
use Rattle.pg_controllers.specs.Worlds.{World, core, order_of, is_stable}

-- the stamp up to which a core has caught up, and the stamp of its last entry
pub record Mark : Type 0 where
  pub seen : ℕ
  pub last : ℕ

abbrev pub is_pending : Core → Bool
is_pending x = not (is_stable x.line.desc) && is_none x.slot

abbrev pub view_of : World → (ℕ → Mark) → View
view_of w m = record { seen = λ c. (m c).seen; last = λ c. (m c).last; pending = λ c. is_pending (core w c) }

-- One core

-- entry j is core c's, or sends it something
abbrev pub Touches : Draft → DirOrder → ℕ → ℕ → Type 0
Touches d p c j = ((p.at j).core ≡ c) ⊎ ((m : Ordered) × (entry_message d p c j ≡ Some m))

-- an operation may begin so in this state
abbrev pub MayBegin : Draft → Event → ℕ → Phase → Type 0
MayBegin d event.Load s ph = (out d ≡ Some s) × (ph ≡ D)
MayBegin d event.Store s ph = (cache_is (allows event.Store) d s ≡ false) × (ph ≡ store_phase d s)
MayBegin d event.Evict s ph = ⊥

-- the tag once these forwards have come
abbrev pub tag_from : Draft → Tag → List Ordered → Option Tag
tag_from d t [] = Some t
tag_from d Plain (Forward f r n k ∷ ms) = tag_from d (tag_by d f) ms
tag_from d Kept (Forward f r n k ∷ ms) = if has_class Inv d f then None else tag_from d (tag_by d f) ms
tag_from d t (m ∷ ms) = None

-- those of them that wait to be answered
abbrev pub is_deferred : Draft → Ordered → Bool
is_deferred d (Forward f r n k) = not (has_class Inv d f)
is_deferred d (AckCount n k) = false
is_deferred d (PutAck k) = false

-- what the core has outstanding
abbrev pub HasPending : Line → Event → Type 0
HasPending l e = (o : Op) × (l.pending ≡ Some o) × (event_of o ≡ e)

-- nothing is known of acknowledgements, nothing is put off, and the state fits what the core is to the directory where it has caught up
pub record IsLevel (d : Draft) (p : DirOrder) (c : ℕ) (l : Line) (m : Mark) (s : ℕ) : Type 0 where
  pub need : l.need ≡ None
  pub deferred : l.deferred ≡ []
  pub state : fits d (p.dir_entry m.seen) c s ≡ true

-- its operation stands in the order, ahead of what it has seen
pub record IsOrdered (p : DirOrder) (m : Mark) (e : Event) : Type 0 where
  pub entry : ℕ
  pub last : m.last ≡ suc entry
  pub event : (p.at entry).event ≡ e

abbrev pub IsFirstPhase : Phase → Type 0
IsFirstPhase D = Unit {0}
IsFirstPhase Ad = Unit {0}
IsFirstPhase Ac = ⊥
IsFirstPhase A = ⊥

abbrev pub IsPhase : Draft → Event → ℕ → Phase → Type 0
IsPhase d e s A = (e ≡ event.Store) × (cache_is (allows event.Store) d s ≡ false)
IsPhase d e s ph = MayBegin d e s ph × IsFirstPhase ph

-- what is known of acknowledgements
abbrev pub IsNeed : Phase → ℕ → Line → Type 0
IsNeed A n l = (l.need ≡ Some n) × (l.got ≢ n)
IsNeed ph n l = l.need ≡ None

-- it has taken something of its own entry, or after it
pub record IsAhead (d : Draft) (p : DirOrder) (c : ℕ) (l : Line) (m : Mark) (e : Event) (s : ℕ) (ph : Phase) (t : Tag) : Type 0 where
  pub ordered : IsOrdered p m e
  pub past : ℕ
  pub upto : m.last + past ≡ m.seen
  pub state : fits d (p.dir_entry ordered.entry) c s ≡ true
  pub phase : IsPhase d e s ph
  pub tag : tag_from d Plain (sent_between (entry_message d p c) m.last past) ≡ Some t
  pub deferred : l.deferred ≡ filter (is_deferred d) (sent_between (entry_message d p c) m.last past)
  pub need : IsNeed ph (acks_needed (p.dir_entry ordered.entry) (p.at ordered.entry)) l

abbrev pub is_ahead : Phase → Tag → Bool
is_ahead A t = true
is_ahead ph Plain = false
is_ahead ph t = true

abbrev pub IsAsking : Draft → DirOrder → ℕ → Line → Mark → Event → ℕ → Phase → Tag → Bool → Type 0
IsAsking d p c l m e s ph t true = IsAhead d p c l m e s ph t
IsAsking d p c l m e s ph t false = IsLevel d p c l m s × MayBegin d e s ph × IsOrdered p m e × (m.seen < m.last)

abbrev pub IsLined : Draft → DirOrder → ℕ → Line → Mark → Desc → Option SentRequest → Type 0
IsLined d p c l m (Stable s) None = IsLevel d p c l m s × (l.pending ≡ None) × (m.last ≤ m.seen)
IsLined d p c l m (Stable s) (Some a) = ⊥
IsLined d p c l m (Ask e s ph t) None = HasPending l e × IsAsking d p c l m e s ph t (is_ahead ph t)
IsLined d p c l m (Ask e s ph t) (Some a) = HasPending l e × IsLevel d p c l m s × MayBegin d e s ph × (t ≡ Plain) × (a.event ≡ e) × (m.last ≤ m.seen)
IsLined d p c l m (Leave s) None = HasPending l event.Evict × IsLevel d p c l m s × IsOrdered p m event.Evict × (m.seen < m.last)
IsLined d p c l m (Leave s) (Some a) = HasPending l event.Evict × IsLevel d p c l m s × (a.event ≡ event.Evict) × (m.last ≤ m.seen)

-- where a core stands in the order: its last entry is its own, and so on; its queue is what the entries after its mark send it
pub record IsPlaced (d : Draft) (p : DirOrder) (c : ℕ) (x : Core) (m : Mark) : Type 0 where
  pub last_low : m.last ≤ p.top
  pub last_own : (j : ℕ) → m.last ≡ suc j → (p.at j).core ≡ c
  pub last_is : (j : ℕ) → j < p.top → (p.at j).core ≡ c → suc j ≤ m.last
  pub touched : (j : ℕ) → m.seen ≡ suc j → Touches d p c j
  pub gap : (j : ℕ) → suc j < m.last → (p.at j).core ≡ c → suc j ≤ m.seen
  pub rest : ℕ
  pub upto : m.seen + rest ≡ p.top
  pub queue : x.queue ≡ sent_between (entry_message d p c) m.seen rest
  pub line : IsLined d p c x.line m x.line.desc x.slot

-- Replies

abbrev pub is_data_to : ℕ → Reply → Bool
is_data_to c (Data r e v n k) = e == c
is_data_to c (InvAck e k) = false
is_data_to c (WbData v k) = false

abbrev pub is_ack_to : ℕ → Reply → Bool
is_ack_to c (Data r e v n k) = false
is_ack_to c (InvAck e k) = e == c
is_ack_to c (WbData v k) = false

abbrev pub is_write_back : Reply → Bool
is_write_back (Data r e v n k) = false
is_write_back (InvAck e k) = false
is_write_back (WbData v k) = true

-- data is what its core's last entry promised
abbrev pub IsPromised : Draft → DirOrder → (ℕ → ℕ) → ℕ → Reply → Type 0
IsPromised d p last cores (Data r c v n k) =
    (c < cores) × (k ≡ last c) × ((j : ℕ) × (k ≡ suc j) × IsReply d (p.dir_entry j) (p.at j) (reply.Reply r) × (n ≡ acks_needed (p.dir_entry j) (p.at j)))
IsPromised d p last cores (InvAck c k) = c < cores
IsPromised d p last cores (WbData v k) = Unit {0}

abbrev pub ArePromised : Draft → DirOrder → (ℕ → ℕ) → ℕ → List Reply → Type 0
ArePromised d p last cores [] = Unit {0}
ArePromised d p last cores (x ∷ xs) = IsPromised d p last cores x × ArePromised d p last cores xs

-- the operation has its data, or its count
abbrev pub is_granted : Desc → Bool
is_granted (Ask e s A t) = true
is_granted _ = false

abbrev pub is_storing : Desc → Bool
is_storing (Ask event.Store s ph t) = true
is_storing _ = false

-- an entry is answered by data
abbrev pub brings_data : Option Action → Bool
brings_data (Some (action.Reply m)) = true
brings_data (Some (action.Forward f)) = true
brings_data _ = false

-- data for a core is in flight exactly between service and grant
abbrev pub is_data_due : Draft → DirOrder → View → Core → ℕ → Bool
is_data_due d p v x zero = false
is_data_due d p v x (suc j) = is_pending x && not (is_granted x.line.desc) && brings_data (action_of d (p.dir_entry j) (p.at j)) && not (is_unserved d p v j)

-- each acknowledgement is got, in flight, or still owed
abbrev pub AddUp : DirOrder → View → Core → ℕ → ℕ → Type 0
AddUp p v x acks zero = ⊥
AddUp p v x acks (suc j) = acks_needed (p.dir_entry j) (p.at j) ≡ x.line.got + acks + acks_owed p v j

abbrev pub AcksAre : DirOrder → View → Core → ℕ → ℕ → Bool → Type 0
AcksAre p v x acks last true = AddUp p v x acks last
AcksAre p v x acks last false = (x.line.got ≡ 0) × (acks ≡ 0)

pub record IsAnswered (d : Draft) (p : DirOrder) (v : View) (c : ℕ) (x : Core) (replies : List Reply) : Type 0 where
  pub filled : tally (is_data_to c) replies ≡ cond (is_data_due d p v x (v.last c)) 1 0
  pub acks : AcksAre p v x (tally (is_ack_to c) replies) (v.last c) (is_pending x && is_storing x.line.desc)

-- the one share in progress is the last entry
abbrev pub is_share : Draft → Option ℕ → Bool
is_share d None = false
is_share d (Some f) = has_class Share d f

abbrev pub IsBusyAt : Draft → DirOrder → View → ℕ → ℕ → Type 0
IsBusyAt d p v wbs zero = ⊥
IsBusyAt d p v wbs (suc j) = (is_share d (passed_forward d (p.dir_entry j) (p.at j)) ≡ true) × (wbs ≡ cond (is_unserved d p v j) 0 1)

abbrev pub IsBusy : Draft → DirOrder → View → ℕ → Bool → Type 0
IsBusy d p v wbs true = IsBusyAt d p v wbs p.top
IsBusy d p v wbs false = wbs ≡ 0

-- All of it

pub record IsOrderly (d : Draft) (n : ℕ) (w : World) (m : ℕ → Mark) : Type 0 where
  pub cores : length w.cores ≡ n
  pub past : IsDirOrder d n (order_of d w)
  pub directory : dir_entry_of w.directory ≡ (order_of d w).dir_entry (order_of d w).top
  pub last : w.directory.last ≡ (order_of d w).top
  pub placed : (c : ℕ) → c < n → IsPlaced d (order_of d w) c (core w c) (m c)
  pub waiting : IsWaiting d (order_of d w) (view_of w m)
  pub ungranted : (j : ℕ) → j < (order_of d w).top → is_unserved d (order_of d w) (view_of w m) j ≡ true → is_granted (core w ((order_of d w).at j).core).line.desc ≡ false
  pub promised : ArePromised d (order_of d w) (λ c. (m c).last) n w.replies
  pub answered : (c : ℕ) → c < n → IsAnswered d (order_of d w) (view_of w m) c (core w c) w.replies
  pub busy : IsBusy d (order_of d w) (view_of w m) (tally is_write_back w.replies) (is_busy w.directory.desc)
  pub shares : (j f : ℕ) → j < (order_of d w).top → is_unserved d (order_of d w) (view_of w m) j ≡ true → passed_forward d ((order_of d w).dir_entry j) ((order_of d w).at j) ≡ Some f
      → has_class Share d f ≡ true → is_busy w.directory.desc ≡ true
