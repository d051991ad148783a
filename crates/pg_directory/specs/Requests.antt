-- What a request that may come does: to what the directory knows, to the cores that it sends a forward, to those that it doesn't, and to the requestor.
use Rattle.std.specs.Prelude.{ℕ, ◌≡◌, ◌≢◌, ◌==◌, true, false, Option, Some, None}
use Rattle.std.specs.Option.{option_and_then}
use Rattle.pg_perm.specs.declared.kinds.Event.TheVariants.{Evict}
use Rattle.pg_perm.specs.declared.kinds.Who.TheVariants.{Other, Owner}
use Rattle.pg_perm.specs.declared.draft.Draft.{Draft}
use Rattle.pg_perm.specs.declared.draft.RowLine.{RowLine}
use Rattle.pg_perm.specs.declared.draft.TakeLine.{TakeLine}
use Rattle.pg_perm.specs.declared.draft.ReplyName.{ReplyName}
use Rattle.pg_perm.specs.declared.draft.ReplyName.TheVariants as reply
use Rattle.pg_perm.specs.declared.draft.Action.{Action}
use Rattle.pg_perm.specs.declared.draft.Action.TheVariants as action
use Rattle.pg_terms.specs.Terms.{is_write_owner, cache_is, take_row, lists}
use Rattle.pg_terms.specs.Due.{is_due}
use Rattle.pg_terms.specs.Rows.{allows, reply_to, action_in, final_state}
use Rattle.pg_directory.specs.DirEntries.{DirEntry, Request, who, row_of, entry_after}
use Rattle.pg_directory.specs.Sends.{forward_sent}
use Rattle.pg_directory.specs.Sound.{IsSound, fits}
use Rattle.pg_directory.specs.Kinds.{Kind, IsOfKind}

-- what the directory does with the request, where it has a row
abbrev pub action_of : Draft → DirEntry → Request → Option Action
action_of d s q = option_and_then (λ r. action_in r.form) (row_of d s q)

-- a reply that the requestor may get: memory's, or that of an owner in a state that the directory's state lists, or a count
abbrev pub IsReplyBy : Draft → ℕ → Option Action → ReplyName → Type 0
IsReplyBy d dir None name = ⊥
IsReplyBy d dir (Some (action.Reply m)) name = name ≡ reply.Reply m
IsReplyBy d dir (Some (action.Forward f)) name = (x m : ℕ) × (lists d dir x ≡ true) × (reply_to d x f ≡ Some m) × (name ≡ reply.Reply m)
IsReplyBy d dir (Some action.Count) name = name ≡ reply.AckCount

abbrev pub IsReply : Draft → DirEntry → Request → ReplyName → Type 0
IsReply d s q name = IsReplyBy d s.dir (action_of d s q) name

-- what is so of a request
pub record IsHandled (d : Draft) (n : ℕ) (s : DirEntry) (q : Request) : Type 0 where
  -- it is of a kind
  pub kind : (k : Kind) × (next : ℕ) × IsOfKind d s q k next
  -- what the directory knows stays sound
  pub sound : IsSound d n (entry_after d s q)
  -- it has a row, unless it is a stale evict
  pub row : (q.event ≡ Evict → who s q.core ≢ Other) → (r : RowLine) × (row_of d s q ≡ Some r)
  -- a core that it neither comes from nor sends a forward is to the directory what it was, and its state fits as it did
  pub untouched : (c : ℕ) → (q.core == c) ≡ false → forward_sent d s q c ≡ None
      → (who (entry_after d s q) c ≡ who s c) × ((x : ℕ) → fits d s c x ≡ true → fits d (entry_after d s q) c x ≡ true)
  -- a forward that it sends is due in each state that fits
  pub due : (c f x : ℕ) → forward_sent d s q c ≡ Some f → fits d s c x ≡ true → is_due d x f ≡ true
  -- and has a take row there; the next state fits afterwards, and may not write
  pub applies : (c f x : ℕ) → forward_sent d s q c ≡ Some f → fits d s c x ≡ true
      → (t : TakeLine) × (take_row d x f ≡ Some t) × (fits d (entry_after d s q) c t.next ≡ true) × (cache_is is_write_owner d t.next ≡ false)
  -- what it passes on goes to the owner, which is another core than the requestor
  pub passed : (f : ℕ) → action_of d s q ≡ Some (action.Forward f) → (o : ℕ) × (s.owner ≡ Some o) × ((q.core == o) ≡ false)
  -- memory answers only where there is no owner, and a count goes only to the owner
  pub memory : (m : ℕ) → action_of d s q ≡ Some (action.Reply m) → s.owner ≡ None
  pub counted : action_of d s q ≡ Some action.Count → who s q.core ≡ Owner
  -- a load or a store may get some reply
  pub replied : q.event ≢ Evict → (name : ReplyName) × IsReply d s q name
  -- with each reply that it may get it ends in a state that fits afterwards, where the state it asked in fits and lacks the permission
  pub granted : q.event ≢ Evict → (x : ℕ) (name : ReplyName) → fits d s q.core x ≡ true → cache_is (allows q.event) d x ≡ false → IsReply d s q name
      → (t : ℕ) × (final_state d x q.event name ≡ Some t) × (fits d (entry_after d s q) q.core t ≡ true) × (cache_is (allows q.event) d t ≡ true)
  -- an evict leaves nothing
  pub left : q.event ≡ Evict → who (entry_after d s q) q.core ≡ Other
  -- an evict of a core that holds nothing changes nothing
  pub stale : q.event ≡ Evict → who s q.core ≡ Other → entry_after d s q ≡ s
