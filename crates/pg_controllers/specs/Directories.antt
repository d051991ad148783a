-- What the acts of the directory controller do.
use Rattle.std.specs.Prelude.{ℕ, Bool, true, false, List, [], ◌∷◌, ◌++◌, map, length, Option, Some, None, unwrap_or}
use Rattle.pg_perm.specs.declared.kinds.Event.{Event}
use Rattle.pg_perm.specs.declared.kinds.Event.TheVariants as event
use Rattle.pg_perm.specs.declared.kinds.Who.{Who}
use Rattle.pg_perm.specs.declared.kinds.Who.TheVariants as role
use Rattle.pg_perm.specs.declared.kinds.Left.{Left}
use Rattle.pg_perm.specs.declared.kinds.ReqClass.TheVariants.{Read, Write}
use Rattle.pg_perm.specs.declared.kinds.FwdClass.TheVariants as class
use Rattle.pg_perm.specs.declared.draft.Draft.{Draft}
use Rattle.pg_terms.specs.Terms.{forward_of}
use Rattle.pg_directory.specs.DirEntries.{DirEntry, Request, without_core, left_of, who}
use Rattle.pg_table.specs.declared.directory.DirDesc.{DirDesc}
use Rattle.pg_table.specs.declared.directory.DirDesc.TheVariants.{State, Busy}
use Rattle.pg_table.specs.declared.directory.DirInput.{DirInput}
use Rattle.pg_table.specs.declared.directory.DirInput.TheVariants as met
use Rattle.pg_table.specs.declared.directory.DirAct.{DirAct}
use Rattle.pg_table.specs.declared.directory.DirAct.TheVariants as act
use Rattle.pg_messages.specs.declared.messages.Ordered.{Ordered}
use Rattle.pg_messages.specs.declared.messages.Ordered.TheVariants.{Forward, AckCount, PutAck}
use Rattle.pg_messages.specs.declared.messages.Reply.{Reply}
use Rattle.pg_messages.specs.declared.messages.Reply.TheVariants.{Data}

-- the directory controller of a block: its state, memory's word, the owner, the sharers, and the stamp of the last request
pub record Directory : Type 0 where
  pub desc : DirDesc
  pub memory : ℕ
  pub owner : Option ℕ
  pub sharers : List ℕ
  pub last : ℕ

-- the state of the protocol in which it is, or to which it goes once it has the data
abbrev pub dir_state_of : DirDesc → ℕ
dir_state_of (State n) = n
dir_state_of (Busy n) = n

-- it waits for the data of a share
abbrev pub is_busy : DirDesc → Bool
is_busy (State n) = false
is_busy (Busy n) = true

-- what it knows of the block
abbrev pub dir_entry_of : Directory → DirEntry
dir_entry_of h = record { dir = dir_state_of h.desc; owner = h.owner; sharers = h.sharers }

-- the input of the directory's table that a request is: by its event, by what its core is to the directory, and for an evict by who is left
abbrev pub evict_input : Who → Left → DirInput
evict_input role.Other l = met.EvictNone
evict_input w l = met.Evict w l

abbrev pub request_input : Event → Who → Left → DirInput
request_input event.Load w l = met.Ask Read w
request_input event.Store w l = met.Ask Write w
request_input event.Evict w l = evict_input w l

abbrev pub busy_input : Event → DirInput
busy_input event.Load = met.BusyAsk Read
busy_input event.Store = met.BusyAsk Write
busy_input event.Evict = met.BusyEvict

abbrev pub dir_input : DirDesc → DirEntry → Request → DirInput
dir_input (State n) s q = request_input q.event (who s q.core) (left_of (without_core q.core s.sharers))
dir_input (Busy n) s q = busy_input q.event

-- memory, how many invalidations were sent, and what was sent: in order, with the core to which it goes, and as replies
pub record Posted : Type 0 where
  pub memory : ℕ
  pub invs : ℕ
  pub posts : List (ℕ × Ordered)
  pub replies : List Reply

abbrev pub to_owner : Option ℕ → Ordered → List (ℕ × Ordered)
to_owner None m = []
to_owner (Some o) m = (o, m) ∷ []

-- what an act does, for a request of core c with stamp k and with the word that it brings; s is what was known before
abbrev pub do_dir_act : Draft → DirEntry → ℕ → ℕ → Option ℕ → DirAct → Posted → Posted
do_dir_act d s c k word (act.Reply r) p = record p { replies = p.replies ++ Data r c p.memory p.invs k ∷ [] }
do_dir_act d s c k word (act.Forward f) p = record p { posts = p.posts ++ to_owner s.owner (Forward f c p.invs k) }
do_dir_act d s c k word act.Inv p = record p { invs = length (without_core c s.sharers); posts = p.posts ++ map (λ x. (x, Forward (unwrap_or (forward_of d class.Inv) 0) c 0 k)) (without_core c s.sharers) }
do_dir_act d s c k word act.AckCount p = record p { posts = p.posts ++ (c, AckCount p.invs k) ∷ [] }
do_dir_act d s c k word act.Write p = record p { memory = unwrap_or word p.memory }
do_dir_act d s c k word act.PutAck p = record p { posts = p.posts ++ (c, PutAck k) ∷ [] }
do_dir_act d s c k word act.Stall p = p

abbrev pub do_dir_acts : Draft → DirEntry → ℕ → ℕ → Option ℕ → List DirAct → Posted → Posted
do_dir_acts d s c k word [] p = p
do_dir_acts d s c k word (x ∷ xs) p = do_dir_acts d s c k word xs (do_dir_act d s c k word x p)
