-- The states of the atomic machine of a block, and what a transaction, as one step, makes of them. There are no messages.
use Rattle.std.specs.Prelude.{ℕ, ◌+◌, ◌==◌, List, [], ◌∷◌, get_or, replicate, Option, Some, None, unwrap_or, if◌then◌else◌}
use Rattle.std.specs.Option.{option_map, option_map_or, option_and_then}
use Rattle.pg_perm.specs.declared.kinds.Event.{Event}
use Rattle.pg_perm.specs.declared.kinds.Event.TheVariants.{Load, Store, Evict}
use Rattle.pg_perm.specs.declared.draft.Draft.{Draft}
use Rattle.pg_perm.specs.declared.draft.ReplyName.{ReplyName}
use Rattle.pg_perm.specs.declared.draft.ReplyName.TheVariants as reply
use Rattle.pg_perm.specs.declared.draft.Action.{Action}
use Rattle.pg_perm.specs.declared.draft.Action.TheVariants as action
use Rattle.pg_terms.specs.Terms.{out, take_row, core_row}
use Rattle.pg_terms.specs.Rows.{store_next, reply_to, final_state}
use Rattle.pg_directory.specs.DirEntries.{DirEntry, Request, initial_entry, entry_after}
use Rattle.pg_directory.specs.Sends.{forward_sent}
use Rattle.pg_directory.specs.Requests.{action_of}

-- the stable state of each core, the directory's entry of the block, and the block's word
pub record State : Type 0 where
  pub states : List ℕ
  pub entry : DirEntry
  pub word : ℕ

-- the out state
abbrev pub out_state : Draft → ℕ
out_state d = unwrap_or (out d) 0

-- the state of a core
abbrev pub state_of : State → ℕ → ℕ
state_of a c = get_or a.states c 0

-- n cores hold nothing, the directory is idle, and the word is 0
abbrev pub initial_state : Draft → ℕ → State
initial_state d n = record { states = replicate n (out_state d); entry = initial_entry d; word = 0 }

-- where a forward leads a core in this state
abbrev pub take_next : Draft → ℕ → ℕ → ℕ
take_next d x f = option_map_or (λ t. t.next) (take_row d x f) x

-- where a request leads another core, which was in this state: it takes the forward that it is sent
abbrev pub next_by_forward : Draft → DirEntry → Request → ℕ → ℕ → ℕ
next_by_forward d s q c x = option_map_or (take_next d x) (forward_sent d s q c) x

-- the reply that the requestor gets: memory's, the owner's, or a count
abbrev pub reply_by : Draft → State → Option Action → Option ReplyName
reply_by d a None = None
reply_by d a (Some (action.Reply m)) = Some (reply.Reply m)
reply_by d a (Some (action.Forward f)) =
    option_map (λ m. reply.Reply m) (option_and_then (λ o. reply_to d (state_of a o) f) a.entry.owner)
reply_by d a (Some action.Count) = Some reply.AckCount

abbrev pub requestor_reply : Draft → State → Request → Option ReplyName
requestor_reply d a q = reply_by d a (action_of d a.entry q)

-- the state in which a load or a store ends, which began in this one
abbrev pub end_by_reply : Draft → ℕ → Event → Option ReplyName → ℕ
end_by_reply d x event got = unwrap_or (option_and_then (final_state d x event) got) x

-- the state in which the requestor ends: after an evict it is out
abbrev pub requestor_end : Draft → State → ℕ → Event → ℕ
requestor_end d a c Load = end_by_reply d (state_of a c) Load (requestor_reply d a (record { core = c; event = Load }))
requestor_end d a c Store = end_by_reply d (state_of a c) Store (requestor_reply d a (record { core = c; event = Store }))
requestor_end d a c Evict = out_state d

-- the state of each core, from its number, where the first has number i
abbrev pub each_from : (ℕ → ℕ → ℕ) → ℕ → List ℕ → List ℕ
each_from f i [] = []
each_from f i (x ∷ xs) = f i x ∷ each_from f (i + 1) xs

-- where a request leads a core, which was in this state
abbrev pub core_next : Draft → State → Request → ℕ → ℕ → ℕ
core_next d a q c x = if q.core == c then requestor_end d a q.core q.event else next_by_forward d a.entry q c x

-- a whole transaction: the requestor ends, each core that is sent a forward takes it, and the directory keeps its books
abbrev pub after_transaction : Draft → State → Request → State
after_transaction d a q = record { states = each_from (core_next d a q) 0 a.states; entry = entry_after d a.entry q; word = a.word }

-- where a store that hits leads a core in this state
abbrev pub hit_next : Draft → ℕ → ℕ
hit_next d x = unwrap_or (option_and_then (λ l. store_next x Store l.form) (core_row d x Store)) x
