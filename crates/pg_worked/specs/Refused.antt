-- Worlds that are like those of worked runs but for one thing, and are not orderly.
use Rattle.std.specs.Prelude.{ℕ, [], ◌∷◌, Some, None}
use Rattle.pg_perm.specs.declared.kinds.Event.TheVariants as event
use Rattle.pg_perm.specs.declared.kinds.Op.TheVariants as op
use Rattle.pg_perm.specs.declared.draft.Draft.{Draft}
use Rattle.pg_samples.specs.Drafts.{mesi, mosi}
use Rattle.pg_table.specs.declared.cache.Desc.TheVariants.{Leave}
use Rattle.pg_table.specs.declared.directory.DirDesc.TheVariants.{State, Busy}
use Rattle.pg_messages.specs.declared.messages.Ordered.TheVariants.{Forward, AckCount}
use Rattle.pg_messages.specs.declared.messages.Reply.TheVariants.{Data, InvAck, WbData}
use Rattle.pg_messages.specs.declared.messages.WorldEvent.TheVariants.{Request, Ordered, Reply}
use Rattle.pg_controllers.specs.Worked.{dir_at, load_before_world, clean_evict_world}
use Rattle.pg_orderly.specs.Orderly.{IsOrderly}
use Rattle.pg_worked.specs.Marked.{MarkedWorld, mark, mark_of, after, met_by, asking, rests, busy_with, counting}
use Rattle.pg_worked.specs.Runs.{loading, loading_late, upgrading, told}

abbrev pub IsRefused : Draft → ℕ → MarkedWorld → Type 0
IsRefused d n x = IsOrderly d n x.world (mark_of x.marks) → ⊥

-- the data of core 2's load says that it has to wait for an acknowledgement
abbrev pub data_with_a_count : MarkedWorld
data_with_a_count = after load_before_world (Ordered 0) 12 4 2
    (met_by (AckCount 2 4 ∷ []) (upgrading 3) ∷ met_by (Forward 5 0 0 4 ∷ []) (rests 1 1 2) ∷ met_by (Forward 5 0 0 4 ∷ []) loading ∷ [])
    (Data 8 2 1 1 3 ∷ []) (dir_at (State 3) 0 (Some 0) [] 4)
    (mark 3 4 ∷ mark 2 2 ∷ mark 0 3 ∷ [])

-- core 1 has lost the invalidation that it has to answer
abbrev pub lost_invalidation : MarkedWorld
lost_invalidation = after load_before_world (Request 0) 11 4 2
    (met_by (Forward 6 2 0 3 ∷ AckCount 2 4 ∷ []) (upgrading 2) ∷ rests 1 1 2 ∷ met_by (Forward 5 0 0 4 ∷ []) loading ∷ [])
    [] (dir_at (State 3) 0 (Some 0) [] 4)
    (mark 2 4 ∷ mark 2 2 ∷ mark 0 3 ∷ [])

-- the two messages to core 0 have changed places
abbrev pub overtaking : MarkedWorld
overtaking = after load_before_world (Request 0) 11 4 2
    (met_by (AckCount 2 4 ∷ Forward 6 2 0 3 ∷ []) (upgrading 2) ∷ met_by (Forward 5 0 0 4 ∷ []) (rests 1 1 2) ∷ met_by (Forward 5 0 0 4 ∷ []) loading ∷ [])
    [] (dir_at (State 3) 0 (Some 0) [] 4)
    (mark 2 4 ∷ mark 2 2 ∷ mark 0 3 ∷ [])

-- an acknowledgement more is in flight than core 0 waits for
abbrev pub acknowledged_twice : MarkedWorld
acknowledged_twice = after load_before_world (Reply 1) 16 4 2
    (counting 2 1 [] (told 4) ∷ rests 0 1 4 ∷ loading_late 4 ∷ [])
    (Data 8 2 1 0 3 ∷ InvAck 0 4 ∷ InvAck 0 4 ∷ []) (dir_at (State 3) 0 (Some 0) [] 4)
    (mark 4 4 ∷ mark 4 2 ∷ mark 4 3 ∷ [])

-- the directory isn't busy though the share that it passed on stands in the queue of core 0
abbrev pub forgotten_share : MarkedWorld
forgotten_share = after clean_evict_world (Request 1) 6 2 1
    (met_by (Forward 6 1 0 2 ∷ []) (asking 3 event.Evict None (busy_with op.Evict (Leave 2) 0 1)) ∷ loading ∷ [])
    [] (dir_at (State 1) 0 None (0 ∷ 1 ∷ []) 2)
    (mark 1 1 ∷ mark 0 2 ∷ [])

-- the word is on its way to memory twice
abbrev pub written_back_twice : MarkedWorld
written_back_twice = after clean_evict_world (Ordered 0) 7 2 1
    (asking 3 event.Evict None (busy_with op.Evict (Leave 1) 0 2) ∷ loading ∷ [])
    (Data 8 1 0 0 2 ∷ WbData 0 2 ∷ WbData 0 2 ∷ []) (dir_at (Busy 1) 0 None (0 ∷ 1 ∷ []) 2)
    (mark 2 1 ∷ mark 0 2 ∷ [])

abbrev pub Refusals : Type 0
Refusals = IsRefused mosi 3 data_with_a_count × IsRefused mosi 3 lost_invalidation × IsRefused mosi 3 overtaking
    × IsRefused mosi 3 acknowledged_twice × IsRefused mesi 2 forgotten_share × IsRefused mesi 2 written_back_twice
