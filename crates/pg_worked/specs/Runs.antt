-- Worked runs: the world after each event, and how far each core has caught up there.
use Rattle.std.specs.Prelude.{ℕ, [], ◌∷◌, List, Some, None}
use Rattle.pg_perm.specs.declared.kinds.Event.TheVariants as event
use Rattle.pg_perm.specs.declared.kinds.Mode.TheVariants.{Stall, Defer}
use Rattle.pg_perm.specs.declared.kinds.Op.{Op}
use Rattle.pg_perm.specs.declared.kinds.Op.TheVariants as op
use Rattle.pg_samples.specs.Drafts.{msi, mesi, mosi}
use Rattle.pg_table.specs.declared.cache.Desc.TheVariants.{Ask, Leave}
use Rattle.pg_table.specs.declared.cache.Phase.TheVariants.{D, Ad, Ac, A}
use Rattle.pg_table.specs.declared.cache.Tag.TheVariants.{Plain, Kept, Gone}
use Rattle.pg_table.specs.declared.directory.DirDesc.TheVariants.{State, Busy}
use Rattle.pg_messages.specs.declared.messages.Ordered.TheVariants.{Forward, AckCount, PutAck}
use Rattle.pg_messages.specs.declared.messages.Reply.TheVariants.{Data, InvAck, WbData}
use Rattle.pg_messages.specs.declared.messages.WorldEvent.TheVariants.{Issue, Request, Ordered, Reply}
use Rattle.pg_controllers.specs.Networks.{Core}
use Rattle.pg_controllers.specs.Worked.{dir_at, load_and_store, owner_stores, clean_evict, late_load_world, load_before_world, load_behind_world, clean_evict_world, stale_evict_world}
use Rattle.pg_worked.specs.Marked.{MarkedWorld, mark, after, IsOrderlyRun, to_do, still, met_by, asking, rests, busy_with, counting}

-- a load of which nothing has come, and one whose copy was taken away before it came
abbrev pub loading : Core
loading = busy_with op.Load (Ask event.Load 0 D Plain) 0 0

abbrev pub loading_late : ℕ → Core
loading_late k = busy_with op.Load (Ask event.Load 0 D Gone) 0 k

-- a store of a core that holds nothing, of which nothing has come
abbrev pub storing : ℕ → Core
storing v = busy_with (op.Store v) (Ask event.Store 0 Ad Plain) 0 0

-- the second store of the owner: before it is told the count, once it is told, and once a load was put off
abbrev pub upgrading : ℕ → Core
upgrading k = busy_with (op.Store 2) (Ask event.Store 2 Ac Plain) 1 k

abbrev pub told : ℕ → Core
told k = busy_with (op.Store 2) (Ask event.Store 2 A Plain) 1 k

abbrev pub told_kept : ℕ → Core
told_kept k = busy_with (op.Store 2) (Ask event.Store 2 A Kept) 1 k

-- MSI: core 0's load meets the invalidation of core 1's store before its data, and is late
abbrev pub late_load : List MarkedWorld
late_load =
    after late_load_world (Issue 0) 1 0 0
    (asking 0 event.Load None loading ∷ to_do (op.Store 7 ∷ []) ∷ [])
    [] (dir_at (State 0) 0 None [] 0)
    (mark 0 0 ∷ mark 0 0 ∷ [])
    ∷ after late_load_world (Issue 1) 2 0 0
    (asking 0 event.Load None loading ∷ asking 1 event.Store None (storing 7) ∷ [])
    [] (dir_at (State 0) 0 None [] 0)
    (mark 0 0 ∷ mark 0 0 ∷ [])
    ∷ after late_load_world (Request 0) 3 1 0
    (loading ∷ asking 1 event.Store None (storing 7) ∷ [])
    (Data 7 0 0 0 1 ∷ []) (dir_at (State 1) 0 None (0 ∷ []) 1)
    (mark 0 1 ∷ mark 0 0 ∷ [])
    ∷ after late_load_world (Request 1) 4 2 0
    (met_by (Forward 4 1 0 2 ∷ []) loading ∷ storing 7 ∷ [])
    (Data 7 0 0 0 1 ∷ Data 7 1 0 1 2 ∷ []) (dir_at (State 2) 0 (Some 1) [] 2)
    (mark 0 1 ∷ mark 0 2 ∷ [])
    ∷ after late_load_world (Ordered 0) 5 2 0
    (loading_late 2 ∷ storing 7 ∷ [])
    (Data 7 0 0 0 1 ∷ Data 7 1 0 1 2 ∷ InvAck 1 2 ∷ []) (dir_at (State 2) 0 (Some 1) [] 2)
    (mark 2 1 ∷ mark 0 2 ∷ [])
    ∷ after late_load_world (Reply 1) 6 2 0
    (loading_late 2 ∷ counting 1 0 [] (busy_with (op.Store 7) (Ask event.Store 0 A Plain) 0 2) ∷ [])
    (Data 7 0 0 0 1 ∷ InvAck 1 2 ∷ []) (dir_at (State 2) 0 (Some 1) [] 2)
    (mark 2 1 ∷ mark 2 2 ∷ [])
    ∷ after late_load_world (Reply 1) 7 2 1
    (loading_late 2 ∷ rests 2 7 2 ∷ [])
    (Data 7 0 0 0 1 ∷ []) (dir_at (State 2) 0 (Some 1) [] 2)
    (mark 2 1 ∷ mark 2 2 ∷ [])
    ∷ after late_load_world (Reply 0) 8 2 2
    (rests 0 0 1 ∷ rests 2 7 2 ∷ [])
    [] (dir_at (State 2) 0 (Some 1) [] 2)
    (mark 2 1 ∷ mark 2 2 ∷ [])
    ∷ []

abbrev pub LateLoad : Type 0
LateLoad = IsOrderlyRun msi Defer load_and_store late_load

-- MOSI: core 2's load is ordered before the second store of the owner, which may only read
abbrev pub load_before : List MarkedWorld
load_before =
    after load_before_world (Issue 0) 1 0 0
    (still (op.Store 2 ∷ []) (asking 1 event.Store None (storing 1)) ∷ to_do (op.Load ∷ []) ∷ to_do (op.Load ∷ []) ∷ [])
    [] (dir_at (State 0) 0 None [] 0)
    (mark 0 0 ∷ mark 0 0 ∷ mark 0 0 ∷ [])
    ∷ after load_before_world (Request 0) 2 1 0
    (still (op.Store 2 ∷ []) (storing 1) ∷ to_do (op.Load ∷ []) ∷ to_do (op.Load ∷ []) ∷ [])
    (Data 8 0 0 0 1 ∷ []) (dir_at (State 3) 0 (Some 0) [] 1)
    (mark 0 1 ∷ mark 0 0 ∷ mark 0 0 ∷ [])
    ∷ after load_before_world (Reply 0) 3 1 1
    (still (op.Store 2 ∷ []) (rests 3 1 1) ∷ to_do (op.Load ∷ []) ∷ to_do (op.Load ∷ []) ∷ [])
    [] (dir_at (State 3) 0 (Some 0) [] 1)
    (mark 1 1 ∷ mark 0 0 ∷ mark 0 0 ∷ [])
    ∷ after load_before_world (Issue 1) 4 1 1
    (still (op.Store 2 ∷ []) (rests 3 1 1) ∷ asking 0 event.Load None loading ∷ to_do (op.Load ∷ []) ∷ [])
    [] (dir_at (State 3) 0 (Some 0) [] 1)
    (mark 1 1 ∷ mark 0 0 ∷ mark 0 0 ∷ [])
    ∷ after load_before_world (Request 1) 5 2 1
    (met_by (Forward 6 1 0 2 ∷ []) (still (op.Store 2 ∷ []) (rests 3 1 1)) ∷ loading ∷ to_do (op.Load ∷ []) ∷ [])
    [] (dir_at (State 2) 0 (Some 0) (1 ∷ []) 2)
    (mark 1 1 ∷ mark 0 2 ∷ mark 0 0 ∷ [])
    ∷ after load_before_world (Ordered 0) 6 2 1
    (still (op.Store 2 ∷ []) (rests 2 1 2) ∷ loading ∷ to_do (op.Load ∷ []) ∷ [])
    (Data 8 1 1 0 2 ∷ []) (dir_at (State 2) 0 (Some 0) (1 ∷ []) 2)
    (mark 2 1 ∷ mark 0 2 ∷ mark 0 0 ∷ [])
    ∷ after load_before_world (Reply 0) 7 2 2
    (still (op.Store 2 ∷ []) (rests 2 1 2) ∷ rests 1 1 2 ∷ to_do (op.Load ∷ []) ∷ [])
    [] (dir_at (State 2) 0 (Some 0) (1 ∷ []) 2)
    (mark 2 1 ∷ mark 2 2 ∷ mark 0 0 ∷ [])
    ∷ after load_before_world (Issue 0) 8 2 2
    (asking 1 event.Store None (upgrading 2) ∷ rests 1 1 2 ∷ to_do (op.Load ∷ []) ∷ [])
    [] (dir_at (State 2) 0 (Some 0) (1 ∷ []) 2)
    (mark 2 1 ∷ mark 2 2 ∷ mark 0 0 ∷ [])
    ∷ after load_before_world (Issue 2) 9 2 2
    (asking 1 event.Store None (upgrading 2) ∷ rests 1 1 2 ∷ asking 0 event.Load None loading ∷ [])
    [] (dir_at (State 2) 0 (Some 0) (1 ∷ []) 2)
    (mark 2 1 ∷ mark 2 2 ∷ mark 0 0 ∷ [])
    ∷ after load_before_world (Request 2) 10 3 2
    (met_by (Forward 6 2 0 3 ∷ []) (asking 1 event.Store None (upgrading 2)) ∷ rests 1 1 2 ∷ loading ∷ [])
    [] (dir_at (State 2) 0 (Some 0) (1 ∷ 2 ∷ []) 3)
    (mark 2 1 ∷ mark 2 2 ∷ mark 0 3 ∷ [])
    ∷ after load_before_world (Request 0) 11 4 2
    (met_by (Forward 6 2 0 3 ∷ AckCount 2 4 ∷ []) (upgrading 2) ∷ met_by (Forward 5 0 0 4 ∷ []) (rests 1 1 2) ∷ met_by (Forward 5 0 0 4 ∷ []) loading ∷ [])
    [] (dir_at (State 3) 0 (Some 0) [] 4)
    (mark 2 4 ∷ mark 2 2 ∷ mark 0 3 ∷ [])
    ∷ after load_before_world (Ordered 0) 12 4 2
    (met_by (AckCount 2 4 ∷ []) (upgrading 3) ∷ met_by (Forward 5 0 0 4 ∷ []) (rests 1 1 2) ∷ met_by (Forward 5 0 0 4 ∷ []) loading ∷ [])
    (Data 8 2 1 0 3 ∷ []) (dir_at (State 3) 0 (Some 0) [] 4)
    (mark 3 4 ∷ mark 2 2 ∷ mark 0 3 ∷ [])
    ∷ after load_before_world (Ordered 0) 13 4 2
    (counting 2 0 [] (told 4) ∷ met_by (Forward 5 0 0 4 ∷ []) (rests 1 1 2) ∷ met_by (Forward 5 0 0 4 ∷ []) loading ∷ [])
    (Data 8 2 1 0 3 ∷ []) (dir_at (State 3) 0 (Some 0) [] 4)
    (mark 4 4 ∷ mark 2 2 ∷ mark 0 3 ∷ [])
    ∷ after load_before_world (Ordered 1) 14 4 2
    (counting 2 0 [] (told 4) ∷ rests 0 1 4 ∷ met_by (Forward 5 0 0 4 ∷ []) loading ∷ [])
    (Data 8 2 1 0 3 ∷ InvAck 0 4 ∷ []) (dir_at (State 3) 0 (Some 0) [] 4)
    (mark 4 4 ∷ mark 4 2 ∷ mark 0 3 ∷ [])
    ∷ after load_before_world (Ordered 2) 15 4 2
    (counting 2 0 [] (told 4) ∷ rests 0 1 4 ∷ loading_late 4 ∷ [])
    (Data 8 2 1 0 3 ∷ InvAck 0 4 ∷ InvAck 0 4 ∷ []) (dir_at (State 3) 0 (Some 0) [] 4)
    (mark 4 4 ∷ mark 4 2 ∷ mark 4 3 ∷ [])
    ∷ after load_before_world (Reply 1) 16 4 2
    (counting 2 1 [] (told 4) ∷ rests 0 1 4 ∷ loading_late 4 ∷ [])
    (Data 8 2 1 0 3 ∷ InvAck 0 4 ∷ []) (dir_at (State 3) 0 (Some 0) [] 4)
    (mark 4 4 ∷ mark 4 2 ∷ mark 4 3 ∷ [])
    ∷ after load_before_world (Reply 1) 17 4 3
    (rests 3 2 4 ∷ rests 0 1 4 ∷ loading_late 4 ∷ [])
    (Data 8 2 1 0 3 ∷ []) (dir_at (State 3) 0 (Some 0) [] 4)
    (mark 4 4 ∷ mark 4 2 ∷ mark 4 3 ∷ [])
    ∷ after load_before_world (Reply 0) 18 4 4
    (rests 3 2 4 ∷ rests 0 1 4 ∷ rests 0 1 3 ∷ [])
    [] (dir_at (State 3) 0 (Some 0) [] 4)
    (mark 4 4 ∷ mark 4 2 ∷ mark 4 3 ∷ [])
    ∷ []

abbrev pub LoadBefore : Type 0
LoadBefore = IsOrderlyRun mosi Defer owner_stores load_before

-- MOSI: core 2's load is ordered after that store, and its forward is put off
abbrev pub load_behind : List MarkedWorld
load_behind =
    after load_behind_world (Issue 0) 1 0 0
    (still (op.Store 2 ∷ []) (asking 1 event.Store None (storing 1)) ∷ to_do (op.Load ∷ []) ∷ to_do (op.Load ∷ []) ∷ [])
    [] (dir_at (State 0) 0 None [] 0)
    (mark 0 0 ∷ mark 0 0 ∷ mark 0 0 ∷ [])
    ∷ after load_behind_world (Request 0) 2 1 0
    (still (op.Store 2 ∷ []) (storing 1) ∷ to_do (op.Load ∷ []) ∷ to_do (op.Load ∷ []) ∷ [])
    (Data 8 0 0 0 1 ∷ []) (dir_at (State 3) 0 (Some 0) [] 1)
    (mark 0 1 ∷ mark 0 0 ∷ mark 0 0 ∷ [])
    ∷ after load_behind_world (Reply 0) 3 1 1
    (still (op.Store 2 ∷ []) (rests 3 1 1) ∷ to_do (op.Load ∷ []) ∷ to_do (op.Load ∷ []) ∷ [])
    [] (dir_at (State 3) 0 (Some 0) [] 1)
    (mark 1 1 ∷ mark 0 0 ∷ mark 0 0 ∷ [])
    ∷ after load_behind_world (Issue 1) 4 1 1
    (still (op.Store 2 ∷ []) (rests 3 1 1) ∷ asking 0 event.Load None loading ∷ to_do (op.Load ∷ []) ∷ [])
    [] (dir_at (State 3) 0 (Some 0) [] 1)
    (mark 1 1 ∷ mark 0 0 ∷ mark 0 0 ∷ [])
    ∷ after load_behind_world (Request 1) 5 2 1
    (met_by (Forward 6 1 0 2 ∷ []) (still (op.Store 2 ∷ []) (rests 3 1 1)) ∷ loading ∷ to_do (op.Load ∷ []) ∷ [])
    [] (dir_at (State 2) 0 (Some 0) (1 ∷ []) 2)
    (mark 1 1 ∷ mark 0 2 ∷ mark 0 0 ∷ [])
    ∷ after load_behind_world (Ordered 0) 6 2 1
    (still (op.Store 2 ∷ []) (rests 2 1 2) ∷ loading ∷ to_do (op.Load ∷ []) ∷ [])
    (Data 8 1 1 0 2 ∷ []) (dir_at (State 2) 0 (Some 0) (1 ∷ []) 2)
    (mark 2 1 ∷ mark 0 2 ∷ mark 0 0 ∷ [])
    ∷ after load_behind_world (Reply 0) 7 2 2
    (still (op.Store 2 ∷ []) (rests 2 1 2) ∷ rests 1 1 2 ∷ to_do (op.Load ∷ []) ∷ [])
    [] (dir_at (State 2) 0 (Some 0) (1 ∷ []) 2)
    (mark 2 1 ∷ mark 2 2 ∷ mark 0 0 ∷ [])
    ∷ after load_behind_world (Issue 0) 8 2 2
    (asking 1 event.Store None (upgrading 2) ∷ rests 1 1 2 ∷ to_do (op.Load ∷ []) ∷ [])
    [] (dir_at (State 2) 0 (Some 0) (1 ∷ []) 2)
    (mark 2 1 ∷ mark 2 2 ∷ mark 0 0 ∷ [])
    ∷ after load_behind_world (Request 0) 9 3 2
    (met_by (AckCount 1 3 ∷ []) (upgrading 2) ∷ met_by (Forward 5 0 0 3 ∷ []) (rests 1 1 2) ∷ to_do (op.Load ∷ []) ∷ [])
    [] (dir_at (State 3) 0 (Some 0) [] 3)
    (mark 2 3 ∷ mark 2 2 ∷ mark 0 0 ∷ [])
    ∷ after load_behind_world (Issue 2) 10 3 2
    (met_by (AckCount 1 3 ∷ []) (upgrading 2) ∷ met_by (Forward 5 0 0 3 ∷ []) (rests 1 1 2) ∷ asking 0 event.Load None loading ∷ [])
    [] (dir_at (State 3) 0 (Some 0) [] 3)
    (mark 2 3 ∷ mark 2 2 ∷ mark 0 0 ∷ [])
    ∷ after load_behind_world (Request 2) 11 4 2
    (met_by (AckCount 1 3 ∷ Forward 6 2 0 4 ∷ []) (upgrading 2) ∷ met_by (Forward 5 0 0 3 ∷ []) (rests 1 1 2) ∷ loading ∷ [])
    [] (dir_at (State 2) 0 (Some 0) (2 ∷ []) 4)
    (mark 2 3 ∷ mark 2 2 ∷ mark 0 4 ∷ [])
    ∷ after load_behind_world (Ordered 0) 12 4 2
    (met_by (Forward 6 2 0 4 ∷ []) (counting 1 0 [] (told 3)) ∷ met_by (Forward 5 0 0 3 ∷ []) (rests 1 1 2) ∷ loading ∷ [])
    [] (dir_at (State 2) 0 (Some 0) (2 ∷ []) 4)
    (mark 3 3 ∷ mark 2 2 ∷ mark 0 4 ∷ [])
    ∷ after load_behind_world (Ordered 0) 13 4 2
    (counting 1 0 (Forward 6 2 0 4 ∷ []) (told_kept 3) ∷ met_by (Forward 5 0 0 3 ∷ []) (rests 1 1 2) ∷ loading ∷ [])
    [] (dir_at (State 2) 0 (Some 0) (2 ∷ []) 4)
    (mark 4 3 ∷ mark 2 2 ∷ mark 0 4 ∷ [])
    ∷ after load_behind_world (Ordered 1) 14 4 2
    (counting 1 0 (Forward 6 2 0 4 ∷ []) (told_kept 3) ∷ rests 0 1 3 ∷ loading ∷ [])
    (InvAck 0 3 ∷ []) (dir_at (State 2) 0 (Some 0) (2 ∷ []) 4)
    (mark 4 3 ∷ mark 3 2 ∷ mark 0 4 ∷ [])
    ∷ after load_behind_world (Reply 0) 15 4 3
    (rests 2 2 4 ∷ rests 0 1 3 ∷ loading ∷ [])
    (Data 8 2 2 0 4 ∷ []) (dir_at (State 2) 0 (Some 0) (2 ∷ []) 4)
    (mark 4 3 ∷ mark 3 2 ∷ mark 0 4 ∷ [])
    ∷ after load_behind_world (Reply 0) 16 4 4
    (rests 2 2 4 ∷ rests 0 1 3 ∷ rests 1 2 4 ∷ [])
    [] (dir_at (State 2) 0 (Some 0) (2 ∷ []) 4)
    (mark 4 3 ∷ mark 3 2 ∷ mark 4 4 ∷ [])
    ∷ []

abbrev pub LoadBehind : Type 0
LoadBehind = IsOrderlyRun mosi Defer owner_stores load_behind

-- MESI: an owner that leaves gives its word to core 1, and its evict waits while the directory is busy
abbrev pub evict_after_share : List MarkedWorld
evict_after_share =
    after clean_evict_world (Issue 0) 1 0 0
    (still (op.Evict ∷ []) (asking 0 event.Load None loading) ∷ to_do (op.Load ∷ []) ∷ [])
    [] (dir_at (State 0) 0 None [] 0)
    (mark 0 0 ∷ mark 0 0 ∷ [])
    ∷ after clean_evict_world (Request 0) 2 1 0
    (still (op.Evict ∷ []) loading ∷ to_do (op.Load ∷ []) ∷ [])
    (Data 9 0 0 0 1 ∷ []) (dir_at (State 2) 0 (Some 0) [] 1)
    (mark 0 1 ∷ mark 0 0 ∷ [])
    ∷ after clean_evict_world (Reply 0) 3 1 1
    (still (op.Evict ∷ []) (rests 2 0 1) ∷ to_do (op.Load ∷ []) ∷ [])
    [] (dir_at (State 2) 0 (Some 0) [] 1)
    (mark 1 1 ∷ mark 0 0 ∷ [])
    ∷ after clean_evict_world (Issue 0) 4 1 1
    (asking 3 event.Evict None (busy_with op.Evict (Leave 2) 0 1) ∷ to_do (op.Load ∷ []) ∷ [])
    [] (dir_at (State 2) 0 (Some 0) [] 1)
    (mark 1 1 ∷ mark 0 0 ∷ [])
    ∷ after clean_evict_world (Issue 1) 5 1 1
    (asking 3 event.Evict None (busy_with op.Evict (Leave 2) 0 1) ∷ asking 0 event.Load None loading ∷ [])
    [] (dir_at (State 2) 0 (Some 0) [] 1)
    (mark 1 1 ∷ mark 0 0 ∷ [])
    ∷ after clean_evict_world (Request 1) 6 2 1
    (met_by (Forward 6 1 0 2 ∷ []) (asking 3 event.Evict None (busy_with op.Evict (Leave 2) 0 1)) ∷ loading ∷ [])
    [] (dir_at (Busy 1) 0 None (0 ∷ 1 ∷ []) 2)
    (mark 1 1 ∷ mark 0 2 ∷ [])
    ∷ after clean_evict_world (Ordered 0) 7 2 1
    (asking 3 event.Evict None (busy_with op.Evict (Leave 1) 0 2) ∷ loading ∷ [])
    (Data 8 1 0 0 2 ∷ WbData 0 2 ∷ []) (dir_at (Busy 1) 0 None (0 ∷ 1 ∷ []) 2)
    (mark 2 1 ∷ mark 0 2 ∷ [])
    ∷ after clean_evict_world (Reply 1) 8 2 1
    (asking 3 event.Evict None (busy_with op.Evict (Leave 1) 0 2) ∷ loading ∷ [])
    (Data 8 1 0 0 2 ∷ []) (dir_at (State 1) 0 None (0 ∷ 1 ∷ []) 2)
    (mark 2 1 ∷ mark 0 2 ∷ [])
    ∷ after clean_evict_world (Request 0) 9 3 1
    (met_by (PutAck 3 ∷ []) (busy_with op.Evict (Leave 1) 0 2) ∷ loading ∷ [])
    (Data 8 1 0 0 2 ∷ []) (dir_at (State 1) 0 None (1 ∷ []) 3)
    (mark 2 3 ∷ mark 0 2 ∷ [])
    ∷ after clean_evict_world (Ordered 0) 10 3 1
    (rests 0 0 2 ∷ loading ∷ [])
    (Data 8 1 0 0 2 ∷ []) (dir_at (State 1) 0 None (1 ∷ []) 3)
    (mark 3 3 ∷ mark 0 2 ∷ [])
    ∷ after clean_evict_world (Reply 0) 11 3 2
    (rests 0 0 2 ∷ rests 1 0 2 ∷ [])
    [] (dir_at (State 1) 0 None (1 ∷ []) 3)
    (mark 3 3 ∷ mark 2 2 ∷ [])
    ∷ []

abbrev pub EvictAfterShare : Type 0
EvictAfterShare = IsOrderlyRun mesi Stall clean_evict evict_after_share

abbrev pub two_stores : List (List Op)
two_stores = (op.Store 5 ∷ op.Evict ∷ []) ∷ (op.Store 6 ∷ []) ∷ []

-- MSI: a dirty evict is stale, since core 1's store was ordered before it
abbrev pub stale_evict : List MarkedWorld
stale_evict =
    after stale_evict_world (Issue 0) 1 0 0
    (still (op.Evict ∷ []) (asking 1 event.Store None (storing 5)) ∷ to_do (op.Store 6 ∷ []) ∷ [])
    [] (dir_at (State 0) 0 None [] 0)
    (mark 0 0 ∷ mark 0 0 ∷ [])
    ∷ after stale_evict_world (Request 0) 2 1 0
    (still (op.Evict ∷ []) (storing 5) ∷ to_do (op.Store 6 ∷ []) ∷ [])
    (Data 7 0 0 0 1 ∷ []) (dir_at (State 2) 0 (Some 0) [] 1)
    (mark 0 1 ∷ mark 0 0 ∷ [])
    ∷ after stale_evict_world (Reply 0) 3 1 1
    (still (op.Evict ∷ []) (rests 2 5 1) ∷ to_do (op.Store 6 ∷ []) ∷ [])
    [] (dir_at (State 2) 0 (Some 0) [] 1)
    (mark 1 1 ∷ mark 0 0 ∷ [])
    ∷ after stale_evict_world (Issue 0) 4 1 1
    (asking 3 event.Evict (Some 5) (busy_with op.Evict (Leave 2) 5 1) ∷ to_do (op.Store 6 ∷ []) ∷ [])
    [] (dir_at (State 2) 0 (Some 0) [] 1)
    (mark 1 1 ∷ mark 0 0 ∷ [])
    ∷ after stale_evict_world (Issue 1) 5 1 1
    (asking 3 event.Evict (Some 5) (busy_with op.Evict (Leave 2) 5 1) ∷ asking 1 event.Store None (storing 6) ∷ [])
    [] (dir_at (State 2) 0 (Some 0) [] 1)
    (mark 1 1 ∷ mark 0 0 ∷ [])
    ∷ after stale_evict_world (Request 1) 6 2 1
    (met_by (Forward 6 1 0 2 ∷ []) (asking 3 event.Evict (Some 5) (busy_with op.Evict (Leave 2) 5 1)) ∷ storing 6 ∷ [])
    [] (dir_at (State 2) 0 (Some 1) [] 2)
    (mark 1 1 ∷ mark 0 2 ∷ [])
    ∷ after stale_evict_world (Ordered 0) 7 2 1
    (asking 3 event.Evict (Some 5) (busy_with op.Evict (Leave 0) 5 2) ∷ storing 6 ∷ [])
    (Data 7 1 5 0 2 ∷ []) (dir_at (State 2) 0 (Some 1) [] 2)
    (mark 2 1 ∷ mark 0 2 ∷ [])
    ∷ after stale_evict_world (Request 0) 8 3 1
    (met_by (PutAck 3 ∷ []) (busy_with op.Evict (Leave 0) 5 2) ∷ storing 6 ∷ [])
    (Data 7 1 5 0 2 ∷ []) (dir_at (State 2) 0 (Some 1) [] 3)
    (mark 2 3 ∷ mark 0 2 ∷ [])
    ∷ after stale_evict_world (Ordered 0) 9 3 1
    (rests 0 5 2 ∷ storing 6 ∷ [])
    (Data 7 1 5 0 2 ∷ []) (dir_at (State 2) 0 (Some 1) [] 3)
    (mark 3 3 ∷ mark 0 2 ∷ [])
    ∷ after stale_evict_world (Reply 0) 10 3 2
    (rests 0 5 2 ∷ rests 2 6 2 ∷ [])
    [] (dir_at (State 2) 0 (Some 1) [] 3)
    (mark 3 3 ∷ mark 2 2 ∷ [])
    ∷ []

abbrev pub StaleEvict : Type 0
StaleEvict = IsOrderlyRun msi Stall two_stores stale_evict
