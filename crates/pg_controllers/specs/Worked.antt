-- Runs of small worlds, worked out by hand.
use Rattle.std.specs.Prelude.{ℕ, ◌≡◌, false, true, List, [], ◌∷◌, map, Option, Some, None}
use Rattle.pg_perm.specs.declared.kinds.Event.{Event}
use Rattle.pg_perm.specs.declared.kinds.Event.TheVariants as event
use Rattle.pg_perm.specs.declared.kinds.Perm.TheVariants as perm
use Rattle.pg_perm.specs.declared.kinds.Op.{Op}
use Rattle.pg_perm.specs.declared.kinds.Op.TheVariants as op
use Rattle.pg_perm.specs.declared.kinds.Mode.{Mode}
use Rattle.pg_perm.specs.declared.kinds.Mode.TheVariants as mode
use Rattle.pg_perm.specs.declared.draft.Draft.{Draft}
use Rattle.pg_samples.specs.Drafts.{msi, mesi, mosi}
use Rattle.pg_table.specs.declared.cache.Desc.{Desc}
use Rattle.pg_table.specs.declared.cache.Desc.TheVariants.{Stable, Ask, Leave}
use Rattle.pg_table.specs.declared.cache.Phase.TheVariants.{D, Ad, A}
use Rattle.pg_table.specs.declared.cache.Tag.TheVariants.{Plain}
use Rattle.pg_table.specs.declared.directory.DirDesc.{DirDesc}
use Rattle.pg_table.specs.declared.directory.DirDesc.TheVariants.{State, Busy}
use Rattle.pg_table.specs.Tables.{cache_table}
use Rattle.pg_table.specs.Pick.{pick}
use Rattle.pg_messages.specs.declared.messages.Ordered.TheVariants.{Forward}
use Rattle.pg_messages.specs.declared.messages.Reply.TheVariants.{Data, WbData}
use Rattle.pg_messages.specs.declared.messages.Finished.{Finished}
use Rattle.pg_messages.specs.declared.messages.Finished.TheVariants as finish
use Rattle.pg_messages.specs.declared.messages.OrderEntry.{OrderEntry}
use Rattle.pg_messages.specs.declared.messages.DoneEntry.{DoneEntry}
use Rattle.pg_messages.specs.declared.messages.WorldEvent.{WorldEvent}
use Rattle.pg_messages.specs.declared.messages.WorldEvent.TheVariants.{Issue, Request as Request_of, Ordered as Ordered_to, Reply as Reply_at}
use Rattle.pg_controllers.specs.Networks.{Line, Core}
use Rattle.pg_controllers.specs.Directories.{Directory}
use Rattle.pg_controllers.specs.Worlds.{Picks, World, step, is_enabled}
use Rattle.pg_controllers.specs.Usable.{usable}
use Rattle.pg_controllers.specs.Runs.{opening, replay, IsReached}

-- what the generated table of a protocol picks
abbrev pub picks : Draft → Mode → Picks
picks d m = pick (cache_table d m)

abbrev pub journal_entry : WorldEvent → ℕ × WorldEvent
journal_entry e = (0, e)

-- the world after each event
abbrev pub worlds_after : Draft → Picks → World → List WorldEvent → List World
worlds_after d p w [] = []
worlds_after d p w (e ∷ es) = step d p w (journal_entry e) ∷ worlds_after d p (step d p w (journal_entry e)) es

abbrev pub world_after : Draft → Mode → List (List Op) → List WorldEvent → World
world_after d m given es = replay d (picks d m) (opening d given) (map journal_entry es)

-- a line at rest in a state, with its word and stamp; and one with an operation outstanding, of which nothing has come
abbrev pub line_at_rest : ℕ → ℕ → ℕ → Line
line_at_rest s v k = record { desc = Stable s; word = v; stamp = k; need = None; got = 0; deferred = []; pending = None }

abbrev pub line_asking : Desc → Op → Line
line_asking s o = record { desc = s; word = 0; stamp = 0; need = None; got = 0; deferred = []; pending = Some o }

-- a core with no operation left, no request and no message
abbrev pub core_with : Line → Core
core_with l = record { line = l; left = []; slot = None; queue = [] }

abbrev pub ordered_by : ℕ → Event → OrderEntry
ordered_by c e = record { core = c; event = e; stale = false }

abbrev pub stale_evict : ℕ → OrderEntry
stale_evict c = record { core = c; event = event.Evict; stale = true }

abbrev pub done_at : ℕ → ℕ → Finished → DoneEntry
done_at k c f = record { stamp = k; core = c; fin = f; late = false }

abbrev pub late_load : ℕ → ℕ → ℕ → DoneEntry
late_load k c v = record { stamp = k; core = c; fin = finish.Load v; late = true }

-- a world in which nothing is under way and nothing is left
abbrev pub finished_world : List Line → Directory → List OrderEntry → List DoneEntry → List WorldEvent → World
finished_world lines h order done es = record { cores = map core_with lines; replies = []; directory = h; order = order; done = done; journal = map journal_entry es }

abbrev pub dir_at : DirDesc → ℕ → Option ℕ → List ℕ → ℕ → Directory
dir_at s v owner sharers k = record { desc = s; memory = v; owner = owner; sharers = sharers; last = k }

-- MSI, where forwards wait: core 0 stores 5 and core 1 loads it

abbrev pub store_and_load : List (List Op)
store_and_load = (op.Store 5 ∷ []) ∷ (op.Load ∷ []) ∷ []

abbrev pub shared_world_0 : World
shared_world_0 = record {
  cores = record { line = line_at_rest 0 0 0; left = op.Store 5 ∷ []; slot = None; queue = [] }
      ∷ record { line = line_at_rest 0 0 0; left = op.Load ∷ []; slot = None; queue = [] } ∷ [];
  replies = [];
  directory = dir_at (State 0) 0 None [] 0;
  order = [];
  done = [];
  journal = [];
}

-- core 0 asks for the block
abbrev pub shared_world_1 : World
shared_world_1 = record shared_world_0 {
  cores = record { line = line_asking (Ask event.Store 0 Ad Plain) (op.Store 5); left = []; slot = Some (record { request = 1; event = event.Store; word = None }); queue = [] }
      ∷ record { line = line_at_rest 0 0 0; left = op.Load ∷ []; slot = None; queue = [] } ∷ [];
  journal = (0, Issue 0) ∷ [];
}

-- core 1 asks for a share
abbrev pub shared_world_2 : World
shared_world_2 = record shared_world_1 {
  cores = record { line = line_asking (Ask event.Store 0 Ad Plain) (op.Store 5); left = []; slot = Some (record { request = 1; event = event.Store; word = None }); queue = [] }
      ∷ record { line = line_asking (Ask event.Load 0 D Plain) op.Load; left = []; slot = Some (record { request = 0; event = event.Load; word = None }); queue = [] } ∷ [];
  journal = (0, Issue 0) ∷ (0, Issue 1) ∷ [];
}

-- memory answers core 0, which owns
abbrev pub shared_world_3 : World
shared_world_3 = record shared_world_2 {
  cores = core_with (line_asking (Ask event.Store 0 Ad Plain) (op.Store 5))
      ∷ record { line = line_asking (Ask event.Load 0 D Plain) op.Load; left = []; slot = Some (record { request = 0; event = event.Load; word = None }); queue = [] } ∷ [];
  replies = Data 7 0 0 0 1 ∷ [];
  directory = dir_at (State 2) 0 (Some 0) [] 1;
  order = ordered_by 0 event.Store ∷ [];
  journal = (0, Issue 0) ∷ (0, Issue 1) ∷ (0, Request_of 0) ∷ [];
}

-- core 1's request is passed on to core 0, and the directory waits for the word
abbrev pub shared_world_4 : World
shared_world_4 = record shared_world_3 {
  cores = record { line = line_asking (Ask event.Store 0 Ad Plain) (op.Store 5); left = []; slot = None; queue = Forward 5 1 0 2 ∷ [] }
      ∷ core_with (line_asking (Ask event.Load 0 D Plain) op.Load) ∷ [];
  directory = dir_at (Busy 1) 0 None (0 ∷ 1 ∷ []) 2;
  order = ordered_by 0 event.Store ∷ ordered_by 1 event.Load ∷ [];
  journal = (0, Issue 0) ∷ (0, Issue 1) ∷ (0, Request_of 0) ∷ (0, Request_of 1) ∷ [];
}

-- core 0's data comes, and its store is done
abbrev pub shared_world_5 : World
shared_world_5 = record shared_world_4 {
  cores = record { line = line_at_rest 2 5 1; left = []; slot = None; queue = Forward 5 1 0 2 ∷ [] }
      ∷ core_with (line_asking (Ask event.Load 0 D Plain) op.Load) ∷ [];
  replies = [];
  done = done_at 1 0 (finish.Store 5) ∷ [];
  journal = (0, Issue 0) ∷ (0, Issue 1) ∷ (0, Request_of 0) ∷ (0, Request_of 1) ∷ (0, Reply_at 0) ∷ [];
}

-- core 0 gives its word to core 1 and to memory, and shares
abbrev pub shared_world_6 : World
shared_world_6 = record shared_world_5 {
  cores = core_with (line_at_rest 1 5 2) ∷ core_with (line_asking (Ask event.Load 0 D Plain) op.Load) ∷ [];
  replies = Data 7 1 5 0 2 ∷ WbData 5 2 ∷ [];
  journal = (0, Issue 0) ∷ (0, Issue 1) ∷ (0, Request_of 0) ∷ (0, Request_of 1) ∷ (0, Reply_at 0) ∷ (0, Ordered_to 0) ∷ [];
}

-- core 1's load is done
abbrev pub shared_world_7 : World
shared_world_7 = record shared_world_6 {
  cores = core_with (line_at_rest 1 5 2) ∷ core_with (line_at_rest 1 5 2) ∷ [];
  replies = WbData 5 2 ∷ [];
  done = done_at 1 0 (finish.Store 5) ∷ done_at 2 1 (finish.Load 5) ∷ [];
  journal = (0, Issue 0) ∷ (0, Issue 1) ∷ (0, Request_of 0) ∷ (0, Request_of 1) ∷ (0, Reply_at 0) ∷ (0, Ordered_to 0) ∷ (0, Reply_at 0) ∷ [];
}

-- memory has the word, and the directory isn't busy any more
abbrev pub shared_world_8 : World
shared_world_8 = record shared_world_7 {
  replies = [];
  directory = dir_at (State 1) 5 None (0 ∷ 1 ∷ []) 2;
  journal = (0, Issue 0) ∷ (0, Issue 1) ∷ (0, Request_of 0) ∷ (0, Request_of 1) ∷ (0, Reply_at 0) ∷ (0, Ordered_to 0) ∷ (0, Reply_at 0) ∷ (0, Reply_at 0) ∷ [];
}

abbrev pub StoreAndLoad : Type 0
StoreAndLoad = (opening msi store_and_load ≡ shared_world_0)
    × (worlds_after msi (picks msi mode.Stall) shared_world_0 (Issue 0 ∷ Issue 1 ∷ Request_of 0 ∷ Request_of 1 ∷ Reply_at 0 ∷ Ordered_to 0 ∷ Reply_at 0 ∷ Reply_at 0 ∷ [])
    ≡ shared_world_1 ∷ shared_world_2 ∷ shared_world_3 ∷ shared_world_4 ∷ shared_world_5 ∷ shared_world_6 ∷ shared_world_7 ∷ shared_world_8 ∷ [])

-- the same where forwards are put off: core 0 meets core 1's forward before its data, and serves it once its store is done
abbrev pub put_off_store_world : World
put_off_store_world = record shared_world_8 { journal = map journal_entry (Issue 0 ∷ Issue 1 ∷ Request_of 0 ∷ Request_of 1 ∷ Ordered_to 0 ∷ Reply_at 0 ∷ Reply_at 0 ∷ Reply_at 0 ∷ []) }

abbrev pub PutOffStore : Type 0
PutOffStore = IsReached msi (picks msi mode.Defer) store_and_load put_off_store_world

-- MSI: core 0's load meets the invalidation of core 1's store before its data, and is late; where forwards wait, so does the invalidation
abbrev pub load_and_store : List (List Op)
load_and_store = (op.Load ∷ []) ∷ (op.Store 7 ∷ []) ∷ []

abbrev pub late_load_events : List WorldEvent
late_load_events = Issue 0 ∷ Issue 1 ∷ Request_of 0 ∷ Request_of 1 ∷ Ordered_to 0 ∷ Reply_at 1 ∷ Reply_at 1 ∷ Reply_at 0 ∷ []

abbrev pub late_load_world : World
late_load_world = finished_world (line_at_rest 0 0 1 ∷ line_at_rest 2 7 2 ∷ []) (dir_at (State 2) 0 (Some 1) [] 2)
    (ordered_by 0 event.Load ∷ ordered_by 1 event.Store ∷ []) (done_at 2 1 (finish.Store 7) ∷ late_load 1 0 0 ∷ []) late_load_events

abbrev pub LateLoad : Type 0
LateLoad = IsReached msi (picks msi mode.Defer) load_and_store late_load_world

abbrev pub LoadWaits : Type 0
LoadWaits = is_enabled (picks msi mode.Stall) (world_after msi mode.Stall load_and_store (Issue 0 ∷ Issue 1 ∷ Request_of 0 ∷ Request_of 1 ∷ [])) (Ordered_to 0) ≡ false

-- MSI: a sharer stores. The other sharer alone is invalidated, and its acknowledgement is counted before the data comes
abbrev pub upgrade_events : List WorldEvent
upgrade_events = Issue 0 ∷ Request_of 0 ∷ Reply_at 0 ∷ Issue 1 ∷ Request_of 1 ∷ Reply_at 0 ∷ Issue 0 ∷ Request_of 0 ∷ Ordered_to 1 ∷ Reply_at 1 ∷ Reply_at 0 ∷ []

abbrev pub sharer_stores_world : World
sharer_stores_world = finished_world (line_at_rest 2 7 3 ∷ line_at_rest 0 0 3 ∷ []) (dir_at (State 2) 0 (Some 0) [] 3)
    (ordered_by 0 event.Load ∷ ordered_by 1 event.Load ∷ ordered_by 0 event.Store ∷ [])
    (done_at 1 0 (finish.Load 0) ∷ done_at 2 1 (finish.Load 0) ∷ done_at 3 0 (finish.Store 7) ∷ []) upgrade_events

abbrev pub SharerStores : Type 0
SharerStores = IsReached msi (picks msi mode.Stall) ((op.Load ∷ op.Store 7 ∷ []) ∷ (op.Load ∷ []) ∷ []) sharer_stores_world

-- MOSI: an owner stores once more, where it may only read. Core 2's load is ordered before that store, or behind it
abbrev pub owner_stores : List (List Op)
owner_stores = (op.Store 1 ∷ op.Store 2 ∷ []) ∷ (op.Load ∷ []) ∷ (op.Load ∷ []) ∷ []

abbrev pub load_before_events : List WorldEvent
load_before_events = Issue 0 ∷ Request_of 0 ∷ Reply_at 0 ∷ Issue 1 ∷ Request_of 1 ∷ Ordered_to 0 ∷ Reply_at 0 ∷ Issue 0
    ∷ Issue 2 ∷ Request_of 2 ∷ Request_of 0 ∷ Ordered_to 0 ∷ Ordered_to 0 ∷ Ordered_to 1 ∷ Ordered_to 2 ∷ Reply_at 1 ∷ Reply_at 1 ∷ Reply_at 0 ∷ []

abbrev pub load_before_world : World
load_before_world = finished_world (line_at_rest 3 2 4 ∷ line_at_rest 0 1 4 ∷ line_at_rest 0 1 3 ∷ []) (dir_at (State 3) 0 (Some 0) [] 4)
    (ordered_by 0 event.Store ∷ ordered_by 1 event.Load ∷ ordered_by 2 event.Load ∷ ordered_by 0 event.Store ∷ [])
    (done_at 1 0 (finish.Store 1) ∷ done_at 2 1 (finish.Load 1) ∷ done_at 4 0 (finish.Store 2) ∷ late_load 3 2 1 ∷ []) load_before_events

abbrev pub LoadBeforeStore : Type 0
LoadBeforeStore = IsReached mosi (picks mosi mode.Defer) owner_stores load_before_world

abbrev pub load_behind_events : List WorldEvent
load_behind_events = Issue 0 ∷ Request_of 0 ∷ Reply_at 0 ∷ Issue 1 ∷ Request_of 1 ∷ Ordered_to 0 ∷ Reply_at 0 ∷ Issue 0
    ∷ Request_of 0 ∷ Issue 2 ∷ Request_of 2 ∷ Ordered_to 0 ∷ Ordered_to 0 ∷ Ordered_to 1 ∷ Reply_at 0 ∷ Reply_at 0 ∷ []

abbrev pub load_behind_world : World
load_behind_world = finished_world (line_at_rest 2 2 4 ∷ line_at_rest 0 1 3 ∷ line_at_rest 1 2 4 ∷ []) (dir_at (State 2) 0 (Some 0) (2 ∷ []) 4)
    (ordered_by 0 event.Store ∷ ordered_by 1 event.Load ∷ ordered_by 0 event.Store ∷ ordered_by 2 event.Load ∷ [])
    (done_at 1 0 (finish.Store 1) ∷ done_at 2 1 (finish.Load 1) ∷ done_at 3 0 (finish.Store 2) ∷ done_at 4 2 (finish.Load 2) ∷ []) load_behind_events

abbrev pub LoadBehindStore : Type 0
LoadBehindStore = IsReached mosi (picks mosi mode.Defer) owner_stores load_behind_world

-- MESI: an owner that leaves gives its word to core 1, and its clean evict waits while the directory is busy
abbrev pub clean_evict : List (List Op)
clean_evict = (op.Load ∷ op.Evict ∷ []) ∷ (op.Load ∷ []) ∷ []

abbrev pub clean_evict_events : List WorldEvent
clean_evict_events = Issue 0 ∷ Request_of 0 ∷ Reply_at 0 ∷ Issue 0 ∷ Issue 1 ∷ Request_of 1 ∷ Ordered_to 0 ∷ Reply_at 1 ∷ Request_of 0 ∷ Ordered_to 0 ∷ Reply_at 0 ∷ []

abbrev pub clean_evict_world : World
clean_evict_world = finished_world (line_at_rest 0 0 2 ∷ line_at_rest 1 0 2 ∷ []) (dir_at (State 1) 0 None (1 ∷ []) 3)
    (ordered_by 0 event.Load ∷ ordered_by 1 event.Load ∷ ordered_by 0 event.Evict ∷ [])
    (done_at 1 0 (finish.Load 0) ∷ done_at 2 1 (finish.Load 0) ∷ []) clean_evict_events

-- core 0 holds it alone, and clean
abbrev pub exclusive_world : World
exclusive_world = world_after mesi mode.Stall clean_evict (Issue 0 ∷ Request_of 0 ∷ Reply_at 0 ∷ [])

abbrev pub CleanEvict : Type 0
CleanEvict = IsReached mesi (picks mesi mode.Stall) clean_evict clean_evict_world

abbrev pub EvictWaits : Type 0
EvictWaits = is_enabled (picks mesi mode.Stall) (world_after mesi mode.Stall clean_evict (Issue 0 ∷ Request_of 0 ∷ Reply_at 0 ∷ Issue 0 ∷ Issue 1 ∷ Request_of 1 ∷ [])) (Request_of 0) ≡ false

-- MSI: a dirty evict is stale, since core 1's store was ordered before it, and memory isn't written
abbrev pub stale_evict_events : List WorldEvent
stale_evict_events = Issue 0 ∷ Request_of 0 ∷ Reply_at 0 ∷ Issue 0 ∷ Issue 1 ∷ Request_of 1 ∷ Ordered_to 0 ∷ Request_of 0 ∷ Ordered_to 0 ∷ Reply_at 0 ∷ []

abbrev pub stale_evict_world : World
stale_evict_world = finished_world (line_at_rest 0 5 2 ∷ line_at_rest 2 6 2 ∷ []) (dir_at (State 2) 0 (Some 1) [] 3)
    (ordered_by 0 event.Store ∷ ordered_by 1 event.Store ∷ stale_evict 0 ∷ [])
    (done_at 1 0 (finish.Store 5) ∷ done_at 2 1 (finish.Store 6) ∷ []) stale_evict_events

abbrev pub StaleEvict : Type 0
StaleEvict = IsReached msi (picks msi mode.Stall) ((op.Store 5 ∷ op.Evict ∷ []) ∷ (op.Store 6 ∷ []) ∷ []) stale_evict_world

-- MSI: a core alone. An evict where it holds nothing asks for nothing; its dirty evict writes memory, and its load reads that
abbrev pub one_core_events : List WorldEvent
one_core_events = Issue 0 ∷ Issue 0 ∷ Request_of 0 ∷ Reply_at 0 ∷ Issue 0 ∷ Request_of 0 ∷ Ordered_to 0 ∷ Issue 0 ∷ Request_of 0 ∷ Reply_at 0 ∷ []

abbrev pub one_core_world : World
one_core_world = finished_world (line_at_rest 1 9 3 ∷ []) (dir_at (State 1) 9 None (0 ∷ []) 3)
    (ordered_by 0 event.Store ∷ ordered_by 0 event.Evict ∷ ordered_by 0 event.Load ∷ [])
    (done_at 1 0 (finish.Store 9) ∷ done_at 3 0 (finish.Load 9) ∷ []) one_core_events

abbrev pub OneCore : Type 0
OneCore = IsReached msi (picks msi mode.Stall) ((op.Evict ∷ op.Store 9 ∷ op.Evict ∷ op.Load ∷ []) ∷ []) one_core_world

-- a store may write where it is done; until then its line may read at most, and nothing once it was granted
abbrev pub Permissions : Type 0
Permissions = (usable msi (Stable 2) ≡ perm.Write) × (usable msi (Ask event.Store 1 Ad Plain) ≡ perm.Read) × (usable msi (Ask event.Store 1 A Plain) ≡ perm.None) × (usable msi (Leave 2) ≡ perm.None)
