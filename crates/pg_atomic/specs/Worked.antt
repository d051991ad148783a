-- Runs that were worked out by hand, with the whole state after each step.
use Rattle.std.specs.Prelude.{ℕ, false, List, [], ◌∷◌, codes, Option, Some, None}
use Rattle.pg_perm.specs.declared.kinds.Role.TheVariants as role
use Rattle.pg_perm.specs.declared.kinds.Perm.TheVariants as perm
use Rattle.pg_perm.specs.declared.kinds.DirKind.TheVariants as kind
use Rattle.pg_perm.specs.declared.kinds.ReqClass.TheVariants as asks
use Rattle.pg_perm.specs.declared.kinds.FwdClass.TheVariants as class
use Rattle.pg_perm.specs.declared.kinds.Event.TheVariants as event
use Rattle.pg_perm.specs.declared.kinds.Who.TheVariants as who
use Rattle.pg_perm.specs.declared.kinds.Left.TheVariants as left
use Rattle.pg_perm.specs.declared.draft.Draft.{Draft}
use Rattle.pg_perm.specs.declared.draft.MsgClass.TheVariants.{Request, Forward, Reply}
use Rattle.pg_perm.specs.declared.draft.CoreForm.TheVariants.{Hit, Ask, Leave}
use Rattle.pg_perm.specs.declared.draft.ReplyName.TheVariants as names
use Rattle.pg_perm.specs.declared.draft.RowForm.TheVariants as row
use Rattle.pg_perm.specs.declared.draft.Action.TheVariants as action
use Rattle.pg_perm.specs.declared.step.Step.{Step}
use Rattle.pg_perm.specs.declared.step.Step.TheVariants.{Txn, Stale, Load, Store}
use Rattle.pg_atomic.specs.States.{State}
use Rattle.pg_atomic.specs.Steps.{after_step}

-- the state after each of the steps
abbrev pub states_after_each : Draft → State → List Step → List State
states_after_each d a [] = []
states_after_each d a (x ∷ xs) = after_step d a x ∷ states_after_each d (after_step d a x) xs

-- the state with these states of the cores, directory state, owner, sharers and word
abbrev pub state_with : List ℕ → ℕ → Option ℕ → List ℕ → ℕ → State
state_with states dir owner sharers word = record { states = states; entry = record { dir = dir; owner = owner; sharers = sharers }; word = word }

-- MESI with two cores: core 0 reads alone and is E, its store hits and leads to M, core 1 reads and shares, stores and invalidates, and evicts
abbrev pub mesi_steps : List Step
mesi_steps =
    Txn 0 event.Load ∷ Load 0 0 ∷ Store 0 5 ∷ Stale 1 ∷ Txn 1 event.Load ∷ Load 1 5 ∷ Load 0 5
    ∷ Txn 1 event.Store ∷ Store 1 7 ∷ Txn 1 event.Evict ∷ Stale 1 ∷ []

abbrev pub mesi_states : List State
mesi_states =
    state_with (2 ∷ 0 ∷ []) 2 (Some 0) [] 0
    ∷ state_with (2 ∷ 0 ∷ []) 2 (Some 0) [] 0
    ∷ state_with (3 ∷ 0 ∷ []) 2 (Some 0) [] 5
    ∷ state_with (3 ∷ 0 ∷ []) 2 (Some 0) [] 5
    ∷ state_with (1 ∷ 1 ∷ []) 1 None (0 ∷ 1 ∷ []) 5
    ∷ state_with (1 ∷ 1 ∷ []) 1 None (0 ∷ 1 ∷ []) 5
    ∷ state_with (1 ∷ 1 ∷ []) 1 None (0 ∷ 1 ∷ []) 5
    ∷ state_with (0 ∷ 3 ∷ []) 2 (Some 1) [] 5
    ∷ state_with (0 ∷ 3 ∷ []) 2 (Some 1) [] 7
    ∷ state_with (0 ∷ 0 ∷ []) 0 None [] 7
    ∷ state_with (0 ∷ 0 ∷ []) 0 None [] 7
    ∷ []

-- a protocol with two owners that may only read, O and P, where the one passes the block on by Data and the other by DataP:
--     protocol Passing
--     cache I out none
--     cache O owner read
--     cache P owner read
--     cache M owner write
--     dir Idle idle
--     dir Sole owned O P
--     dir Dirty owned M
--     request GetS read
--     request GetM write
--     request PutD dirty
--     forward Pass drop
--     reply Data data
--     reply DataP data
--     core I load GetS Data O DataP P
--     core I store GetM Data M DataP M
--     core O load hit
--     core O store GetM AckCount M
--     core O evict PutD
--     core P load hit
--     core P store GetM AckCount M
--     core P evict PutD
--     core M load hit
--     core M store hit
--     core M evict PutD
--     take O Pass Data I
--     take P Pass DataP I
--     take M Pass DataP I
--     row Idle GetS other Data Sole
--     row Idle GetM other Data Dirty
--     row Sole GetS other Pass Sole
--     row Sole GetM other Pass Dirty
--     row Sole GetM owner count Dirty
--     row Sole evict owner last Idle
--     row Dirty GetS other Pass Sole
--     row Dirty GetM other Pass Dirty
--     row Dirty evict owner last Idle
--     end
abbrev pub passing_protocol : Draft
passing_protocol = record {
  line = 1;
  name = codes "Passing";
  caches =
      record { line = 2; name = codes "I"; role = role.Out; perm = perm.None; clean = false } ∷
      record { line = 3; name = codes "O"; role = role.Owner; perm = perm.Read; clean = false } ∷
      record { line = 4; name = codes "P"; role = role.Owner; perm = perm.Read; clean = false } ∷
      record { line = 5; name = codes "M"; role = role.Owner; perm = perm.Write; clean = false } ∷ [];
  dirs =
      record { line = 6; name = codes "Idle"; kind = kind.Idle; beside = [] } ∷
      record { line = 7; name = codes "Sole"; kind = kind.Owned; beside = 1 ∷ 2 ∷ [] } ∷
      record { line = 8; name = codes "Dirty"; kind = kind.Owned; beside = 3 ∷ [] } ∷ [];
  messages =
      record { line = 9; name = codes "GetS"; class = Request asks.Read } ∷
      record { line = 10; name = codes "GetM"; class = Request asks.Write } ∷
      record { line = 11; name = codes "PutD"; class = Request asks.Dirty } ∷
      record { line = 12; name = codes "Pass"; class = Forward class.Drop } ∷
      record { line = 13; name = codes "Data"; class = Reply } ∷
      record { line = 14; name = codes "DataP"; class = Reply } ∷ [];
  cores =
      record { line = 15; state = 0; event = event.Load; form = Ask 0 (record { reply = names.Reply 4; fin = 1 } ∷ record { reply = names.Reply 5; fin = 2 } ∷ []) } ∷
      record { line = 16; state = 0; event = event.Store; form = Ask 1 (record { reply = names.Reply 4; fin = 3 } ∷ record { reply = names.Reply 5; fin = 3 } ∷ []) } ∷
      record { line = 17; state = 1; event = event.Load; form = Hit None } ∷
      record { line = 18; state = 1; event = event.Store; form = Ask 1 (record { reply = names.AckCount; fin = 3 } ∷ []) } ∷
      record { line = 19; state = 1; event = event.Evict; form = Leave 2 } ∷
      record { line = 20; state = 2; event = event.Load; form = Hit None } ∷
      record { line = 21; state = 2; event = event.Store; form = Ask 1 (record { reply = names.AckCount; fin = 3 } ∷ []) } ∷
      record { line = 22; state = 2; event = event.Evict; form = Leave 2 } ∷
      record { line = 23; state = 3; event = event.Load; form = Hit None } ∷
      record { line = 24; state = 3; event = event.Store; form = Hit None } ∷
      record { line = 25; state = 3; event = event.Evict; form = Leave 2 } ∷ [];
  takes =
      record { line = 26; state = 1; forward = 3; reply = Some 4; next = 0 } ∷
      record { line = 27; state = 2; forward = 3; reply = Some 5; next = 0 } ∷
      record { line = 28; state = 3; forward = 3; reply = Some 5; next = 0 } ∷ [];
  rows =
      record { line = 29; dir = 0; form = row.Ask 0 who.Other (action.Reply 4); next = 1 } ∷
      record { line = 30; dir = 0; form = row.Ask 1 who.Other (action.Reply 4); next = 2 } ∷
      record { line = 31; dir = 1; form = row.Ask 0 who.Other (action.Forward 3); next = 1 } ∷
      record { line = 32; dir = 1; form = row.Ask 1 who.Other (action.Forward 3); next = 2 } ∷
      record { line = 33; dir = 1; form = row.Ask 1 who.Owner action.Count; next = 2 } ∷
      record { line = 34; dir = 1; form = row.Evict who.Owner left.Last; next = 0 } ∷
      record { line = 35; dir = 2; form = row.Ask 0 who.Other (action.Forward 3); next = 1 } ∷
      record { line = 36; dir = 2; form = row.Ask 1 who.Other (action.Forward 3); next = 2 } ∷
      record { line = 37; dir = 2; form = row.Evict who.Owner left.Last; next = 0 } ∷ [];
}

-- Passing with three cores: core 0 reads from memory and is O, core 1 reads from an O and is one, core 2 stores, core 0 reads from an M and is P,
-- core 1 reads from a P and is one, and its store is counted
abbrev pub passing_steps : List Step
passing_steps =
    Txn 0 event.Load ∷ Load 0 0 ∷ Txn 1 event.Load ∷ Txn 2 event.Store ∷ Store 2 6
    ∷ Txn 0 event.Load ∷ Load 0 6 ∷ Txn 1 event.Load ∷ Txn 1 event.Store ∷ Store 1 9 ∷ Txn 1 event.Evict ∷ []

abbrev pub passing_states : List State
passing_states =
    state_with (1 ∷ 0 ∷ 0 ∷ []) 1 (Some 0) [] 0
    ∷ state_with (1 ∷ 0 ∷ 0 ∷ []) 1 (Some 0) [] 0
    ∷ state_with (0 ∷ 1 ∷ 0 ∷ []) 1 (Some 1) [] 0
    ∷ state_with (0 ∷ 0 ∷ 3 ∷ []) 2 (Some 2) [] 0
    ∷ state_with (0 ∷ 0 ∷ 3 ∷ []) 2 (Some 2) [] 6
    ∷ state_with (2 ∷ 0 ∷ 0 ∷ []) 1 (Some 0) [] 6
    ∷ state_with (2 ∷ 0 ∷ 0 ∷ []) 1 (Some 0) [] 6
    ∷ state_with (0 ∷ 2 ∷ 0 ∷ []) 1 (Some 1) [] 6
    ∷ state_with (0 ∷ 3 ∷ 0 ∷ []) 2 (Some 1) [] 6
    ∷ state_with (0 ∷ 3 ∷ 0 ∷ []) 2 (Some 1) [] 9
    ∷ state_with (0 ∷ 0 ∷ 0 ∷ []) 0 None [] 9
    ∷ []
