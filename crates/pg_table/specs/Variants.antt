-- Drafts of protocols that differ from MSI and MOSI in one thing each.
use Rattle.std.specs.Prelude.{false, [], ◌∷◌, codes, Some, None}
use Rattle.pg_perm.specs.declared.kinds.Role.TheVariants as role
use Rattle.pg_perm.specs.declared.kinds.Perm.TheVariants as perm
use Rattle.pg_perm.specs.declared.kinds.DirKind.TheVariants as kind
use Rattle.pg_perm.specs.declared.kinds.ReqClass.TheVariants as asks
use Rattle.pg_perm.specs.declared.kinds.FwdClass.TheVariants as class
use Rattle.pg_perm.specs.declared.kinds.Event.TheVariants.{Load, Store, Evict}
use Rattle.pg_perm.specs.declared.kinds.Who.TheVariants as who
use Rattle.pg_perm.specs.declared.kinds.Left.TheVariants as left
use Rattle.pg_perm.specs.declared.draft.Draft.{Draft}
use Rattle.pg_perm.specs.declared.draft.MsgClass.TheVariants.{Request, Forward, Reply}
use Rattle.pg_perm.specs.declared.draft.CoreForm.TheVariants.{Hit, Ask, Leave}
use Rattle.pg_perm.specs.declared.draft.ReplyName.TheVariants as names
use Rattle.pg_perm.specs.declared.draft.RowForm.TheVariants as row
use Rattle.pg_perm.specs.declared.draft.Action.TheVariants as action

-- MSI with a second shared and a second owned directory state. Of the two rows that are by a share the first leads to the later of the shared states
abbrev pub two_shares : Draft
two_shares = record {
  line = 1;
  name = codes "MSITN";
  caches =
      record { line = 2; name = codes "I"; role = role.Out; perm = perm.None; clean = false } ∷
      record { line = 3; name = codes "S"; role = role.Shared; perm = perm.Read; clean = false } ∷
      record { line = 4; name = codes "M"; role = role.Owner; perm = perm.Write; clean = false } ∷ [];
  dirs =
      record { line = 5; name = codes "I"; kind = kind.Idle; beside = [] } ∷
      record { line = 6; name = codes "S"; kind = kind.Shared; beside = [] } ∷
      record { line = 7; name = codes "T"; kind = kind.Shared; beside = [] } ∷
      record { line = 8; name = codes "M"; kind = kind.Owned; beside = 2 ∷ [] } ∷
      record { line = 9; name = codes "N"; kind = kind.Owned; beside = 2 ∷ [] } ∷ [];
  messages =
      record { line = 10; name = codes "GetS"; class = Request asks.Read } ∷
      record { line = 11; name = codes "GetM"; class = Request asks.Write } ∷
      record { line = 12; name = codes "PutS"; class = Request asks.Clean } ∷
      record { line = 13; name = codes "PutM"; class = Request asks.Dirty } ∷
      record { line = 14; name = codes "Inv"; class = Forward class.Inv } ∷
      record { line = 15; name = codes "FwdGetS"; class = Forward class.Share } ∷
      record { line = 16; name = codes "FwdGetM"; class = Forward class.Drop } ∷
      record { line = 17; name = codes "Data"; class = Reply } ∷ [];
  cores =
      record { line = 18; state = 0; event = Load; form = Ask 0 (record { reply = names.Reply 7; fin = 1 } ∷ []) } ∷
      record { line = 19; state = 0; event = Store; form = Ask 1 (record { reply = names.Reply 7; fin = 2 } ∷ []) } ∷
      record { line = 20; state = 1; event = Load; form = Hit None } ∷
      record { line = 21; state = 1; event = Store; form = Ask 1 (record { reply = names.Reply 7; fin = 2 } ∷ []) } ∷
      record { line = 22; state = 1; event = Evict; form = Leave 2 } ∷
      record { line = 23; state = 2; event = Load; form = Hit None } ∷
      record { line = 24; state = 2; event = Store; form = Hit None } ∷
      record { line = 25; state = 2; event = Evict; form = Leave 3 } ∷ [];
  takes =
      record { line = 26; state = 1; forward = 4; reply = None; next = 0 } ∷
      record { line = 27; state = 2; forward = 5; reply = Some 7; next = 1 } ∷
      record { line = 28; state = 2; forward = 6; reply = Some 7; next = 0 } ∷ [];
  rows =
      record { line = 29; dir = 0; form = row.Ask 0 who.Other (action.Reply 7); next = 2 } ∷
      record { line = 30; dir = 0; form = row.Ask 1 who.Other (action.Reply 7); next = 3 } ∷
      record { line = 31; dir = 1; form = row.Ask 0 who.Other (action.Reply 7); next = 2 } ∷
      record { line = 32; dir = 1; form = row.Ask 1 who.Other (action.Reply 7); next = 4 } ∷
      record { line = 33; dir = 1; form = row.Ask 1 who.Sharer (action.Reply 7); next = 3 } ∷
      record { line = 34; dir = 1; form = row.Evict who.Sharer left.Last; next = 0 } ∷
      record { line = 35; dir = 1; form = row.Evict who.Sharer left.More; next = 2 } ∷
      record { line = 36; dir = 2; form = row.Ask 0 who.Other (action.Reply 7); next = 1 } ∷
      record { line = 37; dir = 2; form = row.Ask 1 who.Other (action.Reply 7); next = 3 } ∷
      record { line = 38; dir = 2; form = row.Ask 1 who.Sharer (action.Reply 7); next = 4 } ∷
      record { line = 39; dir = 2; form = row.Evict who.Sharer left.Last; next = 0 } ∷
      record { line = 40; dir = 2; form = row.Evict who.Sharer left.More; next = 1 } ∷
      record { line = 41; dir = 3; form = row.Ask 0 who.Other (action.Forward 5); next = 2 } ∷
      record { line = 42; dir = 3; form = row.Ask 1 who.Other (action.Forward 6); next = 4 } ∷
      record { line = 43; dir = 3; form = row.Evict who.Owner left.Last; next = 0 } ∷
      record { line = 44; dir = 4; form = row.Ask 0 who.Other (action.Forward 5); next = 1 } ∷
      record { line = 45; dir = 4; form = row.Ask 1 who.Other (action.Forward 6); next = 3 } ∷
      record { line = 46; dir = 4; form = row.Evict who.Owner left.Last; next = 0 } ∷ [];
}

-- MOSI in which an owner that may only read may be left without sharers: the owned directory state lists it beside the one that may write
abbrev pub owned_reader : Draft
owned_reader = record {
  line = 1;
  name = codes "MOSIM";
  caches =
      record { line = 2; name = codes "I"; role = role.Out; perm = perm.None; clean = false } ∷
      record { line = 3; name = codes "S"; role = role.Shared; perm = perm.Read; clean = false } ∷
      record { line = 4; name = codes "O"; role = role.Owner; perm = perm.Read; clean = false } ∷
      record { line = 5; name = codes "M"; role = role.Owner; perm = perm.Write; clean = false } ∷ [];
  dirs =
      record { line = 6; name = codes "I"; kind = kind.Idle; beside = [] } ∷
      record { line = 7; name = codes "S"; kind = kind.Shared; beside = [] } ∷
      record { line = 8; name = codes "O"; kind = kind.Mixed; beside = 2 ∷ [] } ∷
      record { line = 9; name = codes "M"; kind = kind.Owned; beside = 2 ∷ 3 ∷ [] } ∷ [];
  messages =
      record { line = 10; name = codes "GetS"; class = Request asks.Read } ∷
      record { line = 11; name = codes "GetM"; class = Request asks.Write } ∷
      record { line = 12; name = codes "PutS"; class = Request asks.Clean } ∷
      record { line = 13; name = codes "PutM"; class = Request asks.Dirty } ∷
      record { line = 14; name = codes "PutO"; class = Request asks.Dirty } ∷
      record { line = 15; name = codes "Inv"; class = Forward class.Inv } ∷
      record { line = 16; name = codes "FwdGetS"; class = Forward class.Keep } ∷
      record { line = 17; name = codes "FwdGetM"; class = Forward class.Drop } ∷
      record { line = 18; name = codes "Data"; class = Reply } ∷ [];
  cores =
      record { line = 19; state = 0; event = Load; form = Ask 0 (record { reply = names.Reply 8; fin = 1 } ∷ []) } ∷
      record { line = 20; state = 0; event = Store; form = Ask 1 (record { reply = names.Reply 8; fin = 3 } ∷ []) } ∷
      record { line = 21; state = 1; event = Load; form = Hit None } ∷
      record { line = 22; state = 1; event = Store; form = Ask 1 (record { reply = names.Reply 8; fin = 3 } ∷ []) } ∷
      record { line = 23; state = 1; event = Evict; form = Leave 2 } ∷
      record { line = 24; state = 2; event = Load; form = Hit None } ∷
      record { line = 25; state = 2; event = Store; form = Ask 1 (record { reply = names.AckCount; fin = 3 } ∷ []) } ∷
      record { line = 26; state = 2; event = Evict; form = Leave 4 } ∷
      record { line = 27; state = 3; event = Load; form = Hit None } ∷
      record { line = 28; state = 3; event = Store; form = Hit None } ∷
      record { line = 29; state = 3; event = Evict; form = Leave 3 } ∷ [];
  takes =
      record { line = 30; state = 1; forward = 5; reply = None; next = 0 } ∷
      record { line = 31; state = 2; forward = 6; reply = Some 8; next = 2 } ∷
      record { line = 32; state = 2; forward = 7; reply = Some 8; next = 0 } ∷
      record { line = 33; state = 3; forward = 6; reply = Some 8; next = 2 } ∷
      record { line = 34; state = 3; forward = 7; reply = Some 8; next = 0 } ∷ [];
  rows =
      record { line = 35; dir = 0; form = row.Ask 0 who.Other (action.Reply 8); next = 1 } ∷
      record { line = 36; dir = 0; form = row.Ask 1 who.Other (action.Reply 8); next = 3 } ∷
      record { line = 37; dir = 1; form = row.Ask 0 who.Other (action.Reply 8); next = 1 } ∷
      record { line = 38; dir = 1; form = row.Ask 1 who.Other (action.Reply 8); next = 3 } ∷
      record { line = 39; dir = 1; form = row.Ask 1 who.Sharer (action.Reply 8); next = 3 } ∷
      record { line = 40; dir = 1; form = row.Evict who.Sharer left.Last; next = 0 } ∷
      record { line = 41; dir = 1; form = row.Evict who.Sharer left.More; next = 1 } ∷
      record { line = 42; dir = 2; form = row.Ask 0 who.Other (action.Forward 6); next = 2 } ∷
      record { line = 43; dir = 2; form = row.Ask 1 who.Other (action.Forward 7); next = 3 } ∷
      record { line = 44; dir = 2; form = row.Ask 1 who.Sharer (action.Forward 7); next = 3 } ∷
      record { line = 45; dir = 2; form = row.Ask 1 who.Owner action.Count; next = 3 } ∷
      record { line = 46; dir = 2; form = row.Evict who.Owner left.Last; next = 0 } ∷
      record { line = 47; dir = 2; form = row.Evict who.Owner left.More; next = 1 } ∷
      record { line = 48; dir = 2; form = row.Evict who.Sharer left.Last; next = 3 } ∷
      record { line = 49; dir = 2; form = row.Evict who.Sharer left.More; next = 2 } ∷
      record { line = 50; dir = 3; form = row.Ask 0 who.Other (action.Forward 6); next = 2 } ∷
      record { line = 51; dir = 3; form = row.Ask 1 who.Other (action.Forward 7); next = 3 } ∷
      record { line = 52; dir = 3; form = row.Ask 1 who.Owner action.Count; next = 3 } ∷
      record { line = 53; dir = 3; form = row.Evict who.Owner left.Last; next = 0 } ∷ [];
}

-- MOSI in which an owner that may write keeps its copy and may then only read, and such an owner gives it to memory
abbrev pub keeps_then_gives : Draft
keeps_then_gives = record {
  line = 1;
  name = codes "MOSG";
  caches =
      record { line = 2; name = codes "I"; role = role.Out; perm = perm.None; clean = false } ∷
      record { line = 3; name = codes "S"; role = role.Shared; perm = perm.Read; clean = false } ∷
      record { line = 4; name = codes "O"; role = role.Owner; perm = perm.Read; clean = false } ∷
      record { line = 5; name = codes "M"; role = role.Owner; perm = perm.Write; clean = false } ∷ [];
  dirs =
      record { line = 6; name = codes "I"; kind = kind.Idle; beside = [] } ∷
      record { line = 7; name = codes "S"; kind = kind.Shared; beside = [] } ∷
      record { line = 8; name = codes "O"; kind = kind.Mixed; beside = 2 ∷ [] } ∷
      record { line = 9; name = codes "M"; kind = kind.Owned; beside = 3 ∷ [] } ∷ [];
  messages =
      record { line = 10; name = codes "GetS"; class = Request asks.Read } ∷
      record { line = 11; name = codes "GetM"; class = Request asks.Write } ∷
      record { line = 12; name = codes "PutS"; class = Request asks.Clean } ∷
      record { line = 13; name = codes "PutM"; class = Request asks.Dirty } ∷
      record { line = 14; name = codes "Inv"; class = Forward class.Inv } ∷
      record { line = 15; name = codes "FwdGetD"; class = Forward class.Share } ∷
      record { line = 16; name = codes "FwdGetS"; class = Forward class.Keep } ∷
      record { line = 17; name = codes "FwdGetM"; class = Forward class.Drop } ∷
      record { line = 18; name = codes "Data"; class = Reply } ∷ [];
  cores =
      record { line = 19; state = 0; event = Load; form = Ask 0 (record { reply = names.Reply 8; fin = 1 } ∷ []) } ∷
      record { line = 20; state = 0; event = Store; form = Ask 1 (record { reply = names.Reply 8; fin = 3 } ∷ []) } ∷
      record { line = 21; state = 1; event = Load; form = Hit None } ∷
      record { line = 22; state = 1; event = Store; form = Ask 1 (record { reply = names.Reply 8; fin = 3 } ∷ []) } ∷
      record { line = 23; state = 1; event = Evict; form = Leave 2 } ∷
      record { line = 24; state = 2; event = Load; form = Hit None } ∷
      record { line = 25; state = 2; event = Store; form = Ask 1 (record { reply = names.AckCount; fin = 3 } ∷ []) } ∷
      record { line = 26; state = 2; event = Evict; form = Leave 3 } ∷
      record { line = 27; state = 3; event = Load; form = Hit None } ∷
      record { line = 28; state = 3; event = Store; form = Hit None } ∷
      record { line = 29; state = 3; event = Evict; form = Leave 3 } ∷ [];
  takes =
      record { line = 30; state = 1; forward = 4; reply = None; next = 0 } ∷
      record { line = 31; state = 2; forward = 5; reply = Some 8; next = 1 } ∷
      record { line = 32; state = 2; forward = 7; reply = Some 8; next = 0 } ∷
      record { line = 33; state = 3; forward = 6; reply = Some 8; next = 2 } ∷
      record { line = 34; state = 3; forward = 7; reply = Some 8; next = 0 } ∷ [];
  rows =
      record { line = 35; dir = 0; form = row.Ask 0 who.Other (action.Reply 8); next = 1 } ∷
      record { line = 36; dir = 0; form = row.Ask 1 who.Other (action.Reply 8); next = 3 } ∷
      record { line = 37; dir = 1; form = row.Ask 0 who.Other (action.Reply 8); next = 1 } ∷
      record { line = 38; dir = 1; form = row.Ask 1 who.Other (action.Reply 8); next = 3 } ∷
      record { line = 39; dir = 1; form = row.Ask 1 who.Sharer (action.Reply 8); next = 3 } ∷
      record { line = 40; dir = 1; form = row.Evict who.Sharer left.Last; next = 0 } ∷
      record { line = 41; dir = 1; form = row.Evict who.Sharer left.More; next = 1 } ∷
      record { line = 42; dir = 2; form = row.Ask 0 who.Other (action.Forward 5); next = 1 } ∷
      record { line = 43; dir = 2; form = row.Ask 1 who.Other (action.Forward 7); next = 3 } ∷
      record { line = 44; dir = 2; form = row.Ask 1 who.Sharer (action.Forward 7); next = 3 } ∷
      record { line = 45; dir = 2; form = row.Ask 1 who.Owner action.Count; next = 3 } ∷
      record { line = 46; dir = 2; form = row.Evict who.Owner left.Last; next = 0 } ∷
      record { line = 47; dir = 2; form = row.Evict who.Owner left.More; next = 1 } ∷
      record { line = 48; dir = 2; form = row.Evict who.Sharer left.Last; next = 2 } ∷
      record { line = 49; dir = 2; form = row.Evict who.Sharer left.More; next = 2 } ∷
      record { line = 50; dir = 3; form = row.Ask 0 who.Other (action.Forward 6); next = 2 } ∷
      record { line = 51; dir = 3; form = row.Ask 1 who.Other (action.Forward 7); next = 3 } ∷
      record { line = 52; dir = 3; form = row.Evict who.Owner left.Last; next = 0 } ∷ [];
}
