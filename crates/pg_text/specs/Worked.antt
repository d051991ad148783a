-- A draft that was written by hand from its text.
use Rattle.std.specs.Prelude.{[], ◌∷◌, codes, false, None}
use Rattle.pg_perm.specs.declared.draft.Draft.{Draft}
use Rattle.pg_perm.specs.declared.draft.MsgClass.TheVariants.{Request, Reply}
use Rattle.pg_perm.specs.declared.draft.CoreForm.TheVariants.{Hit, Ask, Leave}
use Rattle.pg_perm.specs.declared.draft.ReplyName.TheVariants as reply
use Rattle.pg_perm.specs.declared.kinds.Event.TheVariants.{Load, Evict}
use Rattle.pg_perm.specs.declared.kinds.Perm.TheVariants as perm
use Rattle.pg_perm.specs.declared.kinds.ReqClass.TheVariants as asks
use Rattle.pg_perm.specs.declared.kinds.Role.TheVariants.{Out, Shared}

-- the draft of the text `worked_texts` ends with: states I and S, a load that asks from I, a hit and an evict of S
abbrev pub worked_draft : Draft
worked_draft = record {
  line = 1;
  name = codes "P";
  caches =
      record { line = 2; name = codes "I"; role = Out; perm = perm.None; clean = false }
      ∷ record { line = 3; name = codes "S"; role = Shared; perm = perm.Read; clean = false }
      ∷ [];
  dirs = [];
  messages =
      record { line = 4; name = codes "GetS"; class = Request asks.Read }
      ∷ record { line = 5; name = codes "PutS"; class = Request asks.Clean }
      ∷ record { line = 6; name = codes "Data"; class = Reply }
      ∷ [];
  cores =
      record { line = 7; state = 0; event = Load; form = Ask 0 (record { reply = reply.Reply 2; fin = 1 } ∷ []) }
      ∷ record { line = 8; state = 1; event = Load; form = Hit None }
      ∷ record { line = 9; state = 1; event = Evict; form = Leave 1 }
      ∷ [];
  takes = [];
  rows = [];
}
