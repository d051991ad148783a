-- Which way a message goes.
use Rattle.std.specs.Prelude.{ℕ, Bool, true, false}
use Rattle.pg_perm.specs.declared.draft.MsgClass.{MsgClass}
use Rattle.pg_perm.specs.declared.draft.MsgClass.TheVariants.{Request, Forward, Reply}

abbrev pub is_request : MsgClass → Bool
is_request (Request class) = true
is_request (Forward class) = false
is_request Reply = false

abbrev pub is_forward : MsgClass → Bool
is_forward (Request class) = false
is_forward (Forward class) = true
is_forward Reply = false

abbrev pub is_reply : MsgClass → Bool
is_reply (Request class) = false
is_reply (Forward class) = false
is_reply Reply = true

-- requests are declared first, then forwards, then replies
abbrev pub class_rank : MsgClass → ℕ
class_rank (Request class) = 0
class_rank (Forward class) = 1
class_rank Reply = 2
