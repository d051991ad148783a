-- The rules that the line of a request or a forward breaks.
-- S5: a second read, a second write.
-- S6: a second forward of one class, an invalidation without a shared state.
use Rattle.std.specs.Prelude.{ℕ, Bool, false, ◌&&◌, ◌||◌, List, take, is_none}
use Rattle.std.specs.List.{list_any}
use Rattle.pg_perm.specs.declared.draft.Draft.{Draft}
use Rattle.pg_perm.specs.declared.draft.MsgLine.{MsgLine}
use Rattle.pg_perm.specs.declared.draft.MsgClass.{MsgClass}
use Rattle.pg_perm.specs.declared.draft.MsgClass.TheVariants.{Request, Forward, Reply}
use Rattle.pg_perm.specs.declared.kinds.ReqClass.{ReqClass}
use Rattle.pg_perm.specs.declared.kinds.ReqClass.TheVariants.{Read, Write}
use Rattle.pg_perm.specs.declared.kinds.FwdClass.TheVariants.{Inv}
use Rattle.pg_perm.specs.declared.fault.Rule.{Rule}
use Rattle.pg_perm.specs.declared.fault.Rule.TheVariants.{S5, S6}
use Rattle.pg_terms.specs.Terms.{is_request_of, is_forward_of, shared}

-- a message above it is a request of this class
abbrev pub has_request : ReqClass → List MsgLine → Bool
has_request class above = list_any (λ m. is_request_of class m.class) above

-- S6: the message is a forward, and one above it is of its class
abbrev pub has_forward : List MsgLine → MsgClass → Bool
has_forward above (Request class) = false
has_forward above (Forward class) = list_any (λ m. is_forward_of class m.class) above
has_forward above Reply = false

-- S5: a second request of class read, or of class write
abbrev pub is_second_request : List MsgLine → MsgLine → Bool
is_second_request above m = (is_request_of Read m.class && has_request Read above) || (is_request_of Write m.class && has_request Write above)

-- S6: an invalidation, and there is no shared state
abbrev pub is_inv_to_none : Draft → MsgLine → Bool
is_inv_to_none d m = is_forward_of Inv m.class && is_none (shared d)

-- what the line of message n breaks
abbrev pub message_breaks : Draft → ℕ → MsgLine → Rule → Bool
message_breaks d n m S5 = is_second_request (take n d.messages) m
message_breaks d n m S6 = has_forward (take n d.messages) m.class || is_inv_to_none d m
message_breaks d n m R = false
