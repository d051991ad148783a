-- The terms in which the rules of the shape are stated. States and messages are numbers, as in a draft; a number that no line has is no
-- state and no message, and has no property.
use Rattle.std.specs.Prelude.{ℕ, Bool, true, false, not, ◌==◌, ◌&&◌, List, [], slice_get, Option, Some, None, position, find}
use Rattle.std.specs.List.{list_any}
use Rattle.std.specs.Option.{option_map, option_map_or, option_and_then}
use denote.Enum.Bare.{sameb}
use Rattle.pg_perm.specs.declared.kinds.Role.{Role}
use Rattle.pg_perm.specs.declared.kinds.Role.TheVariants as role
use Rattle.pg_perm.specs.declared.kinds.Perm.{Perm}
use Rattle.pg_perm.specs.declared.kinds.Perm.TheVariants as perm
use Rattle.pg_perm.specs.declared.kinds.Event.{Event}
use Rattle.pg_perm.specs.declared.kinds.Who.{Who}
use Rattle.pg_perm.specs.declared.kinds.Left.{Left}
use Rattle.pg_perm.specs.declared.kinds.ReqClass.{ReqClass}
use Rattle.pg_perm.specs.declared.kinds.FwdClass.{FwdClass}
use Rattle.pg_perm.specs.declared.kinds.FwdClass.TheVariants.{Keep}
use Rattle.pg_perm.specs.contracts.kinds.Event.{the_type as event_type}
use Rattle.pg_perm.specs.contracts.kinds.Who.{the_type as who_type}
use Rattle.pg_perm.specs.contracts.kinds.Left.{the_type as left_type}
use Rattle.pg_perm.specs.contracts.kinds.ReqClass.{the_type as request_type}
use Rattle.pg_perm.specs.contracts.kinds.FwdClass.{the_type as forward_type}
use Rattle.pg_perm.specs.declared.draft.MsgClass.{MsgClass}
use Rattle.pg_perm.specs.declared.draft.MsgClass.TheVariants.{Request, Forward, Reply}
use Rattle.pg_perm.specs.declared.draft.Draft.{Draft}
use Rattle.pg_perm.specs.declared.draft.CacheLine.{CacheLine}
use Rattle.pg_perm.specs.declared.draft.CoreLine.{CoreLine}
use Rattle.pg_perm.specs.declared.draft.TakeLine.{TakeLine}
use Rattle.pg_perm.specs.declared.draft.RowLine.{RowLine}
use Rattle.pg_perm.specs.declared.draft.RowForm.{RowForm}
use Rattle.pg_perm.specs.declared.draft.RowForm.TheVariants as form
use Rattle.pg_terms.specs.declared.cases.DirCase.{DirCase}
use Rattle.pg_terms.specs.declared.cases.DirCase.TheVariants as case

-- Roles and permissions

abbrev pub is_out : Role → Bool
is_out role.Out = true
is_out role.Shared = false
is_out role.Owner = false

abbrev pub is_shared : Role → Bool
is_shared role.Out = false
is_shared role.Shared = true
is_shared role.Owner = false

abbrev pub is_owner : Role → Bool
is_owner role.Out = false
is_owner role.Shared = false
is_owner role.Owner = true

abbrev pub is_none_perm : Perm → Bool
is_none_perm perm.None = true
is_none_perm perm.Read = false
is_none_perm perm.Write = false

abbrev pub is_read_perm : Perm → Bool
is_read_perm perm.None = false
is_read_perm perm.Read = true
is_read_perm perm.Write = false

abbrev pub is_write_perm : Perm → Bool
is_write_perm perm.None = false
is_write_perm perm.Read = false
is_write_perm perm.Write = true

-- Sameness of kinds: the `==` of the code

abbrev pub same_event : Event → Event → Bool
same_event = sameb event_type

abbrev pub same_who : Who → Who → Bool
same_who = sameb who_type

abbrev pub same_left : Left → Left → Bool
same_left = sameb left_type

abbrev pub same_request : ReqClass → ReqClass → Bool
same_request = sameb request_type

abbrev pub same_forward : FwdClass → FwdClass → Bool
same_forward = sameb forward_type

-- Classes of messages

-- a request of a class
abbrev pub is_request_of : ReqClass → MsgClass → Bool
is_request_of class (Request c) = same_request class c
is_request_of class (Forward c) = false
is_request_of class Reply = false

-- a forward of a class
abbrev pub is_forward_of : FwdClass → MsgClass → Bool
is_forward_of class (Request c) = false
is_forward_of class (Forward c) = same_forward class c
is_forward_of class Reply = false

-- there is such a state or message, and it is this one
abbrev pub is : Option ℕ → ℕ → Bool
is None n = false
is (Some m) n = m == n

-- there is such a state or message, and it is another one
abbrev pub is_other : Option ℕ → ℕ → Bool
is_other None n = false
is_other (Some m) n = not (m == n)

-- Cache states

-- an owner that may write
abbrev pub is_write_owner : CacheLine → Bool
is_write_owner c = is_owner c.role && is_write_perm c.perm

-- an owner that may only read
abbrev pub is_read_owner : CacheLine → Bool
is_read_owner c = is_owner c.role && is_read_perm c.perm

-- there is a cache state of this number, and it is so
abbrev pub cache_is : (CacheLine → Bool) → Draft → ℕ → Bool
cache_is test d s = option_map_or test (slice_get d.caches s) false

-- the out state: the first of its role
abbrev pub out : Draft → Option ℕ
out d = position (λ c. is_out c.role) d.caches

-- the shared state: the first of its role
abbrev pub shared : Draft → Option ℕ
shared d = position (λ c. is_shared c.role) d.caches

-- what a core may do in a cache state
abbrev pub perm_of : Draft → ℕ → Option Perm
perm_of d s = option_map (λ c. c.perm) (slice_get d.caches s)

-- Messages

-- the first request of a class
abbrev pub request_of : Draft → ReqClass → Option ℕ
request_of d class = position (λ m. is_request_of class m.class) d.messages

-- the first forward of a class
abbrev pub forward_of : Draft → FwdClass → Option ℕ
forward_of d class = position (λ m. is_forward_of class m.class) d.messages

-- there is a forward of this number, and it is of the class
abbrev pub has_class : FwdClass → Draft → ℕ → Bool
has_class class d f = option_map_or (λ m. is_forward_of class m.class) (slice_get d.messages f) false

-- Directory states

-- the cache states that a directory state lists
abbrev pub listed_states : Draft → ℕ → List ℕ
listed_states d n = option_map_or (λ l. l.beside) (slice_get d.dirs n) []

-- a list of states has this one
abbrev pub lists_state : List ℕ → ℕ → Bool
lists_state states s = list_any (λ x. x == s) states

-- a directory state lists a cache state
abbrev pub lists : Draft → ℕ → ℕ → Bool
lists d n s = lists_state (listed_states d n) s

-- Rows: of the lines of a case the first

abbrev pub core_row : Draft → ℕ → Event → Option CoreLine
core_row d s event = find (λ c. (c.state == s) && same_event c.event event) d.cores

abbrev pub take_row : Draft → ℕ → ℕ → Option TakeLine
take_row d s f = find (λ t. (t.state == s) && (t.forward == f)) d.takes

-- a row line of this form is for a case
abbrev pub is_case : Draft → RowForm → DirCase → Bool
is_case d (form.Ask request who action) (case.Ask class w) = is (request_of d class) request && same_who who w
is_case d (form.Ask request who action) (case.Evict w l) = false
is_case d (form.Evict who left) (case.Ask class w) = false
is_case d (form.Evict who left) (case.Evict w l) = same_who who w && same_left left l

abbrev pub dir_row : Draft → ℕ → DirCase → Option RowLine
dir_row d n at = find (λ r. (r.dir == n) && is_case d r.form at) d.rows

-- the state that the keep forward leads this state to
abbrev pub keep_of : Draft → ℕ → Option ℕ
keep_of d s = option_map (λ t. t.next) (option_and_then (λ f. take_row d s f) (forward_of d Keep))
