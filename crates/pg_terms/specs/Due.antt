-- What is due at cache states and at directory states, and which replies are asked for.
use Rattle.std.specs.Prelude.{ℕ, Bool, true, false, ◌==◌, ◌&&◌, ◌||◌, List, [], ◌∷◌, slice_get, Option, Some, None}
use Rattle.std.specs.List.{list_any}
use Rattle.std.specs.Option.{option_map_or}
use denote.Enum.Bare.{sameb}
use Rattle.pg_perm.specs.contracts.kinds.DirKind.{the_type as kind_type}
use Rattle.pg_perm.specs.contracts.draft.ReplyNamePartialEq.TheImpl.{ghosts as of_reply}
use Rattle.pg_perm.specs.declared.kinds.DirKind.{DirKind}
use Rattle.pg_perm.specs.declared.kinds.DirKind.TheVariants as kind
use Rattle.pg_perm.specs.declared.kinds.Who.{Who}
use Rattle.pg_perm.specs.declared.kinds.Who.TheVariants.{Other, Sharer, Owner}
use Rattle.pg_perm.specs.declared.kinds.Left.TheVariants.{Last, More}
use Rattle.pg_perm.specs.declared.kinds.ReqClass.{ReqClass}
use Rattle.pg_perm.specs.declared.kinds.ReqClass.TheVariants.{Read, Write}
use Rattle.pg_perm.specs.declared.kinds.FwdClass.TheVariants.{Inv, Share, Keep, Drop}
use Rattle.pg_perm.specs.declared.draft.Draft.{Draft}
use Rattle.pg_perm.specs.declared.draft.TakeLine.{TakeLine}
use Rattle.pg_perm.specs.declared.draft.RowLine.{RowLine}
use Rattle.pg_perm.specs.declared.draft.RowForm.{RowForm}
use Rattle.pg_perm.specs.declared.draft.RowForm.TheVariants as form
use Rattle.pg_perm.specs.declared.draft.Action.{Action}
use Rattle.pg_perm.specs.declared.draft.Action.TheVariants as action
use Rattle.pg_perm.specs.declared.draft.ReplyName.{ReplyName}
use Rattle.pg_terms.specs.declared.cases.DirCase.{DirCase}
use Rattle.pg_terms.specs.declared.cases.DirCase.TheVariants as case
use Rattle.pg_terms.specs.contracts.cases.DirCasePartialEq.TheImpl.{ghosts as of_case}
use Rattle.pg_terms.specs.Terms.{is_owner, same_who, is, is_read_owner, cache_is, shared, request_of, forward_of, has_class, lists}

abbrev pub same_kind : DirKind → DirKind → Bool
same_kind = sameb kind_type

-- there is a directory state of this number, and it is of the kind
abbrev pub kind_is : DirKind → Draft → ℕ → Bool
kind_is k d n = option_map_or (λ l. same_kind k l.kind) (slice_get d.dirs n) false

-- Forwards

-- the forward with which a row line of this form passes a request on
abbrev pub forward_in : RowForm → Option ℕ
forward_in (form.Ask request who (action.Reply m)) = None
forward_in (form.Ask request who (action.Forward f)) = Some f
forward_in (form.Ask request who action.Count) = None
forward_in (form.Evict who left) = None

-- a forward to an owner: one of class share, keep or drop
abbrev pub is_to_owner : Draft → ℕ → Bool
is_to_owner d f = has_class Share d f || has_class Keep d f || has_class Drop d f

-- the row line passes a request on with this forward where the owner may be in this state
abbrev pub is_passed_to : Draft → ℕ → ℕ → RowLine → Bool
is_passed_to d s f r = is (forward_in r.form) f && lists d r.dir s

-- a cache in this state may get this forward: the shared state an invalidation, and an owner a share, keep or drop that a row line passes on to it
abbrev pub is_due : Draft → ℕ → ℕ → Bool
is_due d s f = (is (shared d) s && is (forward_of d Inv) f)
    || (cache_is (λ c. is_owner c.role) d s && is_to_owner d f && list_any (is_passed_to d s f) d.rows)

-- Directory cases

-- the cases that are due at a directory state of this kind, where the flag tells whether it lists a read owner
abbrev pub due_cases : DirKind → Bool → List DirCase
due_cases kind.Idle reads = case.Ask Read Other ∷ case.Ask Write Other ∷ []
due_cases kind.Shared reads =
    case.Ask Read Other ∷ case.Ask Write Other ∷ case.Ask Write Sharer ∷ case.Evict Sharer Last ∷ case.Evict Sharer More ∷ []
due_cases kind.Owned false = case.Ask Read Other ∷ case.Ask Write Other ∷ case.Evict Owner Last ∷ []
due_cases kind.Owned true = case.Ask Read Other ∷ case.Ask Write Other ∷ case.Ask Write Owner ∷ case.Evict Owner Last ∷ []
due_cases kind.Mixed reads =
    case.Ask Read Other ∷ case.Ask Write Other ∷ case.Ask Write Sharer ∷ case.Ask Write Owner
    ∷ case.Evict Owner Last ∷ case.Evict Owner More ∷ case.Evict Sharer Last ∷ case.Evict Sharer More ∷ []

-- the owner may be in a state in which it may only read
abbrev pub lists_read_owner : Draft → List ℕ → Bool
lists_read_owner d states = list_any (cache_is is_read_owner d) states

-- the cases that are due at a directory state
abbrev pub cases_at : Draft → ℕ → List DirCase
cases_at d n = option_map_or (λ l. due_cases l.kind (lists_read_owner d l.beside)) (slice_get d.dirs n) []

abbrev pub same_case : DirCase → DirCase → Bool
same_case = of_case.eq

abbrev pub is_due_case : Draft → ℕ → DirCase → Bool
is_due_case d n at = list_any (same_case at) (cases_at d n)

-- Replies

abbrev pub same_reply : ReplyName → ReplyName → Bool
same_reply = of_reply.eq

-- the row line is for the first request of a class
abbrev pub is_row_for : Draft → ReqClass → RowForm → Bool
is_row_for d class (form.Ask request who action) = is (request_of d class) request
is_row_for d class (form.Evict who left) = false

-- the row line is for the first request of a class, from a sender that is other, a sharer or the owner
abbrev pub is_row_from : Draft → ReqClass → Who → RowForm → Bool
is_row_from d class w (form.Ask request who action) = is (request_of d class) request && same_who who w
is_row_from d class w (form.Evict who left) = false

-- the take line answers the forward with the reply, in a state that the owner may be in at this directory state
abbrev pub is_answer : Draft → ℕ → ℕ → ℕ → TakeLine → Bool
is_answer d n f m t = (t.forward == f) && is t.reply m && lists d n t.state

-- the requestor may get this reply where a directory state has this action
abbrev pub brings_reply : Draft → ℕ → Action → ℕ → Bool
brings_reply d n (action.Reply m) reply = m == reply
brings_reply d n (action.Forward f) reply = list_any (is_answer d n f reply) d.takes
brings_reply d n action.Count reply = false

-- the requestor may get this reply where a row line of a directory state has this form
abbrev pub row_brings_reply : Draft → ℕ → RowForm → ℕ → Bool
row_brings_reply d n (form.Ask request who action) reply = brings_reply d n action reply
row_brings_reply d n (form.Evict who left) reply = false

-- a reply that a load may get
abbrev pub is_load_reply : Draft → ℕ → Bool
is_load_reply d reply = list_any (λ r. is_row_for d Read r.form && row_brings_reply d r.dir r.form reply) d.rows

-- a reply that a store may get from a sender that is other, a sharer or the owner
abbrev pub is_store_reply : Draft → Who → ℕ → Bool
is_store_reply d who reply = list_any (λ r. is_row_from d Write who r.form && row_brings_reply d r.dir r.form reply) d.rows
