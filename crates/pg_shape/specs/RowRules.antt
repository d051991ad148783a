-- The rules that a row line breaks.
-- S9: a case that an earlier line has.
-- S15: a case that isn't due.
-- S16: an action that the case may not have in a directory state of this kind.
-- S17: a next state that it may not lead to, which NextRules has.
use Rattle.std.specs.Prelude.{ℕ, Bool, true, false, not, ◌==◌, ◌&&◌, ◌||◌, List, take}
use Rattle.std.specs.List.{list_any}
use Rattle.pg_perm.specs.declared.kinds.DirKind.TheVariants as kind
use Rattle.pg_perm.specs.declared.kinds.Who.{Who}
use Rattle.pg_perm.specs.declared.kinds.Who.TheVariants.{Other, Sharer, Owner}
use Rattle.pg_perm.specs.declared.kinds.ReqClass.TheVariants.{Read, Write}
use Rattle.pg_perm.specs.declared.kinds.FwdClass.{FwdClass}
use Rattle.pg_perm.specs.declared.kinds.FwdClass.TheVariants.{Share, Keep, Drop}
use Rattle.pg_perm.specs.declared.draft.Draft.{Draft}
use Rattle.pg_perm.specs.declared.draft.RowLine.{RowLine}
use Rattle.pg_perm.specs.declared.draft.RowForm.{RowForm}
use Rattle.pg_perm.specs.declared.draft.RowForm.TheVariants as form
use Rattle.pg_perm.specs.declared.draft.Action.{Action}
use Rattle.pg_perm.specs.declared.draft.Action.TheVariants as action
use Rattle.pg_perm.specs.declared.fault.Rule.{Rule}
use Rattle.pg_perm.specs.declared.fault.Rule.TheVariants.{S9, S15, S16, S17}
use Rattle.pg_terms.specs.Terms.{same_who, same_left, is, request_of, has_class, is_case}
use Rattle.pg_terms.specs.Due.{kind_is, cases_at}
use Rattle.pg_shape.specs.NextRules.{leads_rightly}

-- two row lines of one directory state are for the same: they have the same third and fourth words and, for evicts, the same fifth
abbrev pub same_words : RowForm → RowForm → Bool
same_words (form.Ask request who action) (form.Ask q w a) = (request == q) && same_who who w
same_words (form.Evict who left) (form.Evict w l) = same_who who w && same_left left l
same_words _ _ = false

-- S9: a row line above it is for the same
abbrev pub has_row_line : List RowLine → RowLine → Bool
has_row_line above r = list_any (λ x. (x.dir == r.dir) && same_words x.form r.form) above

-- S15: it is for no case that is due
abbrev pub is_not_due : Draft → RowLine → Bool
is_not_due d r = not (list_any (is_case d r.form) (cases_at d r.dir))

abbrev pub is_reply : Action → Bool
is_reply (action.Reply m) = true
is_reply (action.Forward f) = false
is_reply action.Count = false

abbrev pub is_count : Action → Bool
is_count (action.Reply m) = false
is_count (action.Forward f) = false
is_count action.Count = true

-- the action passes the request on with a forward of a class
abbrev pub forwards_by_class : FwdClass → Draft → Action → Bool
forwards_by_class class d (action.Reply m) = false
forwards_by_class class d (action.Forward f) = has_class class d f
forwards_by_class class d action.Count = false

-- where there is an owner, READ is passed on, and where there may be sharers beside it, the owner keeps a copy
abbrev pub reads_by : Draft → ℕ → Action → Bool
reads_by d n action = (not (kind_is kind.Owned d n) || forwards_by_class Share d action || forwards_by_class Keep d action || forwards_by_class Drop d action)
    && (not (kind_is kind.Mixed d n) || forwards_by_class Share d action || forwards_by_class Keep d action)

-- where there is an owner, the WRITE of another or of a sharer drops it; the WRITE of the owner is counted
abbrev pub writes_by : Draft → ℕ → Who → Action → Bool
writes_by d n Other action = not (kind_is kind.Owned d n || kind_is kind.Mixed d n) || forwards_by_class Drop d action
writes_by d n Sharer action = not (kind_is kind.Owned d n || kind_is kind.Mixed d n) || forwards_by_class Drop d action
writes_by d n Owner action = is_count action

-- S16: the action is none that the case may have
abbrev pub acts_wrongly : Draft → ℕ → RowForm → Bool
acts_wrongly d n (form.Ask request who action) = ((kind_is kind.Idle d n || kind_is kind.Shared d n) && not (is_reply action))
    || (is (request_of d Read) request && not (reads_by d n action)) || (is (request_of d Write) request && not (writes_by d n who action))
acts_wrongly d n (form.Evict who left) = false

-- what row line n breaks
abbrev pub row_breaks : Draft → ℕ → RowLine → Rule → Bool
row_breaks d n r S9 = has_row_line (take n d.rows) r
row_breaks d n r S15 = is_not_due d r
row_breaks d n r S16 = acts_wrongly d r.dir r.form
row_breaks d n r S17 = not (leads_rightly d r r.form)
row_breaks d n r R = false
