-- The rules that the line of a directory state breaks.
-- S4: a second idle, or a list of states that its kind may not have.
-- S18: a due case of the state without a row line.
use Rattle.std.specs.Prelude.{ℕ, Bool, true, false, not, ◌&&◌, ◌||◌, List, [], ◌∷◌, take, is_none, is_some}
use Rattle.std.specs.List.{list_any}
use Rattle.pg_perm.specs.declared.draft.Draft.{Draft}
use Rattle.pg_perm.specs.declared.draft.DirLine.{DirLine}
use Rattle.pg_perm.specs.declared.kinds.DirKind.{DirKind}
use Rattle.pg_perm.specs.declared.kinds.DirKind.TheVariants as kind
use Rattle.pg_terms.specs.declared.cases.DirCase.{DirCase}
use Rattle.pg_terms.specs.declared.cases.DirCase.TheVariants as case
use Rattle.pg_perm.specs.declared.fault.Rule.{Rule}
use Rattle.pg_perm.specs.declared.fault.Rule.TheVariants.{S4, S18}
use Rattle.pg_terms.specs.Terms.{is_owner, is_write_owner, cache_is, shared, request_of, lists_state, dir_row}
use Rattle.pg_terms.specs.Due.{same_kind, cases_at}

abbrev pub is_idle : DirLine → Bool
is_idle l = same_kind kind.Idle l.kind

-- a second idle
abbrev pub is_second_idle : List DirLine → DirLine → Bool
is_second_idle above l = is_idle l && list_any is_idle above

-- idle and shared have no owner
abbrev pub has_no_owner : DirKind → Bool
has_no_owner k = same_kind kind.Idle k || same_kind kind.Shared k

abbrev pub is_empty : List ℕ → Bool
is_empty [] = true
is_empty (s ∷ states) = false

-- idle or shared that lists states, or owned or mixed that lists none
abbrev pub lists_wrong_number : DirLine → Bool
lists_wrong_number l = (has_no_owner l.kind && not (is_empty l.beside)) || (not (has_no_owner l.kind) && is_empty l.beside)

-- a state stands twice in a list
abbrev pub has_twice : List ℕ → Bool
has_twice [] = false
has_twice (s ∷ states) = lists_state states s || has_twice states

-- a listed state is no owner
abbrev pub lists_another : Draft → DirLine → Bool
lists_another d l = list_any (λ s. not (cache_is (λ c. is_owner c.role) d s)) l.beside

-- mixed lists an owner that may write
abbrev pub mixes_a_writer : Draft → DirLine → Bool
mixes_a_writer d l = same_kind kind.Mixed l.kind && list_any (cache_is is_write_owner d) l.beside

-- kind shared or mixed, and there is no shared state
abbrev pub lacks_shared : Draft → DirLine → Bool
lacks_shared d l = (same_kind kind.Shared l.kind || same_kind kind.Mixed l.kind) && is_none (shared d)

-- S4: one of the points above
abbrev pub lists_wrongly : Draft → List DirLine → DirLine → Bool
lists_wrongly d above l = is_second_idle above l || lists_wrong_number l || has_twice l.beside || lists_another d l || mixes_a_writer d l || lacks_shared d l

-- the request of the case is declared, and the case has no row line
abbrev pub lacks_row : Draft → ℕ → DirCase → Bool
lacks_row d n (case.Ask class who) = is_some (request_of d class) && is_none (dir_row d n (case.Ask class who))
lacks_row d n (case.Evict who left) = is_none (dir_row d n (case.Evict who left))

-- S18: a due case of this state without a row line
abbrev pub lacks_rows : Draft → ℕ → Bool
lacks_rows d n = list_any (lacks_row d n) (cases_at d n)

-- what the line of directory state n breaks
abbrev pub dir_breaks : Draft → ℕ → DirLine → Rule → Bool
dir_breaks d n l S4 = lists_wrongly d (take n d.dirs) l
dir_breaks d n l S18 = lacks_rows d n
dir_breaks d n l R = false
