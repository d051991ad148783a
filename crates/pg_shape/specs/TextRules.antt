-- The rules that the protocol line breaks: what the whole text lacks.
-- S2: no out state, or no write owner.
-- S4: no idle directory state, or a shared cache state and no directory state of kind shared.
-- S5: no READ, or no WRITE.
-- S6: a shared state without inv.
use Rattle.std.specs.Prelude.{Bool, false, not, ◌&&◌, ◌||◌, is_none, is_some}
use Rattle.std.specs.List.{list_any}
use Rattle.pg_perm.specs.declared.draft.Draft.{Draft}
use Rattle.pg_perm.specs.declared.kinds.ReqClass.TheVariants.{Read, Write}
use Rattle.pg_perm.specs.declared.kinds.FwdClass.TheVariants.{Inv}
use Rattle.pg_perm.specs.declared.kinds.DirKind.{DirKind}
use Rattle.pg_perm.specs.declared.kinds.DirKind.TheVariants as kind
use Rattle.pg_perm.specs.declared.fault.Rule.{Rule}
use Rattle.pg_perm.specs.declared.fault.Rule.TheVariants.{S2, S4, S5, S6}
use Rattle.pg_terms.specs.Terms.{is_write_owner, out, shared, request_of, forward_of}
use Rattle.pg_terms.specs.Due.{same_kind}

-- S2: there is no out state, or no owner that may write
abbrev pub lacks_states : Draft → Bool
lacks_states d = is_none (out d) || not (list_any is_write_owner d.caches)

-- there is a directory state of a kind
abbrev pub has_kind : DirKind → Draft → Bool
has_kind k d = list_any (λ l. same_kind k l.kind) d.dirs

-- S4: there is no idle directory state, or there is a shared state and no directory state of kind shared
abbrev pub lacks_dirs : Draft → Bool
lacks_dirs d = not (has_kind kind.Idle d) || (is_some (shared d) && not (has_kind kind.Shared d))

-- S5: there is no READ, or no WRITE
abbrev pub lacks_requests : Draft → Bool
lacks_requests d = is_none (request_of d Read) || is_none (request_of d Write)

-- S6: there is a shared state and no invalidation forward
abbrev pub lacks_inv : Draft → Bool
lacks_inv d = is_some (shared d) && is_none (forward_of d Inv)

abbrev pub text_breaks : Draft → Rule → Bool
text_breaks d S2 = lacks_states d
text_breaks d S4 = lacks_dirs d
text_breaks d S5 = lacks_requests d
text_breaks d S6 = lacks_inv d
text_breaks d R = false
