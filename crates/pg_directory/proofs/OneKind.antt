-- A request is of one kind alone, by what was asked and done.
use Rattle.std.proofs.Common.{◌≡◌, ℕ, Bool, Option, Some, None, sym, ap, ◌∙◌}
use Rattle.std.specs.Prelude.{if◌then◌else◌}
use Rattle.std.specs.Option.{option_and_then}
use Rattle.pg_perm.specs.declared.kinds.DirKind.TheVariants as dirs
use Rattle.pg_perm.specs.declared.kinds.Event.{Event}
use Rattle.pg_perm.specs.declared.kinds.Event.TheVariants.{Load, Store, Evict}
use Rattle.pg_perm.specs.declared.kinds.Who.{Who}
use Rattle.pg_perm.specs.declared.kinds.Who.TheVariants.{Other, Sharer, Owner}
use Rattle.pg_perm.specs.declared.kinds.FwdClass.TheVariants.{Share, Keep}
use Rattle.pg_perm.specs.declared.draft.Draft.{Draft}
use Rattle.pg_perm.specs.declared.draft.Action.{Action}
use Rattle.pg_perm.specs.declared.draft.Action.TheVariants.{Reply, Forward, Count}
use Rattle.pg_terms.specs.Terms.{has_class}
use Rattle.pg_terms.specs.Due.{kind_is}
use Rattle.pg_terms.specs.Rows.{action_in}
use Rattle.pg_directory.specs.DirEntries.{DirEntry, Request, who, row_of, entry_after}
use Rattle.pg_directory.specs.Kinds.{Kind, Stale, Read_shared, Read_owned, Read_share, Read_keep, Read_drop, Write_reply, Write_drop, Write_count, Evict_owner, Evict_sharer, IsOfKind}
use Rattle.pg_directory.proofs.Facts.{keep_no_share, drop_no_share, drop_no_keep, shared_not_owned}

-- the kind, by what was asked and done, what the requestor was, and whether the next directory state is owned
abbrev kind_by : Draft → Event → Option Action → Who → Bool → Kind
kind_by d Load (Some (Reply m)) w owned = if owned then Read_owned else Read_shared
kind_by d Load (Some (Forward f)) w owned = if has_class Share d f then Read_share f else if has_class Keep d f then Read_keep f else Read_drop f
kind_by d Load (Some Count) w owned = Stale
kind_by d Load None w owned = Stale
kind_by d Store (Some (Reply m)) w owned = Write_reply
kind_by d Store (Some (Forward f)) w owned = Write_drop f
kind_by d Store (Some Count) w owned = Write_count
kind_by d Store None w owned = Stale
kind_by d Evict does Other owned = Stale
kind_by d Evict does Sharer owned = Evict_sharer
kind_by d Evict does Owner owned = Evict_owner

abbrev does_of : Draft → DirEntry → Request → Option Action
does_of d s q = option_and_then (λ r. action_in r.form) (row_of d s q)

abbrev kind_of : Draft → DirEntry → Request → Kind
kind_of d s q = kind_by d q.event (does_of d s q) (who s q.core) (kind_is dirs.Owned d (entry_after d s q).dir)

-- the kind of a request, by what is asked and done
kind_by_request : (d : Draft) (s : DirEntry) (q : Request) (e : Event) (a : Option Action) → q.event ≡ e → does_of d s q ≡ a
    → kind_of d s q ≡ kind_by d e a (who s q.core) (kind_is dirs.Owned d (entry_after d s q).dir)
kind_by_request d s q e a asks does =
    ap (λ (e : Event). kind_by d e (does_of d s q) (who s q.core) (kind_is dirs.Owned d (entry_after d s q).dir)) asks
    ∙ ap (λ (a : Option Action). kind_by d e a (who s q.core) (kind_is dirs.Owned d (entry_after d s q).dir)) does

is_kind_of : (d : Draft) (s : DirEntry) (q : Request) (k : Kind) (next : ℕ) → IsOfKind d s q k next → kind_of d s q ≡ k
is_kind_of d s q Stale next of = kind_by_request d s q Evict None of.asks of.does ∙ ap (λ (w : Who). kind_by d Evict None w (kind_is dirs.Owned d (entry_after d s q).dir)) of.known
is_kind_of d s q Read_shared next of =
    kind_by_request d s q Load (Some (Reply of.does.0)) of.asks of.does.1
    ∙ ap (λ (t : DirEntry). if kind_is dirs.Owned d t.dir then Read_owned else Read_shared) of.knows
    ∙ ap (λ (b : Bool). if b then Read_owned else Read_shared) (shared_not_owned d next of.known.2)
is_kind_of d s q Read_owned next of =
    kind_by_request d s q Load (Some (Reply of.does.0)) of.asks of.does.1
    ∙ ap (λ (t : DirEntry). if kind_is dirs.Owned d t.dir then Read_owned else Read_shared) of.knows
    ∙ ap (λ (b : Bool). if b then Read_owned else Read_shared) of.known.2
is_kind_of d s q (Read_share f) next of =
    kind_by_request d s q Load (Some (Forward f)) of.asks of.does
    ∙ ap (λ (b : Bool). if b then Read_share f else if has_class Keep d f then Read_keep f else Read_drop f) of.known.2
is_kind_of d s q (Read_keep f) next of =
    kind_by_request d s q Load (Some (Forward f)) of.asks of.does
    ∙ ap (λ (b : Bool). if b then Read_share f else if has_class Keep d f then Read_keep f else Read_drop f) (keep_no_share d f of.known.2)
    ∙ ap (λ (b : Bool). if b then Read_keep f else Read_drop f) of.known.2
is_kind_of d s q (Read_drop f) next of =
    kind_by_request d s q Load (Some (Forward f)) of.asks of.does
    ∙ ap (λ (b : Bool). if b then Read_share f else if has_class Keep d f then Read_keep f else Read_drop f) (drop_no_share d f of.known.3)
    ∙ ap (λ (b : Bool). if b then Read_keep f else Read_drop f) (drop_no_keep d f of.known.3)
is_kind_of d s q Write_reply next of = kind_by_request d s q Store (Some (Reply of.does.0)) of.asks of.does.1
is_kind_of d s q (Write_drop f) next of = kind_by_request d s q Store (Some (Forward f)) of.asks of.does
is_kind_of d s q Write_count next of = kind_by_request d s q Store (Some Count) of.asks of.does
is_kind_of d s q Evict_owner next of = kind_by_request d s q Evict None of.asks of.does ∙ ap (λ (w : Who). kind_by d Evict None w (kind_is dirs.Owned d (entry_after d s q).dir)) of.known.0
is_kind_of d s q Evict_sharer next of = kind_by_request d s q Evict None of.asks of.does ∙ ap (λ (w : Who). kind_by d Evict None w (kind_is dirs.Owned d (entry_after d s q).dir)) of.known.0

-- it is of one kind
pub of_one_kind : (d : Draft) (s : DirEntry) (q : Request) (j k : Kind) (m n : ℕ) → IsOfKind d s q j m → IsOfKind d s q k n → j ≡ k
of_one_kind d s q j k m n of other = sym (is_kind_of d s q j m of) ∙ is_kind_of d s q k n other
