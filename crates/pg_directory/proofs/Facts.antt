-- Facts on kinds, classes and cache states: which of them exclude one another.
use Rattle.std.proofs.Common.{◌≡◌, ℕ, Bool, true, false, not, ◌&&◌, Option, Some, None, refl, sym, subst, ap, ◌∙◌}
use Rattle.std.specs.Prelude.{slice_get}
use Rattle.std.specs.Option.{option_map, option_map_or, option_and_then}
use Rattle.std.specs.List.{list_any}
use Rattle.std.proofs.lemmas.Bool.{and_parts, and_from, false_from_ne_true}
use Rattle.pg_perm.specs.declared.kinds.Role.{Role}
use Rattle.pg_perm.specs.declared.kinds.Role.TheVariants as role
use Rattle.pg_perm.specs.declared.kinds.Perm.{Perm}
use Rattle.pg_perm.specs.declared.kinds.Perm.TheVariants as perm
use Rattle.pg_perm.specs.declared.kinds.DirKind.{DirKind}
use Rattle.pg_perm.specs.declared.kinds.DirKind.TheVariants as kind
use Rattle.pg_perm.specs.declared.kinds.Event.TheVariants.{Load, Store}
use Rattle.pg_perm.specs.declared.kinds.FwdClass.{FwdClass}
use Rattle.pg_perm.specs.declared.kinds.FwdClass.TheVariants.{Share, Keep, Drop}
use Rattle.pg_perm.specs.declared.draft.Draft.{Draft}
use Rattle.pg_perm.specs.declared.draft.CacheLine.{CacheLine}
use Rattle.pg_perm.specs.declared.draft.DirLine.{DirLine}
use Rattle.pg_perm.specs.declared.draft.MsgLine.{MsgLine}
use Rattle.pg_perm.specs.declared.draft.TakeLine.{TakeLine}
use Rattle.pg_perm.specs.declared.draft.RowForm.{RowForm}
use Rattle.pg_perm.specs.declared.draft.RowForm.TheVariants as form
use Rattle.pg_perm.specs.declared.draft.MsgClass.{MsgClass}
use Rattle.pg_perm.specs.declared.draft.MsgClass.TheVariants.{Request, Forward, Reply}
use Rattle.pg_perm.specs.declared.draft.Action.TheVariants as action
use Rattle.pg_terms.specs.Terms.{is_out, is_shared, is_owner, is_none_perm, is_read_perm, is_write_perm, is_forward_of, is_write_owner, is_read_owner, cache_is, out, shared, forward_of, has_class, lists, take_row, keep_of}
use Rattle.pg_terms.specs.Due.{same_kind, kind_is, forward_in}
use Rattle.pg_terms.proofs.Same.{kind_equal, forward_equal}
use Rattle.pg_shape.specs.CoreRules.{is_dirty_writer}
use Rattle.pg_terms.specs.Rows.{allows, action_in}
use Rattle.pg_shape.specs.DirRules.{has_no_owner}
use Rattle.pg_shape.specs.Shaped.{HasPerms, HasLists, HasForwards}
use Rattle.pg_shape.proofs.Searches.{not_both, any_at, position_get, position_none, map_or_get}

-- Kinds of directory states

-- a directory state is of one kind
pub one_kind : (d : Draft) (n : ℕ) (a b : DirKind) → kind_is a d n ≡ true → kind_is b d n ≡ true → a ≡ b
one_kind d n a b h g =
    let (l, get, same) = map_or_get (λ l. same_kind a l.kind) (slice_get d.dirs n) h in
    let other : same_kind b l.kind ≡ true = ap (λ (o : Option DirLine). option_map_or (λ l. same_kind b l.kind) o false) (sym get) ∙ g in
    kind_equal a l.kind same ∙ sym (kind_equal b l.kind other)

-- kind shared and kind mixed aren't owned
pub shared_not_owned : (d : Draft) (n : ℕ) → kind_is kind.Shared d n ≡ true → kind_is kind.Owned d n ≡ false
shared_not_owned d n h = false_from_ne_true (kind_is kind.Owned d n) (λ g. absurd (cc (one_kind d n kind.Shared kind.Owned h g)))

pub mixed_not_owned : (d : Draft) (n : ℕ) → kind_is kind.Mixed d n ≡ true → kind_is kind.Owned d n ≡ false
mixed_not_owned d n h = false_from_ne_true (kind_is kind.Owned d n) (λ g. absurd (cc (one_kind d n kind.Mixed kind.Owned h g)))

-- Classes of forwards

one_class_of : (a b : FwdClass) (m : MsgClass) → is_forward_of a m ≡ true → is_forward_of b m ≡ true → a ≡ b
one_class_of a b (Request c) h g = absurd cc
one_class_of a b (Forward c) h g = forward_equal a c h ∙ sym (forward_equal b c g)
one_class_of a b Reply h g = absurd cc

-- a forward is of one class
pub one_class : (d : Draft) (f : ℕ) (a b : FwdClass) → has_class a d f ≡ true → has_class b d f ≡ true → a ≡ b
one_class d f a b h g =
    let (m, get, same) = map_or_get (λ m. is_forward_of a m.class) (slice_get d.messages f) h in
    one_class_of a b m.class same (ap (λ (o : Option MsgLine). option_map_or (λ m. is_forward_of b m.class) o false) (sym get) ∙ g)

-- a keep and a drop are no share
pub keep_no_share : (d : Draft) (f : ℕ) → has_class Keep d f ≡ true → has_class Share d f ≡ false
keep_no_share d f h = false_from_ne_true (has_class Share d f) (λ g. absurd (cc (one_class d f Keep Share h g)))

pub drop_no_share : (d : Draft) (f : ℕ) → has_class Drop d f ≡ true → has_class Share d f ≡ false
drop_no_share d f h = false_from_ne_true (has_class Share d f) (λ g. absurd (cc (one_class d f Drop Share h g)))

pub drop_no_keep : (d : Draft) (f : ℕ) → has_class Drop d f ≡ true → has_class Keep d f ≡ false
drop_no_keep d f h = false_from_ne_true (has_class Keep d f) (λ g. absurd (cc (one_class d f Drop Keep h g)))

-- the first forward of a class is of it
pub first_has_class : (d : Draft) (class : FwdClass) (f : ℕ) → forward_of d class ≡ Some f → has_class class d f ≡ true
first_has_class d class f e =
    let (m, get, same) = (position_get (λ m. is_forward_of class m.class) d.messages f e).1 in
    ap (λ (o : Option MsgLine). option_map_or (λ m. is_forward_of class m.class) o false) get ∙ same

-- and a forward of a class is the first
pub is_first_of_class : (d : Draft) → HasForwards d → (class : FwdClass) (f : ℕ) → has_class class d f ≡ true → forward_of d class ≡ Some f
is_first_of_class d forwards class f h = at (forward_of d class) refl
  where
    at : (o : Option ℕ) → forward_of d class ≡ o → o ≡ Some f
    at None e =
        let (m, get, same) = map_or_get (λ m. is_forward_of class m.class) (slice_get d.messages f) h in
        absurd (not_both (list_any (λ m. is_forward_of class m.class) d.messages)
        (any_at (λ m. is_forward_of class m.class) d.messages f m get same)
        (position_none (λ m. is_forward_of class m.class) d.messages e))
    at (Some g) e = ap Some (forwards.one class g f (first_has_class d class g e) h)

-- the state that a keep leads to
pub keep_of-take_row : (d : Draft) → HasForwards d → (f x : ℕ) (t : TakeLine) → has_class Keep d f ≡ true → take_row d x f ≡ Some t → keep_of d x ≡ Some t.next
keep_of-take_row d forwards f x t h e =
    ap (λ (o : Option ℕ). option_map (λ t. t.next) (option_and_then (λ f. take_row d x f) o)) (is_first_of_class d forwards Keep f h)
    ∙ ap (λ (o : Option TakeLine). option_map (λ t. t.next) o) e

-- What a row line does

-- what is passed on is the action's forward
pub forward_acts : (f : ℕ) (r : RowForm) → forward_in r ≡ Some f → action_in r ≡ Some (action.Forward f)
forward_acts f (form.Ask request who (action.Reply m)) h = absurd cc
forward_acts f (form.Ask request who (action.Forward g)) h = cc h
forward_acts f (form.Ask request who action.Count) h = absurd cc
forward_acts f (form.Evict who left) h = absurd cc

pub action_forwards : (f : ℕ) (r : RowForm) → action_in r ≡ Some (action.Forward f) → forward_in r ≡ Some f
action_forwards f (form.Ask request who (action.Reply m)) h = absurd cc
action_forwards f (form.Ask request who (action.Forward g)) h = cc h
action_forwards f (form.Ask request who action.Count) h = absurd cc
action_forwards f (form.Evict who left) h = absurd cc

pub reply_forwards_nothing : (m : ℕ) (r : RowForm) → action_in r ≡ Some (action.Reply m) → forward_in r ≡ None
reply_forwards_nothing m (form.Ask request who (action.Reply n)) h = refl
reply_forwards_nothing m (form.Ask request who (action.Forward g)) h = absurd cc
reply_forwards_nothing m (form.Ask request who action.Count) h = absurd cc
reply_forwards_nothing m (form.Evict who left) h = absurd cc

-- Cache states

-- where the line of a state passes, and what passes isn't so, the state isn't so
cache_apart : (d : Draft) (x : ℕ) (p q : CacheLine → Bool) (c : CacheLine) → slice_get d.caches x ≡ Some c → p c ≡ true
    → ((c : CacheLine) → p c ≡ true → q c ≡ false) → cache_is q d x ≡ false
cache_apart d x p q c get h apart = ap (λ (o : Option CacheLine). option_map_or q o false) get ∙ apart c h

out_no_owner : (r : Role) (b : Bool) → is_out r ≡ true → (is_owner r && b) ≡ false
out_no_owner role.Out b h = refl
out_no_owner role.Shared b h = absurd cc
out_no_owner role.Owner b h = absurd cc

shared_no_owner : (r : Role) (b : Bool) → is_shared r ≡ true → (is_owner r && b) ≡ false
shared_no_owner role.Out b h = absurd cc
shared_no_owner role.Shared b h = refl
shared_no_owner role.Owner b h = absurd cc

reads_no_write : (b : Bool) (p : Perm) → (b && is_read_perm p) ≡ true → (b && is_write_perm p) ≡ false
reads_no_write true perm.None h = absurd cc
reads_no_write true perm.Read h = refl
reads_no_write true perm.Write h = absurd cc
reads_no_write false p h = refl

-- an out or shared state and an owner that may only read may not write
pub out_no_writer : (d : Draft) (x : ℕ) → out d ≡ Some x → cache_is is_write_owner d x ≡ false
out_no_writer d x e =
    let (c, get, same) = (position_get (λ c. is_out c.role) d.caches x e).1 in
    cache_apart d x (λ c. is_out c.role) is_write_owner c get same (λ c h. out_no_owner c.role (is_write_perm c.perm) h)

pub shared_no_writer : (d : Draft) (x : ℕ) → shared d ≡ Some x → cache_is is_write_owner d x ≡ false
shared_no_writer d x e =
    let (c, get, same) = (position_get (λ c. is_shared c.role) d.caches x e).1 in
    cache_apart d x (λ c. is_shared c.role) is_write_owner c get same (λ c h. shared_no_owner c.role (is_write_perm c.perm) h)

pub reader_no_writer : (d : Draft) (x : ℕ) → cache_is is_read_owner d x ≡ true → cache_is is_write_owner d x ≡ false
reader_no_writer d x h =
    let (c, get, same) = map_or_get is_read_owner (slice_get d.caches x) h in
    cache_apart d x is_read_owner is_write_owner c get same (λ c h. reads_no_write (is_owner c.role) c.perm h)

-- where the line of a state passes, and what passes is so, the state is so
cache_passes : (d : Draft) (x : ℕ) (q : CacheLine → Bool) (c : CacheLine) → slice_get d.caches x ≡ Some c → q c ≡ true → cache_is q d x ≡ true
cache_passes d x q c get h = ap (λ (o : Option CacheLine). option_map_or q o false) get ∙ h

read_allows : (p : Perm) → is_read_perm p ≡ true → not (is_none_perm p) ≡ true
read_allows perm.None h = absurd cc
read_allows perm.Read h = refl
read_allows perm.Write h = refl

some_reads : (o : Bool) (p : Perm) → o ≡ true → is_none_perm p ≡ false → is_write_perm p ≡ false → (o && is_read_perm p) ≡ true
some_reads o perm.None h none write = absurd cc
some_reads o perm.Read h none write = and_from o true h refl
some_reads o perm.Write h none write = absurd cc

-- shared and each owner allow a load
pub shared_allows_load : (d : Draft) (x : ℕ) → HasPerms d → shared d ≡ Some x → cache_is (allows Load) d x ≡ true
shared_allows_load d x perms e =
    let (c, get, same) = (position_get (λ c. is_shared c.role) d.caches x e).1 in
    cache_passes d x (allows Load) c get (read_allows c.perm (perms.shared_read x c get same).1)

pub owner_allows_load : (d : Draft) (x : ℕ) → HasPerms d → cache_is (λ c. is_owner c.role) d x ≡ true → cache_is (allows Load) d x ≡ true
owner_allows_load d x perms h =
    let (c, get, same) = map_or_get (λ c. is_owner c.role) (slice_get d.caches x) h in
    cache_passes d x (allows Load) c get (ap not (perms.owner_some x c get same))

-- an owner that may write allows a store
pub writer_allows_store : (d : Draft) (x : ℕ) → cache_is is_dirty_writer d x ≡ true → cache_is (allows Store) d x ≡ true
writer_allows_store d x h =
    let (c, get, same) = map_or_get is_dirty_writer (slice_get d.caches x) h in
    cache_passes d x (allows Store) c get (and_parts (is_owner c.role) (is_write_perm c.perm) (and_parts (is_write_owner c) (not c.clean) same).0).1

-- and an owner that allows none may only read
pub owner_reads : (d : Draft) (x : ℕ) → HasPerms d → cache_is (λ c. is_owner c.role) d x ≡ true → cache_is (allows Store) d x ≡ false → cache_is is_read_owner d x ≡ true
owner_reads d x perms h no_store =
    let (c, get, same) = map_or_get (λ c. is_owner c.role) (slice_get d.caches x) h in
    let denied : is_write_perm c.perm ≡ false = ap (λ (o : Option CacheLine). option_map_or (allows Store) o false) (sym get) ∙ no_store in
    cache_passes d x is_read_owner c get (some_reads (is_owner c.role) c.perm same (perms.owner_some x c get same) denied)

-- Directory states with an owner

-- a directory state of kind owned or mixed lists some state
pub lists_some_owner : (d : Draft) (n : ℕ) (k : DirKind) → HasLists d → has_no_owner k ≡ false → kind_is k d n ≡ true → (x : ℕ) × (lists d n x ≡ true)
lists_some_owner d n k all h is_kind =
    let (l, get, same) = map_or_get (λ l. same_kind k l.kind) (slice_get d.dirs n) is_kind in
    all.lists_some n l get (subst (λ (k : DirKind). has_no_owner k ≡ false) (kind_equal k l.kind same) h)
