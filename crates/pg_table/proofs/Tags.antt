-- What a tag tells: the state in which an operation ends once the later forwards have been answered.
use Rattle.std.proofs.Common.{◌≡◌, ℕ, ◌⊎◌, Bool, true, false, cond, ◌&&◌, Option, Some, None, refl, sym, subst, ap, ◌∙◌, inl, inr}
use Rattle.std.specs.Prelude.{slice_get}
use Rattle.std.specs.Option.{option_map_or}
use Rattle.std.specs.List.{list_any}
use Rattle.std.proofs.lemmas.Option.{same_Some}
use Rattle.std.proofs.lemmas.Bool.{and_parts, or_left, or_right}
use Rattle.pg_perm.specs.declared.kinds.Role.{Role}
use Rattle.pg_perm.specs.declared.kinds.Role.TheVariants as role
use Rattle.pg_perm.specs.declared.kinds.Event.{Event}
use Rattle.pg_perm.specs.declared.kinds.FwdClass.{FwdClass}
use Rattle.pg_perm.specs.declared.kinds.FwdClass.TheVariants.{Inv, Share, Keep, Drop}
use Rattle.pg_perm.specs.declared.draft.Draft.{Draft}
use Rattle.pg_perm.specs.declared.draft.CacheLine.{CacheLine}
use Rattle.pg_perm.specs.declared.draft.TakeLine.{TakeLine}
use Rattle.pg_terms.specs.Terms.{is_out, is_shared, is_owner, is, cache_is, out, shared, forward_of, has_class, take_row, keep_of}
use Rattle.pg_terms.specs.Due.{is_to_owner, is_passed_to, is_due}
use Rattle.pg_terms.specs.Rows.{may_keep}
use Rattle.pg_shape.specs.Shaped.{IsShaped}
use Rattle.pg_shape.proofs.Bools.{three_and, and_of_both, or_true}
use Rattle.pg_shape.proofs.Searches.{not_true, any_get, any_at, position_get, map_or_get}
use Rattle.pg_shape.proofs.Shaped.{is_then_some}
use Rattle.pg_directory.proofs.Facts.{one_class, first_has_class, is_first_of_class, keep_of-take_row}
use Rattle.pg_table.specs.declared.cache.Tag.{Tag}
use Rattle.pg_table.specs.declared.cache.Tag.TheVariants.{Plain, Kept, Gave, Gone}
use Rattle.pg_table.specs.Descriptors.{may_share, may_give, end_under_tag, final_states}
use Rattle.pg_table.specs.Choices.{is_later, tag_by}
use Rattle.pg_table.proofs.Forwards.{due_class}

-- Owners

out_apart : (r : Role) → is_out r ≡ true → is_owner r ≡ true → ⊥
out_apart role.Out h g = absurd cc
out_apart role.Shared h g = absurd cc
out_apart role.Owner h g = absurd cc

shared_apart : (r : Role) → is_shared r ≡ true → is_owner r ≡ true → ⊥
shared_apart role.Out h g = absurd cc
shared_apart role.Shared h g = absurd cc
shared_apart role.Owner h g = absurd cc

-- the line of a state tells what it is
line_is : (d : Draft) (x : ℕ) (p : CacheLine → Bool) (c : CacheLine) → slice_get d.caches x ≡ Some c → cache_is p d x ≡ true → p c ≡ true
line_is d x p c get h = ap (λ (o : Option CacheLine). option_map_or p o false) (sym get) ∙ h

out_no_owner : (d : Draft) (x : ℕ) → out d ≡ Some x → cache_is (λ c. is_owner c.role) d x ≡ true → ⊥
out_no_owner d x e own =
    let (c, get, there) = (position_get (λ c. is_out c.role) d.caches x e).1 in
    out_apart c.role there (line_is d x (λ c. is_owner c.role) c get own)

shared_no_owner : (d : Draft) (x : ℕ) → shared d ≡ Some x → cache_is (λ c. is_owner c.role) d x ≡ true → ⊥
shared_no_owner d x e own =
    let (c, get, there) = (position_get (λ c. is_shared c.role) d.caches x e).1 in
    shared_apart c.role there (line_is d x (λ c. is_owner c.role) c get own)

-- what is due and is no invalidation is due at an owner
due_owner : (d : Draft) (x g : ℕ) (class : FwdClass) → is_due d x g ≡ true → has_class class d g ≡ true → (class ≡ Inv → ⊥) → cache_is (λ c. is_owner c.role) d x ≡ true
due_owner d x g class due of other = at (or_true (is (shared d) x && is (forward_of d Inv) g) _ due)
  where
    at : ((is (shared d) x && is (forward_of d Inv) g) ≡ true)
        ⊎ ((cache_is (λ c. is_owner c.role) d x && is_to_owner d g && list_any (is_passed_to d x g) d.rows) ≡ true)
        → cache_is (λ c. is_owner c.role) d x ≡ true
    at (inl inv) = absurd (other (one_class d g class Inv of (first_has_class d Inv g (is_then_some (forward_of d Inv) g (and_parts (is (shared d) x) _ inv).1))))
    at (inr owned) = (three_and (cache_is (λ c. is_owner c.role) d x) (is_to_owner d g) _ owned).0

-- Tags

-- the tag of a class
abbrev tag_of : FwdClass → Tag
tag_of Inv = Gone
tag_of Share = Gave
tag_of Keep = Kept
tag_of Drop = Gone

not_class : (d : Draft) (g : ℕ) (a b : FwdClass) → has_class a d g ≡ true → (a ≡ b → ⊥) → has_class b d g ≡ false
not_class d g a b h apart = not_true (has_class b d g) (λ k. apart (one_class d g a b h k))

tag_is : (d : Draft) (g : ℕ) (class : FwdClass) → has_class class d g ≡ true → tag_by d g ≡ tag_of class
tag_is d g Inv h = rw (not_class d g Inv Share h (λ e. cc), not_class d g Inv Keep h (λ e. cc)) refl
tag_is d g Share h = rw h refl
tag_is d g Keep h = rw (not_class d g Keep Share h (λ e. cc), h) refl
tag_is d g Drop h = rw (not_class d g Drop Share h (λ e. cc), not_class d g Drop Keep h (λ e. cc)) refl

if_some : {X : Type 0} (b : Bool) (o : Option X) (x : X) → cond b o None ≡ Some x → (b ≡ true) × (o ≡ Some x)
if_some true o x h = (refl, h)
if_some false o x h = absurd cc

some_if : {X : Type 0} (b : Bool) (o : Option X) (x : X) → b ≡ true → o ≡ Some x → cond b o None ≡ Some x
some_if true o x h g = g
some_if false o x h g = absurd cc

-- a forward of a class that is due is the one of its class
due_first : (d : Draft) (x g : ℕ) (class : FwdClass) → IsShaped d → has_class class d g ≡ true → is_due d x g ≡ true → option_map_or (is_due d x) (forward_of d class) false ≡ true
due_first d x g class shape of due = ap (λ (o : Option ℕ). option_map_or (is_due d x) o false) (is_first_of_class d shape.forwards class g of) ∙ due

-- where a share is due at the state that a tag tells, the final state may be given
gives : (d : Draft) (f : ℕ) (t : Tag) (x g : ℕ) → IsShaped d → end_under_tag d f t ≡ Some x → is_due d x g ≡ true → has_class Share d g ≡ true → may_give d f ≡ true
gives d f Plain x g shape e due of =
    let due_f : is_due d f g ≡ true = subst (λ n. is_due d n g ≡ true) (sym (same_Some f x e)) due in
    or_left (may_share d f) (may_keep d f && option_map_or (may_share d) (keep_of d f) false) (due_first d f g Share shape of due_f)
gives d f Kept x g shape e due of =
    let (keeps, leads) = if_some (may_keep d f) (keep_of d f) x e in
    let there : option_map_or (may_share d) (keep_of d f) false ≡ true =
    ap (λ (o : Option ℕ). option_map_or (may_share d) o false) leads ∙ due_first d x g Share shape of due in
    or_right (may_share d f) (may_keep d f && option_map_or (may_share d) (keep_of d f) false) (and_of_both (may_keep d f) _ keeps there)
gives d f Gave x g shape e due of = (if_some (may_give d f) (shared d) x e).0
gives d f Gone x g shape e due of = absurd (out_no_owner d x e (due_owner d x g Share due of (λ s. cc)))

-- where a keep is due there, it leads to the state that the final state is kept in
keeps : (d : Draft) (f : ℕ) (t : Tag) (x g : ℕ) (l : TakeLine) → IsShaped d → end_under_tag d f t ≡ Some x → is_due d x g ≡ true → has_class Keep d g ≡ true
    → take_row d x g ≡ Some l → end_under_tag d f Kept ≡ Some l.next
keeps d f Plain x g l shape e due of row =
    let same : f ≡ x = same_Some f x e in
    let due_f : is_due d f g ≡ true = subst (λ n. is_due d n g ≡ true) (sym same) due in
    let row_f : take_row d f g ≡ Some l = subst (λ n. take_row d n g ≡ Some l) (sym same) row in
    some_if (may_keep d f) (keep_of d f) l.next (due_first d f g Keep shape of due_f) (keep_of-take_row d shape.forwards g f l of row_f)
keeps d f Kept x g l shape e due of row =
    let (may, leads) = if_some (may_keep d f) (keep_of d f) x e in
    let stays : keep_of d x ≡ Some x = shape.takes.settles f x leads (due_first d x g Keep shape of due) in
    some_if (may_keep d f) (keep_of d f) l.next may (leads ∙ sym stays ∙ keep_of-take_row d shape.forwards g x l of row)
keeps d f Gave x g l shape e due of row = absurd (shared_no_owner d x (if_some (may_give d f) (shared d) x e).1 (due_owner d x g Keep due of (λ s. cc)))
keeps d f Gone x g l shape e due of row = absurd (out_no_owner d x e (due_owner d x g Keep due of (λ s. cc)))

-- a forward that is due at the state which a tag tells is answered there, and its own tag tells where that leads
pub tag_tells_take_row : (d : Draft) (f : ℕ) (t : Tag) (x g : ℕ) → IsShaped d → end_under_tag d f t ≡ Some x → is_due d x g ≡ true
    → (l : TakeLine) × (take_row d x g ≡ Some l) × (end_under_tag d f (tag_by d g) ≡ Some l.next)
tag_tells_take_row d f t x g shape e due =
    let (l, row) = shape.takes.due x g due in
    let (class, of) = due_class d x g due in
    (l, row, ap (end_under_tag d f) (tag_is d g class of) ∙ at l row class of)
  where
    at : (l : TakeLine) → take_row d x g ≡ Some l → (class : FwdClass) → has_class class d g ≡ true → end_under_tag d f (tag_of class) ≡ Some l.next
    at l row Inv of = (shape.takes.inv x g l row of).1
    at l row Share of = some_if (may_give d f) (shared d) l.next (gives d f t x g shape e due of) (shape.takes.share x g l row of).1
    at l row Keep of = keeps d f t x g l shape e due of row
    at l row Drop of = (shape.takes.drop x g l row of).1

-- what was kept stays in its state where it is kept again
pub keep_stays : (d : Draft) (f x g : ℕ) → IsShaped d → end_under_tag d f Kept ≡ Some x → is_due d x g ≡ true → has_class Keep d g ≡ true
    → (l : TakeLine) × (take_row d x g ≡ Some l) × (l.next ≡ x)
keep_stays d f x g shape e due of =
    let (l, row, told) = tag_tells_take_row d f Kept x g shape e due in
    (l, row, same_Some l.next x (sym told ∙ ap (end_under_tag d f) (tag_is d g Keep of) ∙ e))

-- a later forward is due at the state that the tag tells of some final state
pub later_due : (d : Draft) (s : ℕ) (e : Event) (t : Tag) (g : ℕ) → is_later d s e t g ≡ true
    → (k : ℕ) × (f : ℕ) × (x : ℕ) × (slice_get (final_states d s e) k ≡ Some f) × (end_under_tag d f t ≡ Some x) × (is_due d x g ≡ true)
later_due d s e Plain g h = let (k, f, get, due) = any_get (λ x. is_due d x g) (final_states d s e) h in (k, f, f, get, refl, due)
later_due d s e Kept g h =
    let (k, f, get, both_so) = any_get (λ x. may_keep d x && option_map_or (λ k. is_due d k g) (keep_of d x) false) (final_states d s e) h in
    let (may, leads) = and_parts (may_keep d f) _ both_so in
    let (x, o, due) = map_or_get (λ k. is_due d k g) (keep_of d f) leads in
    (k, f, x, get, some_if (may_keep d f) (keep_of d f) x may o, due)
later_due d s e Gave g h = absurd cc
later_due d s e Gone g h = absurd cc

-- and one that is due there may come as a later one, where none has or only keeps have
pub due_later_plain : (d : Draft) (s : ℕ) (e : Event) (k f g : ℕ) → slice_get (final_states d s e) k ≡ Some f → is_due d f g ≡ true → is_later d s e Plain g ≡ true
due_later_plain d s e k f g get due = any_at (λ x. is_due d x g) (final_states d s e) k f get due

pub due_later_kept : (d : Draft) (s : ℕ) (e : Event) (k f x g : ℕ) → slice_get (final_states d s e) k ≡ Some f → end_under_tag d f Kept ≡ Some x → is_due d x g ≡ true
    → is_later d s e Kept g ≡ true
due_later_kept d s e k f x g get a due =
    let (may, leads) = if_some (may_keep d f) (keep_of d f) x a in
    any_at (λ x. may_keep d x && option_map_or (λ k. is_due d k g) (keep_of d x) false) (final_states d s e) k f get
    (and_of_both (may_keep d f) _ may (ap (λ (o : Option ℕ). option_map_or (λ k. is_due d k g) o false) leads ∙ due))
