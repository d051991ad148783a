-- What the cache states are that fit.
use Rattle.std.proofs.Common.{◌≡◌, ℕ, Bool, true, false, Option, Some, None, refl, sym, ap, ◌∙◌}
use Rattle.std.specs.Prelude.{not, slice_get}
use Rattle.std.specs.Option.{option_map_or}
use Rattle.std.proofs.lemmas.Bool.{eqb-true}
use Rattle.pg_perm.specs.declared.kinds.Perm.{Perm}
use Rattle.pg_perm.specs.declared.kinds.Perm.TheVariants as perm
use Rattle.pg_perm.specs.declared.kinds.Event.TheVariants.{Load, Store}
use Rattle.pg_perm.specs.declared.kinds.Who.{Who}
use Rattle.pg_perm.specs.declared.kinds.Who.TheVariants.{Other, Sharer, Owner}
use Rattle.pg_perm.specs.declared.draft.Draft.{Draft}
use Rattle.pg_perm.specs.declared.draft.CacheLine.{CacheLine}
use Rattle.pg_terms.specs.Terms.{is, is_out, is_shared, is_owner, is_none_perm, is_read_perm, is_write_perm, is_read_owner, is_write_owner, cache_is, out, shared, lists}
use Rattle.pg_shape.specs.Shaped.{IsShaped, IsCache}
use Rattle.pg_terms.specs.Rows.{allows}
use Rattle.pg_shape.proofs.Searches.{position_get, map_or_get}
use Rattle.pg_directory.specs.Sound.{fits_as}

pub is_then_some : (o : Option ℕ) (n : ℕ) → is o n ≡ true → o ≡ Some n
is_then_some None n h = absurd cc
is_then_some (Some m) n h = ap Some (eqb-true m n h)

pub cache_at : (test : CacheLine → Bool) (d : Draft) (x : ℕ) (c : CacheLine) → IsCache d x c → cache_is test d x ≡ test c
cache_at test d x c h = ap (λ (o : Option CacheLine). option_map_or test o false) h

pub out_line : (d : Draft) (x : ℕ) → is (out d) x ≡ true → (c : CacheLine) × IsCache d x c × (is_out c.role ≡ true)
out_line d x h = let p = position_get (λ c. is_out c.role) d.caches x (is_then_some (out d) x h) in (p.1.0, p.1.1, p.1.2)

pub shared_line : (d : Draft) (x : ℕ) → is (shared d) x ≡ true → (c : CacheLine) × IsCache d x c × (is_shared c.role ≡ true)
shared_line d x h = let p = position_get (λ c. is_shared c.role) d.caches x (is_then_some (shared d) x h) in (p.1.0, p.1.1, p.1.2)

pub owner_line : (d : Draft) → IsShaped d → (n x : ℕ) → lists d n x ≡ true → (c : CacheLine) × IsCache d x c × (is_owner c.role ≡ true)
owner_line d s n x h = map_or_get (λ c. is_owner c.role) (slice_get d.caches x) (s.lists.lists_owners n x h)

-- a state that fits is there
pub line_of : (d : Draft) → IsShaped d → (n : ℕ) (w : Who) (x : ℕ) → fits_as d n w x ≡ true → (c : CacheLine) × IsCache d x c
line_of d s n Other x h = let p = out_line d x h in (p.0, p.1)
line_of d s n Sharer x h = let p = shared_line d x h in (p.0, p.1)
line_of d s n Owner x h = let p = owner_line d s n x h in (p.0, p.1)

none_loads : (p : Perm) → is_none_perm p ≡ true → not (is_none_perm p) ≡ false
none_loads p h = ap not h

none_writes : (p : Perm) → is_none_perm p ≡ true → is_write_perm p ≡ false
none_writes perm.None h = refl
none_writes perm.Read h = absurd cc
none_writes perm.Write h = absurd cc

read_loads : (p : Perm) → is_read_perm p ≡ true → not (is_none_perm p) ≡ true
read_loads perm.None h = absurd cc
read_loads perm.Read h = refl
read_loads perm.Write h = absurd cc

read_writes : (p : Perm) → is_read_perm p ≡ true → is_write_perm p ≡ false
read_writes perm.None h = absurd cc
read_writes perm.Read h = refl
read_writes perm.Write h = absurd cc

some_reads : (p : Perm) → is_none_perm p ≡ false → is_write_perm p ≡ false → is_read_perm p ≡ true
some_reads perm.None h g = absurd cc
some_reads perm.Read h g = refl
some_reads perm.Write h g = absurd cc

-- a core that holds nothing may do nothing
pub out_loads : (d : Draft) → IsShaped d → (x : ℕ) → is (out d) x ≡ true → cache_is (allows Load) d x ≡ false
out_loads d s x h =
    let p = out_line d x h in cache_at (allows Load) d x p.0 p.1 ∙ none_loads p.0.perm (s.perms.out_none x p.0 p.1 p.2).1

pub out_stores : (d : Draft) → IsShaped d → (x : ℕ) → is (out d) x ≡ true → cache_is (allows Store) d x ≡ false
out_stores d s x h =
    let p = out_line d x h in cache_at (allows Store) d x p.0 p.1 ∙ none_writes p.0.perm (s.perms.out_none x p.0 p.1 p.2).1

-- a sharer may read
pub shared_loads : (d : Draft) → IsShaped d → (x : ℕ) → is (shared d) x ≡ true → cache_is (allows Load) d x ≡ true
shared_loads d s x h =
    let p = shared_line d x h in cache_at (allows Load) d x p.0 p.1 ∙ read_loads p.0.perm (s.perms.shared_read x p.0 p.1 p.2).1

pub shared_stores : (d : Draft) → IsShaped d → (x : ℕ) → is (shared d) x ≡ true → cache_is (allows Store) d x ≡ false
shared_stores d s x h =
    let p = shared_line d x h in cache_at (allows Store) d x p.0 p.1 ∙ read_writes p.0.perm (s.perms.shared_read x p.0 p.1 p.2).1

-- an owner may read at least
pub owner_loads : (d : Draft) → IsShaped d → (n x : ℕ) → lists d n x ≡ true → cache_is (allows Load) d x ≡ true
owner_loads d s n x h =
    let p = owner_line d s n x h in cache_at (allows Load) d x p.0 p.1 ∙ ap not (s.perms.owner_some x p.0 p.1 p.2)

-- an owner that may not write may read
pub owner_reads : (d : Draft) → IsShaped d → (n x : ℕ) → lists d n x ≡ true → cache_is (allows Store) d x ≡ false → cache_is is_read_owner d x ≡ true
owner_reads d s n x h g =
    let p = owner_line d s n x h in
    let none = s.perms.owner_some x p.0 p.1 p.2 in
    let stores : is_write_perm p.0.perm ≡ false = sym (cache_at (allows Store) d x p.0 p.1) ∙ g in
    let reads : is_read_perm p.0.perm ≡ true = some_reads p.0.perm none stores in
    cache_at is_read_owner d x p.0 p.1 ∙ rw (p.2, reads) refl

-- an owner that may write is a write owner
pub owner_writes : (d : Draft) → IsShaped d → (n x : ℕ) → lists d n x ≡ true → cache_is (allows Store) d x ≡ true → cache_is is_write_owner d x ≡ true
owner_writes d s n x h g =
    let p = owner_line d s n x h in
    let stores : is_write_perm p.0.perm ≡ true = sym (cache_at (allows Store) d x p.0 p.1) ∙ g in
    cache_at is_write_owner d x p.0 p.1 ∙ rw (p.2, stores) refl
