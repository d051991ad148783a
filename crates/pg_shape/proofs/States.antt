-- What the shape says of cache states, directory states and forwards.
use Rattle.std.proofs.Common.{◌≡◌, ℕ, zero, suc, ◌<◌, ◌⊎◌, Bool, true, false, not, ◌&&◌, ◌||◌, List, [], ◌∷◌, Option, Some, None, refl, sym, subst, ap, ◌∙◌, arith, inl, inr}
use Rattle.std.specs.Prelude.{slice_get, take, position, is_some, ◌==◌, nat_le}
use Rattle.std.specs.Option.{option_map_or}
use Rattle.std.specs.List.{list_any}
use Rattle.std.proofs.lemmas.Bool.{or_parts, eqb-true, eq-eqb, and_from, not-false, or_left, or_right}
use Rattle.std.proofs.lemmas.Option.{same_Some}
use Rattle.pg_perm.specs.declared.kinds.Perm.{Perm}
use Rattle.pg_perm.specs.declared.kinds.Perm.TheVariants as perm
use Rattle.pg_perm.specs.declared.kinds.DirKind.TheVariants as kind
use Rattle.pg_perm.specs.declared.kinds.FwdClass.{FwdClass}
use Rattle.pg_perm.specs.declared.kinds.FwdClass.TheVariants.{Inv}
use Rattle.pg_perm.specs.declared.draft.MsgClass.{MsgClass}
use Rattle.pg_perm.specs.declared.draft.MsgClass.TheVariants.{Request, Forward, Reply}
use Rattle.pg_perm.specs.declared.draft.Draft.{Draft}
use Rattle.pg_perm.specs.declared.draft.CacheLine.{CacheLine}
use Rattle.pg_perm.specs.declared.draft.DirLine.{DirLine}
use Rattle.pg_perm.specs.declared.draft.MsgLine.{MsgLine}
use Rattle.pg_perm.specs.declared.fault.Rule.TheVariants.{S1, S2, S3, S4, S6}
use Rattle.pg_terms.specs.Terms.{is_out, is_shared, is_owner, is_none_perm, is_read_perm, is_write_perm, is_forward_of, is_write_owner, is_read_owner, cache_is, out, shared, forward_of, has_class, lists_state}
use Rattle.pg_terms.specs.Terms as terms
use Rattle.pg_terms.specs.Due.{same_kind, kind_is}
use Rattle.pg_terms.proofs.Same.{forward_equal}
use Rattle.pg_shape.specs.TextRules.{has_kind, lacks_dirs, lacks_inv}
use Rattle.pg_shape.specs.CacheRules.{has_wrong_perm, owner_count, is_one_too_many, is_needlessly_clean, is_listed, is_unlisted}
use Rattle.pg_shape.specs.CacheRules as cache
use Rattle.pg_shape.specs.DirRules.{is_idle, is_second_idle, has_no_owner, is_empty, lists_wrong_number, has_twice, lists_another, mixes_a_writer, lacks_shared, lists_wrongly}
use Rattle.pg_shape.specs.MessageRules.{has_forward, is_inv_to_none}
use Rattle.pg_shape.specs.ShapeFaults.{HasShape}
use Rattle.pg_shape.specs.Shaped.{IsCache, IsDir, HasPerms, HasLists, HasForwards}
use Rattle.pg_shape.proofs.Bools.{three_not, and_not}
use Rattle.pg_shape.proofs.Searches.{not_both, any_get, any_at, any_not, position_get, position_none, map_or_get, some_of}
use Rattle.pg_shape.proofs.Shaped.{text_keeps, cache_keeps, dir_keeps, message_keeps, has_out}

-- Places at which a test passes

-- where one passes, one above a later place does
pub any_above : {X : Type 0} (p : X → Bool) (xs : List X) (i j : ℕ) (x : X) → i < j → slice_get xs i ≡ Some x → p x ≡ true → list_any p (take j xs) ≡ true
any_above p [] i j x below e h = absurd cc
any_above p (y ∷ xs) i zero x below e h = absurd (omega (arith, below))
any_above p (y ∷ xs) zero (suc j) x below e h = or_left (p y) _ (ap p (same_Some y x e) ∙ h)
any_above p (y ∷ xs) (suc i) (suc j) x below e h = or_right (p y) _ (any_above p xs i j x (omega (arith, below)) e h)

-- above each that passes none does
abbrev pub PassesOnce : {X : Type 0} → (X → Bool) → List X → Type 0
PassesOnce {X} p xs = (k : ℕ) (x : X) → slice_get xs k ≡ Some x → p x ≡ true → list_any p (take k xs) ≡ false

-- then two that pass are at one place
pub one_place : {X : Type 0} (p : X → Bool) (xs : List X) → PassesOnce p xs → (i j : ℕ) (x y : X) → slice_get xs i ≡ Some x → p x ≡ true
    → slice_get xs j ≡ Some y → p y ≡ true → i ≡ j
one_place p xs once i j x y e h f g = omega (arith, not_below i j x y e h f g, not_below j i y x f g e h)
  where
    not_below : (i j : ℕ) (x y : _) → slice_get xs i ≡ Some x → p x ≡ true → slice_get xs j ≡ Some y → p y ≡ true → i < j → ⊥
    not_below i j x y e h f g below = not_both (list_any p (take j xs)) (any_above p xs i j x below e h) (once j y f g)

-- and one that passes is the first
first_place : {X : Type 0} (p : X → Bool) (xs : List X) → PassesOnce p xs → (s : ℕ) (x : X) → slice_get xs s ≡ Some x → p x ≡ true
    → position p xs ≡ Some s
first_place p xs once s x e h = at (position p xs) refl
  where
    at : (o : Option ℕ) → position p xs ≡ o → o ≡ Some s
    at None none = absurd (not_both (list_any p xs) (any_at p xs s x e h) (position_none p xs none))
    at (Some i) some = let (y, f, g) = (position_get p xs i some).1 in ap Some (one_place p xs once i s y x f g e h)

-- Cache states

-- the line of a cache state is no second of its role, nor an owner too many
pub not_too_many : (d : Draft) → HasShape d → (s : ℕ) (c : CacheLine) → IsCache d s c
    → ((is_out c.role && cache.has_out (take s d.caches)) ≡ false) × ((is_shared c.role && cache.has_shared (take s d.caches)) ≡ false)
    × ((is_owner c.role && nat_le 12 (owner_count (take s d.caches))) ≡ false)
not_too_many d h s c e =
    let kept : is_one_too_many (take s d.caches) c ≡ false = cache_keeps d h s c e S2 in
    three_not (is_out c.role && cache.has_out (take s d.caches)) (is_shared c.role && cache.has_shared (take s d.caches)) _ kept

-- there is one out state
pub one_out : (d : Draft) → HasShape d → PassesOnce (λ c. is_out c.role) d.caches
one_out d h s c e role = and_not (is_out c.role) _ (not_too_many d h s c e).0 role

-- and at most one shared state
pub one_shared : (d : Draft) → HasShape d → PassesOnce (λ c. is_shared c.role) d.caches
one_shared d h s c e role = and_not (is_shared c.role) _ (not_too_many d h s c e).1 role

-- the permission of a cache state goes with its role
right_perm : (d : Draft) → HasShape d → (s : ℕ) (c : CacheLine) → IsCache d s c
    → ((is_out c.role && not (is_none_perm c.perm)) ≡ false) × ((is_shared c.role && not (is_read_perm c.perm)) ≡ false)
    × ((is_owner c.role && is_none_perm c.perm) ≡ false)
right_perm d h s c e =
    let kept : has_wrong_perm c ≡ false = cache_keeps d h s c e S1 in
    three_not (is_out c.role && not (is_none_perm c.perm)) (is_shared c.role && not (is_read_perm c.perm)) _ kept

-- an owner has a permission
owner_some : (d : Draft) → HasShape d → (s : ℕ) (c : CacheLine) → IsCache d s c → is_owner c.role ≡ true → is_none_perm c.perm ≡ false
owner_some d h s c e role = and_not (is_owner c.role) _ (right_perm d h s c e).2 role

-- what the shape says of the permissions
pub shape_gives_perms : (d : Draft) → HasShape d → HasPerms d
shape_gives_perms d h = record {
  start = has_out d h;
  out_none = λ s c e role. (
    first_place (λ c. is_out c.role) d.caches (one_out d h) s c e role,
    not-false (is_none_perm c.perm) (and_not (is_out c.role) _ (right_perm d h s c e).0 role),
  );
  shared_read = λ s c e role. (
    first_place (λ c. is_shared c.role) d.caches (one_shared d h) s c e role,
    not-false (is_read_perm c.perm) (and_not (is_shared c.role) _ (right_perm d h s c e).1 role),
  );
  owner_some = owner_some d h;
  clean_owner = λ s c e clean. let kept : is_needlessly_clean c ≡ false = cache_keeps d h s c e S3 in
      not-false (is_owner c.role) (and_not c.clean _ kept clean);
}

-- Directory states

-- of six of which none is so
six_not : (a b c d e f : Bool) → (a || b || c || d || e || f) ≡ false
    → (a ≡ false) × (b ≡ false) × (c ≡ false) × (d ≡ false) × (e ≡ false) × (f ≡ false)
six_not true b c d e f h = absurd cc
six_not false true c d e f h = absurd cc
six_not false false true d e f h = absurd cc
six_not false false false true e f h = absurd cc
six_not false false false false true f h = absurd cc
six_not false false false false false f h = (refl, refl, refl, refl, refl, h)

-- the line of a directory state lists what it may
pub right_list : (d : Draft) → HasShape d → (n : ℕ) (l : DirLine) → IsDir d n l
    → (is_second_idle (take n d.dirs) l ≡ false) × (lists_wrong_number l ≡ false) × (has_twice l.beside ≡ false)
    × (lists_another d l ≡ false) × (mixes_a_writer d l ≡ false) × (lacks_shared d l ≡ false)
right_list d h n l e =
    let kept : lists_wrongly d (take n d.dirs) l ≡ false = dir_keeps d h n l e S4 in
    six_not (is_second_idle (take n d.dirs) l) (lists_wrong_number l) (has_twice l.beside) (lists_another d l) (mixes_a_writer d l) _ kept

-- what a directory state lists is what its line does
listed_in : (d : Draft) (n s : ℕ) (l : DirLine) → IsDir d n l → lists_state l.beside s ≡ terms.lists d n s
listed_in d n s l e = sym (ap (λ (o : Option DirLine). lists_state (option_map_or (λ l. l.beside) o []) s) e)

-- a directory state that lists a state is there
listed_get : (d : Draft) (n s : ℕ) → terms.lists d n s ≡ true → (l : DirLine) × (IsDir d n l) × (lists_state l.beside s ≡ true)
listed_get d n s h = at (slice_get d.dirs n) h
  where
    at : (o : Option DirLine) → lists_state (option_map_or (λ l. l.beside) o []) s ≡ true
        → (l : DirLine) × (o ≡ Some l) × (lists_state l.beside s ≡ true)
    at None h = absurd cc
    at (Some l) h = (l, refl, h)

-- a state that is listed where none passes doesn't pass
listed_not : (p : ℕ → Bool) (states : List ℕ) (s : ℕ) → list_any p states ≡ false → lists_state states s ≡ true → p s ≡ false
listed_not p states s h listed =
    let (k, x, e, same) = any_get (λ x. x == s) states listed in
    subst (λ m. p m ≡ false) (eqb-true x s same) (any_not p states k x h e)

-- a list that is empty is the empty list
empty_none : (states : List ℕ) → is_empty states ≡ true → states ≡ []
empty_none [] h = refl
empty_none (s ∷ states) h = absurd cc

-- a list that isn't empty has a state
some_listed : (states : List ℕ) → is_empty states ≡ false → (s : ℕ) × (lists_state states s ≡ true)
some_listed [] h = absurd cc
some_listed (s ∷ states) h = (s, or_left (s == s) _ (eq-eqb s s refl))

-- states are listed exactly where there may be an owner
right_number : (d : Draft) → HasShape d → (n : ℕ) (l : DirLine) → IsDir d n l
    → ((has_no_owner l.kind && not (is_empty l.beside)) ≡ false) × ((not (has_no_owner l.kind) && is_empty l.beside) ≡ false)
right_number d h n l e = or_parts (has_no_owner l.kind && not (is_empty l.beside)) _ (right_list d h n l e).1

-- where there is no owner nothing is listed
lists_none : (d : Draft) → HasShape d → (n : ℕ) (l : DirLine) → IsDir d n l → has_no_owner l.kind ≡ true → l.beside ≡ []
lists_none d h n l e none = empty_none l.beside (not-false (is_empty l.beside) (and_not (has_no_owner l.kind) _ (right_number d h n l e).0 none))

-- where there is one some state is
lists_some : (d : Draft) → HasShape d → (n : ℕ) (l : DirLine) → IsDir d n l → has_no_owner l.kind ≡ false → (s : ℕ) × (terms.lists d n s ≡ true)
lists_some d h n l e some =
    let (s, listed) = some_listed l.beside (and_not (not (has_no_owner l.kind)) _ (right_number d h n l e).1 (ap not some)) in
    (s, sym (listed_in d n s l e) ∙ listed)

-- each listed state is an owner
lists_owners : (d : Draft) → HasShape d → (n s : ℕ) → terms.lists d n s ≡ true → cache_is (λ c. is_owner c.role) d s ≡ true
lists_owners d h n s listed =
    let (l, e, here) = listed_get d n s listed in
    not-false (cache_is (λ c. is_owner c.role) d s)
    (listed_not (λ s. not (cache_is (λ c. is_owner c.role) d s)) l.beside s (right_list d h n l e).3 here)

-- a permission that is neither none nor write is read
read_left : (p : Perm) → is_none_perm p ≡ false → is_write_perm p ≡ false → is_read_perm p ≡ true
read_left perm.None h g = absurd cc
read_left perm.Read h g = refl
read_left perm.Write h g = absurd cc

-- a test of a cache state that is there is one of its line
cache_at : (p : CacheLine → Bool) (d : Draft) (s : ℕ) (c : CacheLine) → IsCache d s c → cache_is p d s ≡ p c
cache_at p d s c e = ap (λ (o : Option CacheLine). option_map_or p o false) e

-- an owner that may not write may read
reads_left : (d : Draft) → HasShape d → (s : ℕ) → cache_is (λ c. is_owner c.role) d s ≡ true → cache_is is_write_owner d s ≡ false
    → cache_is is_read_owner d s ≡ true
reads_left d h s owner writes =
    let (c, e, role) = map_or_get (λ c. is_owner c.role) (slice_get d.caches s) owner in
    let no_writer : is_write_owner c ≡ false = sym (cache_at is_write_owner d s c e) ∙ writes in
    let reads = read_left c.perm (owner_some d h s c e role) (and_not (is_owner c.role) _ no_writer role) in
    cache_at is_read_owner d s c e ∙ and_from (is_owner c.role) (is_read_perm c.perm) role reads

-- where there are sharers beside the owner it may only read
lists_readers : (d : Draft) → HasShape d → (n s : ℕ) → kind_is kind.Mixed d n ≡ true → terms.lists d n s ≡ true → cache_is is_read_owner d s ≡ true
lists_readers d h n s mixed listed =
    let (l, e, of_kind) = map_or_get (λ l. same_kind kind.Mixed l.kind) (slice_get d.dirs n) mixed in
    let none = and_not (same_kind kind.Mixed l.kind) _ (right_list d h n l e).4 of_kind in
    reads_left d h s (lists_owners d h n s listed) (listed_not (cache_is is_write_owner d) l.beside s none (listed_in d n s l e ∙ listed))

-- each owner is listed
owner_listed : (d : Draft) → HasShape d → (s : ℕ) → cache_is (λ c. is_owner c.role) d s ≡ true → (n : ℕ) × (terms.lists d n s ≡ true)
owner_listed d h s owner =
    let (c, e, role) = map_or_get (λ c. is_owner c.role) (slice_get d.caches s) owner in
    let kept : is_unlisted d s c ≡ false = cache_keeps d h s c e S4 in
    let listed = not-false (is_listed d s) (and_not (is_owner c.role) _ kept role) in
    let (n, l, f, here) = any_get (λ l. lists_state l.beside s) d.dirs listed in
    (n, sym (listed_in d n s l f) ∙ here)

-- there is an idle directory state
has_idle : (d : Draft) → HasShape d → (n : ℕ) × (kind_is kind.Idle d n ≡ true)
has_idle d h =
    let kept : lacks_dirs d ≡ false = text_keeps d h S4 in
    let idle = not-false (has_kind kind.Idle d) (or_parts (not (has_kind kind.Idle d)) _ kept).0 in
    let (n, l, e, of_kind) = any_get (λ l. same_kind kind.Idle l.kind) d.dirs idle in
    (n, ap (λ (o : Option DirLine). option_map_or (λ l. same_kind kind.Idle l.kind) o false) e ∙ of_kind)

-- and no second one
idle_once : (d : Draft) → HasShape d → PassesOnce is_idle d.dirs
idle_once d h n l e idle = and_not (is_idle l) _ (right_list d h n l e).0 idle

-- two that are idle are the same
one_idle : (d : Draft) → HasShape d → (n m : ℕ) → kind_is kind.Idle d n ≡ true → kind_is kind.Idle d m ≡ true → n ≡ m
one_idle d h n m idle other =
    let (l, e, p) = map_or_get is_idle (slice_get d.dirs n) idle in
    let (k, f, q) = map_or_get is_idle (slice_get d.dirs m) other in
    one_place is_idle d.dirs (idle_once d h) n m l k e p f q

-- where there may be sharers there is a shared state
sharers_shared : (d : Draft) → HasShape d → (n : ℕ) (l : DirLine) → IsDir d n l → (same_kind kind.Shared l.kind || same_kind kind.Mixed l.kind) ≡ true
    → (s : ℕ) × (shared d ≡ Some s)
sharers_shared d h n l e sharers =
    some_of (shared d) (and_not (same_kind kind.Shared l.kind || same_kind kind.Mixed l.kind) _ (right_list d h n l e).5 sharers)

-- so it is where the kind is shared or mixed
has_shared : (d : Draft) → HasShape d → (n : ℕ) → (kind_is kind.Shared d n ≡ true) ⊎ (kind_is kind.Mixed d n ≡ true)
    → (s : ℕ) × (shared d ≡ Some s)
has_shared d h n (inl of_kind) =
    let (l, e, p) = map_or_get (λ l. same_kind kind.Shared l.kind) (slice_get d.dirs n) of_kind in
    sharers_shared d h n l e (or_left (same_kind kind.Shared l.kind) _ p)
has_shared d h n (inr of_kind) =
    let (l, e, p) = map_or_get (λ l. same_kind kind.Mixed l.kind) (slice_get d.dirs n) of_kind in
    sharers_shared d h n l e (or_right (same_kind kind.Shared l.kind) _ p)

-- what the shape says of the lists
pub shape_gives_lists : (d : Draft) → HasShape d → HasLists d
shape_gives_lists d h = record {
  lists_none = lists_none d h;
  lists_some = lists_some d h;
  lists_owners = lists_owners d h;
  lists_readers = lists_readers d h;
  owner_listed = owner_listed d h;
  idle = has_idle d h;
  one_idle = one_idle d h;
  has_shared = has_shared d h;
}

-- Forwards

-- a second forward of a class is one of this class
second_forward : (above : List MsgLine) (class : FwdClass) (m : MsgClass) → is_forward_of class m ≡ true
    → has_forward above m ≡ list_any (λ x. is_forward_of class x.class) above
second_forward above class (Request c) h = absurd cc
second_forward above class (Forward c) h = ap (λ (b : FwdClass). list_any (λ x. is_forward_of b x.class) above) (sym (forward_equal class c h))
second_forward above class Reply h = absurd cc

-- there is at most one forward of a class
one_of_class : (d : Draft) → HasShape d → (class : FwdClass) → PassesOnce (λ m. is_forward_of class m.class) d.messages
one_of_class d h class n m e of_class =
    let kept : (has_forward (take n d.messages) m.class || is_inv_to_none d m) ≡ false = message_keeps d h n m e S6 in
    sym (second_forward (take n d.messages) class m.class of_class) ∙ (or_parts (has_forward (take n d.messages) m.class) _ kept).0

-- two forwards of a class are the same
one_forward : (d : Draft) → HasShape d → (class : FwdClass) (f g : ℕ) → has_class class d f ≡ true → has_class class d g ≡ true → f ≡ g
one_forward d h class f g at_f at_g =
    let (x, e, p) = map_or_get (λ m. is_forward_of class m.class) (slice_get d.messages f) at_f in
    let (y, k, q) = map_or_get (λ m. is_forward_of class m.class) (slice_get d.messages g) at_g in
    one_place (λ m. is_forward_of class m.class) d.messages (one_of_class d h class) f g x y e p k q

-- where there is a shared state there is an invalidation
has_inv : (d : Draft) → HasShape d → (s : ℕ) → shared d ≡ Some s → (f : ℕ) × (forward_of d Inv ≡ Some f)
has_inv d h s e =
    let kept : lacks_inv d ≡ false = text_keeps d h S6 in
    some_of (forward_of d Inv) (and_not (is_some (shared d)) _ kept (ap is_some e))

-- what the shape says of the forwards
pub forwards : (d : Draft) → HasShape d → HasForwards d
forwards d h = record { one = one_forward d h; inv = has_inv d h }
