-- Which states a sound table has.
use Rattle.std.proofs.Common.{◌≡◌, ◌≢◌, ◌↔◌, ℕ, ◌<◌, ◌⊎◌, inl, inr, Bool, true, false, List, length, Option, Some, None, refl, sym, ap, ◌∙◌}
use Rattle.std.specs.Prelude.{slice_get, is_some}
use Rattle.std.specs.Option.{option_map_or}
use Rattle.std.proofs.lemmas.Bool.{and_parts}
use Rattle.std.proofs.lemmas.Option.{same_Some}
use Rattle.pg_perm.specs.declared.kinds.Role.{Role}
use Rattle.pg_perm.specs.declared.kinds.Role.TheVariants as role
use Rattle.pg_perm.specs.declared.kinds.Event.{Event}
use Rattle.pg_perm.specs.declared.kinds.Event.TheVariants.{Load, Store, Evict}
use Rattle.pg_perm.specs.declared.kinds.Mode.TheVariants as mode
use Rattle.pg_perm.specs.declared.draft.Draft.{Draft}
use Rattle.pg_perm.specs.declared.draft.CacheLine.{CacheLine}
use Rattle.pg_terms.specs.Terms.{is_out, is_shared, is_owner, is_read_perm, is_read_owner, cache_is, out, shared}
use Rattle.pg_shape.specs.Shaped.{IsShaped}
use Rattle.pg_shape.proofs.Searches.{not_both, not_true, any_get, position_get, map_or_get}
use Rattle.pg_table.specs.declared.cache.Desc.{Desc}
use Rattle.pg_table.specs.declared.cache.Desc.TheVariants.{Stable, Ask, Leave}
use Rattle.pg_table.specs.declared.cache.Phase.{Phase}
use Rattle.pg_table.specs.declared.cache.Phase.TheVariants.{D, Ad, Ac, A}
use Rattle.pg_table.specs.declared.cache.Tag.{Tag}
use Rattle.pg_table.specs.declared.cache.Tag.TheVariants.{Plain}
use Rattle.pg_table.specs.Descriptors.{out_state, end_under_tag, final_states, is_tag_of}
use Rattle.pg_table.specs.Tables.{TableState}
use Rattle.pg_table.specs.Sound.{is_among, states_of, IsSoundCache}
use Rattle.pg_table.proofs.Members.{IsStart, IsState, out_below, out_is_out_state, is_state, is_listed}

-- a state of a sound table is one of the deferring mode
may_have : (d : Draft) (t : List TableState) (s : Desc) → IsShaped d → IsSoundCache d t → is_among (states_of t) s ≡ true → IsState d mode.Defer s
may_have d t s shape sound among = is_state d mode.Defer s shape.perms (sound.known s among)

-- and one of the stalling mode is a state of it
has : (d : Draft) (t : List TableState) (s : Desc) → IsShaped d → IsSoundCache d t → IsState d mode.Stall s → is_among (states_of t) s ≡ true
has d t s shape sound h = sound.needed s (is_listed d mode.Stall s shape.perms h)

-- Roles

out_no_owner : (r : Role) → is_out r ≡ true → is_owner r ≡ true → ⊥
out_no_owner role.Out h g = absurd cc
out_no_owner role.Shared h g = absurd cc
out_no_owner role.Owner h g = absurd cc

shared_no_owner : (r : Role) → is_shared r ≡ true → is_owner r ≡ true → ⊥
shared_no_owner role.Out h g = absurd cc
shared_no_owner role.Shared h g = absurd cc
shared_no_owner role.Owner h g = absurd cc

is_no_owner : (p : Role → Bool) (d : Draft) (s : ℕ) → ((r : Role) → p r ≡ true → is_owner r ≡ true → ⊥) → (c : CacheLine) × (slice_get d.caches s ≡ Some c) × (p c.role ≡ true)
    → cache_is (λ c. is_owner c.role) d s ≡ false
is_no_owner p d s apart (c, get, h) = not_true (cache_is (λ c. is_owner c.role) d s) (λ owns.
    let (e, got, owner) = map_or_get (λ c. is_owner c.role) (slice_get d.caches s) owns in
    let same : e ≡ c = same_Some e c (sym got ∙ get) in
    apart c.role h (ap (λ (c : CacheLine). is_owner c.role) (sym same) ∙ owner))

out_owns_not : (d : Draft) (s : ℕ) → out d ≡ Some s → cache_is (λ c. is_owner c.role) d s ≡ false
out_owns_not d s e = is_no_owner is_out d s out_no_owner (position_get (λ c. is_out c.role) d.caches s e).1

shared_owns_not : (d : Draft) (s : ℕ) → shared d ≡ Some s → cache_is (λ c. is_owner c.role) d s ≡ false
shared_owns_not d s e = is_no_owner is_shared d s shared_no_owner (position_get (λ c. is_shared c.role) d.caches s e).1

reader_owns : (d : Draft) (s : ℕ) → cache_is is_read_owner d s ≡ true → cache_is (λ c. is_owner c.role) d s ≡ true
reader_owns d s h =
    let (c, get, reads) = map_or_get is_read_owner (slice_get d.caches s) h in
    ap (λ (o : Option CacheLine). option_map_or (λ c. is_owner c.role) o false) get ∙ (and_parts (is_owner c.role) (is_read_perm c.perm) reads).0

-- where a store asks that waits for data, and one that waits for a count
start_of_data : (d : Draft) (s : ℕ) → IsStart d s → cache_is (λ c. is_owner c.role) d s ≡ false → (out d ≡ Some s) ⊎ (shared d ≡ Some s)
start_of_data d s (inl e) owns = inl e
start_of_data d s (inr (inl e)) owns = inr e
start_of_data d s (inr (inr h)) owns = absurd (not_both (cache_is (λ c. is_owner c.role) d s) (reader_owns d s h) owns)

start_of_count : (d : Draft) (s : ℕ) → IsStart d s → cache_is (λ c. is_owner c.role) d s ≡ true → cache_is is_read_owner d s ≡ true
start_of_count d s (inl e) owns = absurd (not_both (cache_is (λ c. is_owner c.role) d s) owns (out_owns_not d s e))
start_of_count d s (inr (inl e)) owns = absurd (not_both (cache_is (λ c. is_owner c.role) d s) owns (shared_owns_not d s e))
start_of_count d s (inr (inr h)) owns = h

-- Which states there may be

pub stable_states_are : (d : Draft) (t : List TableState) (s : ℕ) → IsShaped d → IsSoundCache d t → ((is_among (states_of t) (Stable s) ≡ true) ↔ (s < length d.caches))
stable_states_are d t s shape sound = (may_have d t (Stable s) shape sound, has d t (Stable s) shape sound)

pub leaving_states_are : (d : Draft) (t : List TableState) (s : ℕ) → IsShaped d → IsSoundCache d t → ((is_among (states_of t) (Leave s) ≡ true) ↔ (s < length d.caches))
leaving_states_are d t s shape sound = (may_have d t (Leave s) shape sound, has d t (Leave s) shape sound)

pub load_states_are : (d : Draft) (t : List TableState) (s : ℕ) (p : Phase) (g : Tag) → IsShaped d → IsSoundCache d t → is_among (states_of t) (Ask Load s p g) ≡ true
    → (p ≡ D) × (out d ≡ Some s)
load_states_are d t s D g shape sound among = (refl, (may_have d t (Ask Load s D g) shape sound among).0)
load_states_are d t s Ad g shape sound among = absurd (may_have d t (Ask Load s Ad g) shape sound among)
load_states_are d t s Ac g shape sound among = absurd (may_have d t (Ask Load s Ac g) shape sound among)
load_states_are d t s A g shape sound among = absurd (may_have d t (Ask Load s A g) shape sound among)

pub data_states_are : (d : Draft) (t : List TableState) (s : ℕ) (g : Tag) → IsShaped d → IsSoundCache d t → is_among (states_of t) (Ask Store s Ad g) ≡ true
    → (out d ≡ Some s) ⊎ (shared d ≡ Some s)
data_states_are d t s g shape sound among = let (start, owns, tag) = may_have d t (Ask Store s Ad g) shape sound among in start_of_data d s start owns

pub count_states_are : (d : Draft) (t : List TableState) (s : ℕ) (g : Tag) → IsShaped d → IsSoundCache d t → is_among (states_of t) (Ask Store s Ac g) ≡ true
    → (cache_is is_read_owner d s ≡ true) × (g ≡ Plain)
count_states_are d t s g shape sound among =
    let (start, owns, tag) = may_have d t (Ask Store s Ac g) shape sound among in
    (start_of_count d s start owns, tag)

pub ack_states_are : (d : Draft) (t : List TableState) (s : ℕ) (g : Tag) → IsShaped d → IsSoundCache d t → is_among (states_of t) (Ask Store s A g) ≡ true
    → (is_some (shared d) ≡ true) × IsStart d s
ack_states_are d t s g shape sound among =
    let (start, there, tag) = may_have d t (Ask Store s A g) shape sound among in
    (there, start)

pub no_store_states : (d : Draft) (t : List TableState) (s : ℕ) (g : Tag) → IsShaped d → IsSoundCache d t → is_among (states_of t) (Ask Store s D g) ≡ false
no_store_states d t s g shape sound = not_true (is_among (states_of t) (Ask Store s D g)) (λ among. may_have d t (Ask Store s D g) shape sound among)

pub no_evict_states : (d : Draft) (t : List TableState) (s : ℕ) (p : Phase) (g : Tag) → IsShaped d → IsSoundCache d t → is_among (states_of t) (Ask Evict s p g) ≡ false
no_evict_states d t s p g shape sound = not_true (is_among (states_of t) (Ask Evict s p g)) (λ among. none p (may_have d t (Ask Evict s p g) shape sound among))
  where
    none : (p : Phase) → IsState d mode.Defer (Ask Evict s p g) → ⊥
    none D h = h
    none Ad h = h
    none Ac h = h
    none A h = h

-- Tags

tagged : (d : Draft) (e : Event) (s : ℕ) (p : Phase) (g : Tag) → p ≢ Ac → IsState d mode.Defer (Ask e s p g) → is_tag_of d s e g ≡ true
tagged d Load s D g other h = h.1
tagged d Store s Ad g other h = h.2
tagged d Store s A g other h = h.2
tagged d Store s Ac g other h = absurd (other refl)
tagged d _ _ _ _ other h = absurd h

pub tags_end : (d : Draft) (t : List TableState) (e : Event) (s : ℕ) (p : Phase) (g : Tag) → IsShaped d → IsSoundCache d t → p ≢ Ac → is_among (states_of t) (Ask e s p g) ≡ true
    → (k f x : ℕ) × (slice_get (final_states d s e) k ≡ Some f) × (end_under_tag d f g ≡ Some x)
tags_end d t e s p g shape sound other among =
    let (k, f, get, ends) = any_get (λ f. is_some (end_under_tag d f g)) (final_states d s e) (tagged d e s p g other (may_have d t (Ask e s p g) shape sound among)) in
    let (x, there) = some_is (end_under_tag d f g) ends in
    (k, f, x, get, there)
  where
    some_is : (o : Option ℕ) → is_some o ≡ true → (x : ℕ) × (o ≡ Some x)
    some_is None h = absurd cc
    some_is (Some x) h = (x, refl)

-- States that are there

pub has_initial : (d : Draft) (t : List TableState) → IsShaped d → IsSoundCache d t → is_among (states_of t) (Stable (out_state d)) ≡ true
has_initial d t shape sound = has d t (Stable (out_state d)) shape sound (out_below d (out_state d) (out_is_out_state d shape.perms))

pub has_load : (d : Draft) (t : List TableState) (s : ℕ) → IsShaped d → IsSoundCache d t → out d ≡ Some s → is_among (states_of t) (Ask Load s D Plain) ≡ true
has_load d t s shape sound e = has d t (Ask Load s D Plain) shape sound (e, refl)

pub has_data : (d : Draft) (t : List TableState) (s : ℕ) → IsShaped d → IsSoundCache d t → (out d ≡ Some s) ⊎ (shared d ≡ Some s)
    → is_among (states_of t) (Ask Store s Ad Plain) ≡ true
has_data d t s shape sound (inl e) = has d t (Ask Store s Ad Plain) shape sound (inl e, out_owns_not d s e, refl)
has_data d t s shape sound (inr e) = has d t (Ask Store s Ad Plain) shape sound (inr (inl e), shared_owns_not d s e, refl)

pub has_count : (d : Draft) (t : List TableState) (s : ℕ) → IsShaped d → IsSoundCache d t → cache_is is_read_owner d s ≡ true
    → is_among (states_of t) (Ask Store s Ac Plain) ≡ true
has_count d t s shape sound h = has d t (Ask Store s Ac Plain) shape sound (inr (inr h), reader_owns d s h, refl)

pub has_acks : (d : Draft) (t : List TableState) (s : ℕ) → IsShaped d → IsSoundCache d t → is_some (shared d) ≡ true
    → (out d ≡ Some s) ⊎ ((shared d ≡ Some s) ⊎ (cache_is is_read_owner d s ≡ true)) → is_among (states_of t) (Ask Store s A Plain) ≡ true
has_acks d t s shape sound there start = has d t (Ask Store s A Plain) shape sound (start, there, refl)
