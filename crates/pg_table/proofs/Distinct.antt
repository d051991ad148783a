-- The states of a cache controller are told apart.
use Rattle.std.proofs.Common.{◌≡◌, ℕ, ◌<◌, Bool, true, false, not, [], ◌∷◌, map, Option, Some, None, refl, ap, ◌∙◌, arith}
use Rattle.std.specs.Prelude.{◌==◌, ◌&&◌, slice_get, if◌then◌else◌, is_some, filter, length, unwrap_or}
use Rattle.std.specs.Option.{option_map, option_map_or}
use Rattle.std.specs.List.{AllByRecursion, IsDistinct, flat_map}
use denote.Enum.Bare.{sameb}
use Rattle.std.proofs.lemmas.Bool.{eqb-true, eq-eqb, and_parts, not-true}
use Rattle.pg_perm.specs.declared.kinds.Event.TheVariants.{Load, Store}
use Rattle.pg_perm.specs.declared.kinds.Event.{Event}
use Rattle.pg_perm.specs.declared.kinds.Mode.{Mode}
use Rattle.pg_perm.specs.declared.kinds.Mode.TheVariants as mode
use Rattle.pg_perm.specs.declared.kinds.Role.{Role}
use Rattle.pg_perm.specs.declared.kinds.Role.TheVariants as role
use Rattle.pg_perm.specs.declared.draft.Draft.{Draft}
use Rattle.pg_perm.specs.declared.draft.CacheLine.{CacheLine}
use Rattle.pg_perm.specs.Drafts.{IsWellFormed}
use Rattle.pg_terms.specs.Terms.{is, is_out, is_shared, is_owner, is_read_perm, is_read_owner, cache_is, out, shared}
use Rattle.pg_shape.specs.Shaped.{IsShaped, HasPerms}
use Rattle.pg_shape.proofs.Cores.{role_out, role_shared, role_owner}
use Rattle.pg_shape.proofs.Searches.{position_get, map_or_get}
use Rattle.pg_table.specs.declared.cache.Desc.{Desc}
use Rattle.pg_table.specs.declared.cache.Desc.TheVariants.{Stable, Ask, Leave}
use Rattle.pg_table.specs.declared.cache.Phase.{Phase}
use Rattle.pg_table.specs.declared.cache.Phase.TheVariants.{D, Ad, Ac, A}
use Rattle.pg_table.specs.declared.cache.Tag.{Tag}
use Rattle.pg_table.specs.declared.cache.Tag.TheVariants.{Plain, Kept, Gave, Gone}
use Rattle.pg_table.specs.Descriptors.{out_state, is_tag_of, tags, stable_states, store_starts, first_states, waiting_states, store_states, descs}
use Rattle.pg_perm.specs.contracts.kinds.Event.{the_type as event_type}
use Rattle.pg_table.specs.contracts.cache.Phase.{the_type as phase_type}
use Rattle.pg_table.specs.contracts.cache.Tag.{the_type as tag_type}
use Rattle.pg_table.specs.Tables.{same_desc}
use Rattle.pg_table.proofs.Same.{same_desc_is}
use Rattle.pg_table.proofs.Apart.{each_map, each_any, each_append, each_flat_map_any, each_passes, each_weaken, distinct_filter, distinct_map, IsRanked, ranked_append, distinct_flat_map, distinct_numbers}

-- States of an operation that began in one state

no_tag_twice : IsDistinct (sameb tag_type) (Plain ∷ Kept ∷ Gave ∷ Gone ∷ [])
unfolding IsDistinct
no_tag_twice = ((refl, (refl, (refl, tt))), ((refl, (refl, tt)), ((refl, tt), (tt, tt))))

distinct_tags : (d : Draft) (m : Mode) (s : ℕ) (event : Event) → IsDistinct (sameb tag_type) (tags d m s event)
unfolding IsDistinct
distinct_tags d mode.Stall s event = (tt, tt)
distinct_tags d mode.Defer s event = distinct_filter (sameb tag_type) (is_tag_of d s event) (Plain ∷ Kept ∷ Gave ∷ Gone ∷ []) no_tag_twice

-- of four tests the last fails
last_false : (a b c d : Bool) → d ≡ false → (a && (b && (c && d))) ≡ false
last_false false b c d h = refl
last_false true false c d h = refl
last_false true true false d h = refl
last_false true true true d h = h

-- those that differ by their tags
distinct_asks : (d : Draft) (m : Mode) (s : ℕ) (event : Event) (phase : Phase) → IsDistinct same_desc (map (λ t. Ask event s phase t) (tags d m s event))
distinct_asks d m s event phase =
    distinct_map (sameb tag_type) same_desc (λ t. Ask event s phase t) (λ a b apart. last_false (sameb event_type event event) (s == s) (sameb phase_type phase phase) (sameb tag_type a b) apart) (tags d m s event) (distinct_tags d m s event)

one_state : (s : Desc) → IsDistinct same_desc (s ∷ [])
unfolding IsDistinct
one_state s = (tt, tt)

no_state : IsDistinct same_desc []
unfolding IsDistinct
no_state = tt

-- Stores that began in one state: those that wait for acknowledgements alone come last

abbrev waits_last : Desc → ℕ
waits_last (Ask event s A tag) = 1
waits_last _ = 0

abbrev began : Desc → ℕ
began (Ask event s phase tag) = s
began _ = 0

distinct_stores : (d : Draft) (m : Mode) (s : ℕ) → IsDistinct same_desc (store_states d m s)
distinct_stores d m s =
    (ranked_append same_desc waits_last (λ a b same. ap waits_last (same_desc_is a b same)) 1 (first_states d m s) (waiting_states d m s)
    record { distinct = first_distinct (cache_is (λ c. is_owner c.role) d s); below = first_below (cache_is (λ c. is_owner c.role) d s) }
    (last_distinct (is_some (shared d))) (last (is_some (shared d)))).distinct
  where
    first_distinct : (b : Bool) → IsDistinct same_desc (if b then Ask Store s Ac Plain ∷ [] else map (λ t. Ask Store s Ad t) (tags d m s Store))
    first_distinct true = one_state (Ask Store s Ac Plain)
    first_distinct false = distinct_asks d m s Store Ad

    first_below : (b : Bool) → AllByRecursion (λ x. waits_last x < 1) (if b then Ask Store s Ac Plain ∷ [] else map (λ t. Ask Store s Ad t) (tags d m s Store))
    first_below true = (omega arith, tt)
    first_below false = each_any (λ x. waits_last x < 1) (λ t. Ask Store s Ad t) (λ t. omega arith) (tags d m s Store)

    last_distinct : (b : Bool) → IsDistinct same_desc (if b then map (λ t. Ask Store s A t) (tags d m s Store) else [])
    last_distinct true = distinct_asks d m s Store A
    last_distinct false = no_state

    last : (b : Bool) → AllByRecursion (λ x. waits_last x ≡ 1) (if b then map (λ t. Ask Store s A t) (tags d m s Store) else [])
    last true = each_any (λ x. waits_last x ≡ 1) (λ t. Ask Store s A t) (λ t. refl) (tags d m s Store)
    last false = tt

-- what holds of each state of a store that began in this one
each_store : (P : Desc → Type 0) (d : Draft) (m : Mode) (s : ℕ) → ((phase : Phase) (tag : Tag) → P (Ask Store s phase tag)) → AllByRecursion P (store_states d m s)
each_store P d m s holds =
    each_append P (first_states d m s) (waiting_states d m s) (first (cache_is (λ c. is_owner c.role) d s)) (last (is_some (shared d)))
  where
    first : (b : Bool) → AllByRecursion P (if b then Ask Store s Ac Plain ∷ [] else map (λ t. Ask Store s Ad t) (tags d m s Store))
    first true = (holds Ac Plain, tt)
    first false = each_any P (λ t. Ask Store s Ad t) (λ t. holds Ad t) (tags d m s Store)

    last : (b : Bool) → AllByRecursion P (if b then map (λ t. Ask Store s A t) (tags d m s Store) else [])
    last true = each_any P (λ t. Ask Store s A t) (λ t. holds A t) (tags d m s Store)
    last false = tt

-- The states in which a store begins: out, shared and owners, by their roles

abbrev role_rank : Option Role → ℕ
role_rank (Some role.Out) = 0
role_rank (Some role.Shared) = 1
role_rank (Some role.Owner) = 2
role_rank None = 3

abbrev rank_of : Draft → ℕ → ℕ
rank_of d s = role_rank (option_map (λ c. c.role) (slice_get d.caches s))

-- the rank of a state is that of its line's role
rank_at : (d : Draft) (s : ℕ) (c : CacheLine) → slice_get d.caches s ≡ Some c → rank_of d s ≡ role_rank (Some c.role)
rank_at d s c get = ap (λ (o : Option CacheLine). role_rank (option_map (λ c. c.role) o)) get

out_is_ranked : (d : Draft) → HasPerms d → rank_of d (out_state d) ≡ 0
out_is_ranked d perms =
    let (s, is) = perms.start in
    let (c, get, role) = (position_get (λ c. is_out c.role) d.caches s is).1 in
    ap (λ (o : Option ℕ). rank_of d (unwrap_or o 0)) is ∙ (rank_at d s c get ∙ ap (λ r. role_rank (Some r)) (role_out c.role role))

shared_is_ranked : (d : Draft) (s : ℕ) → shared d ≡ Some s → rank_of d s ≡ 1
shared_is_ranked d s is =
    let (c, get, role) = (position_get (λ c. is_shared c.role) d.caches s is).1 in rank_at d s c get ∙ ap (λ r. role_rank (Some r)) (role_shared c.role role)

owner_is_ranked : (d : Draft) (s : ℕ) → cache_is is_read_owner d s ≡ true → rank_of d s ≡ 2
owner_is_ranked d s is =
    let (c, get, role) = map_or_get is_read_owner (slice_get d.caches s) is in
    rank_at d s c get ∙ ap (λ r. role_rank (Some r)) (role_owner c.role (and_parts (is_owner c.role) (is_read_perm c.perm) role).0)

distinct_starts : (d : Draft) → HasPerms d → IsDistinct (λ n m. n == m) (store_starts d)
unfolding IsDistinct
distinct_starts d perms =
    (ranked_append (λ n m. n == m) (rank_of d) ranked 2 (out_state d ∷ option_map_or (λ s. s ∷ []) (shared d) []) (filter (cache_is is_read_owner d) (stable_states d))
    (ranked_append (λ n m. n == m) (rank_of d) ranked 1 (out_state d ∷ []) (option_map_or (λ s. s ∷ []) (shared d) [])
    record { distinct = (tt, tt); below = (omega (arith, out_is_ranked d perms), tt) }
    (one (shared d)) (of_shared (shared d) refl))
    (distinct_filter (λ n m. n == m) (cache_is is_read_owner d) (stable_states d) (distinct_numbers 0 (length d.caches)))
    (each_weaken (λ s. cache_is is_read_owner d s ≡ true) (λ s. rank_of d s ≡ 2) (owner_is_ranked d) (filter (cache_is is_read_owner d) (stable_states d))
    (each_passes (cache_is is_read_owner d) (stable_states d)))).distinct
  where
    ranked : (n m : ℕ) → (n == m) ≡ true → rank_of d n ≡ rank_of d m
    ranked n m same = ap (rank_of d) (eqb-true n m same)

    one : (o : Option ℕ) → IsDistinct (λ n m. n == m) (option_map_or (λ s. s ∷ []) o [])
    one None = tt
    one (Some s) = (tt, tt)

    of_shared : (o : Option ℕ) → shared d ≡ o → AllByRecursion (λ s. rank_of d s ≡ 1) (option_map_or (λ s. s ∷ []) o [])
    of_shared None is = tt
    of_shared (Some s) is = (shared_is_ranked d s is, tt)

-- All states, by what they are of

abbrev section : Draft → Desc → ℕ
section d (Stable s) = 0
section d (Ask Store s phase tag) = 2
section d (Ask event s phase tag) = 1
section d (Leave s) = if is (out d) s then 4 else 3

-- a state that isn't out is left before out is
leaves_before : (d : Draft) (s : ℕ) → not (is (out d) s) ≡ true → section d (Leave s) ≡ 3
leaves_before d s h = rw (not-true (is (out d) s) h) refl

leaves_last : (d : Draft) → HasPerms d → section d (Leave (out_state d)) ≡ 4
leaves_last d perms = let (s, e) = perms.start in rw e (rw (eq-eqb s s refl) refl)

pub descs_distinct : (d : Draft) (m : Mode) → IsWellFormed d → IsShaped d → IsDistinct same_desc (descs d m)
descs_distinct d m w shape =
    let sections = λ (a b : Desc) (same : same_desc a b ≡ true). ap (section d) (same_desc_is a b same) in
    let stable : IsRanked same_desc (section d) 1 (map (λ s. Stable s) (stable_states d)) = record {
      distinct = distinct_map (λ n m. n == m) same_desc (λ s. Stable s) (λ n m apart. apart) (stable_states d) (distinct_numbers 0 (length d.caches));
      below = each_any (λ x. section d x < 1) (λ s. Stable s) (λ s. omega arith) (stable_states d);
    } in
    let loads = ranked_append same_desc (section d) sections 1 _ (map (λ t. Ask Load (out_state d) D t) (tags d m (out_state d) Load)) stable
    (distinct_asks d m (out_state d) Load D) (each_any (λ x. section d x ≡ 1) (λ t. Ask Load (out_state d) D t) (λ t. refl) (tags d m (out_state d) Load)) in
    let stores = ranked_append same_desc (section d) sections 2 _ (flat_map (store_states d m) (store_starts d)) loads
    (distinct_flat_map same_desc began (λ a b same. ap began (same_desc_is a b same)) (store_states d m) (distinct_stores d m)
    (λ s. each_store (λ x. began x ≡ s) d m s (λ phase tag. refl)) (store_starts d) (distinct_starts d shape.perms))
    (each_flat_map_any (λ x. section d x ≡ 2) (store_states d m) (λ s. each_store (λ x. section d x ≡ 2) d m s (λ phase tag. refl)) (store_starts d)) in
    let evicts = ranked_append same_desc (section d) sections 3 _ (map (λ s. Leave s) (filter (λ s. not (is (out d) s)) (stable_states d))) stores
    (distinct_map (λ n m. n == m) same_desc (λ s. Leave s) (λ n m apart. apart) (filter (λ s. not (is (out d) s)) (stable_states d))
    (distinct_filter (λ n m. n == m) (λ s. not (is (out d) s)) (stable_states d) (distinct_numbers 0 (length d.caches))))
    (each_map (λ s. not (is (out d) s) ≡ true) (λ x. section d x ≡ 3) (λ s. Leave s) (leaves_before d) (filter (λ s. not (is (out d) s)) (stable_states d))
    (each_passes (λ s. not (is (out d) s)) (stable_states d))) in
    (ranked_append same_desc (section d) sections 4 _ (Leave (out_state d) ∷ []) evicts (one_state (Leave (out_state d))) (leaves_last d shape.perms, tt)).distinct
