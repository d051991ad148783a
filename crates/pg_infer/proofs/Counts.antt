-- How many states a cache controller has.
use Rattle.std.proofs.Common.{◌≡◌, ℕ, ◌*◌, ◌≤◌, Bool, true, false, ◌&&◌, List, [], ◌∷◌, ◌++◌, length, Option, Some, None, sym, subst, arith}
use Rattle.std.specs.Prelude.{map, filter, not, is_some, if◌then◌else◌}
use Rattle.std.specs.List.{flat_map}
use Rattle.std.specs.Option.{option_map_or}
use Rattle.std.proofs.lemmas.Bool.{leb-true, and_parts}
use Rattle.std.proofs.lemmas.List.{length-append, length-map}
use Rattle.std.proofs.lemmas.List.FromFn.{length-range_with_len}
use Rattle.std.proofs.lemmas.List.Sums.{length-filter, count_by-le-length}
use Rattle.pg_perm.specs.declared.kinds.Event.{Event}
use Rattle.pg_perm.specs.declared.kinds.Event.TheVariants.{Load, Store}
use Rattle.pg_perm.specs.declared.kinds.Mode.{Mode}
use Rattle.pg_perm.specs.declared.kinds.Mode.TheVariants as mode
use Rattle.pg_perm.specs.declared.draft.Draft.{Draft}
use Rattle.pg_perm.specs.Drafts.{IsWellFormed}
use Rattle.pg_terms.specs.Terms.{is, is_owner, is_read_owner, cache_is, out, shared}
use Rattle.pg_table.specs.declared.cache.Desc.{Desc}
use Rattle.pg_table.specs.declared.cache.Desc.TheVariants.{Stable, Ask, Leave}
use Rattle.pg_table.specs.declared.cache.Phase.{Phase}
use Rattle.pg_table.specs.declared.cache.Phase.TheVariants.{D, Ad, Ac, A}
use Rattle.pg_table.specs.declared.cache.Tag.TheVariants.{Plain, Kept, Gave, Gone}
use Rattle.pg_table.specs.Descriptors.{out_state, is_tag_of, tags, stable_states, store_starts, first_states, waiting_states, store_states, descs}

-- of six tests that all pass the first does
first : (a b c d e f : Bool) → (a && b && c && d && e && f) ≡ true → a ≡ true
first a b c d e f h = (and_parts a b (and_parts (a && b) c (and_parts (a && b && c) d (and_parts (a && b && c && d) e (and_parts (a && b && c && d && e) f h).0).0).0).0).0

caches_few : (d : Draft) → IsWellFormed d → length d.caches ≤ 16
caches_few d well = leb-true (length d.caches) 16 (first _ _ _ _ _ _ well.limits)

filter_few : {A : Type 0} (p : A → Bool) (xs : List A) → length (filter p xs) ≤ length xs
filter_few p xs = omega (arith, length-filter p xs, count_by-le-length p xs)

tags_few : (d : Draft) (m : Mode) (s : ℕ) (event : Event) → length (tags d m s event) ≤ 4
tags_few d mode.Stall s event = omega arith
tags_few d mode.Defer s event = filter_few (is_tag_of d s event) (Plain ∷ Kept ∷ Gave ∷ Gone ∷ [])

asked_few : (d : Draft) (m : Mode) (s : ℕ) (event : Event) (phase : Phase) → length (map (λ t. Ask event s phase t) (tags d m s event)) ≤ 4
asked_few d m s event phase = omega (arith, length-map (tags d m s event) (λ t. Ask event s phase t), tags_few d m s event)

first_few : (d : Draft) (m : Mode) (s : ℕ) → length (first_states d m s) ≤ 4
first_few d m s = at (cache_is (λ c. is_owner c.role) d s)
  where
    at : (b : Bool) → length (if b then Ask Store s Ac Plain ∷ [] else map (λ t. Ask Store s Ad t) (tags d m s Store)) ≤ 4
    at true = omega arith
    at false = asked_few d m s Store Ad

waiting_few : (d : Draft) (m : Mode) (s : ℕ) → length (waiting_states d m s) ≤ 4
waiting_few d m s = at (is_some (shared d))
  where
    at : (b : Bool) → length (if b then map (λ t. Ask Store s A t) (tags d m s Store) else []) ≤ 4
    at true = asked_few d m s Store A
    at false = omega arith

store_few : (d : Draft) (m : Mode) (s : ℕ) → length (store_states d m s) ≤ 8
store_few d m s = omega (arith, length-append (first_states d m s) (waiting_states d m s), first_few d m s, waiting_few d m s)

stores_few : (d : Draft) (m : Mode) (ss : List ℕ) → length (flat_map (store_states d m) ss) ≤ 8 * length ss
stores_few d m [] = omega arith
stores_few d m (s ∷ ss) = omega (arith, length-append (store_states d m s) (flat_map (store_states d m) ss), store_few d m s, stores_few d m ss)

shared_few : (o : Option ℕ) → length (option_map_or (λ (s : ℕ). s ∷ []) o []) ≤ 1
shared_few None = omega arith
shared_few (Some s) = omega arith

states_are : (d : Draft) → length (stable_states d) ≡ length d.caches
states_are d = length-range_with_len 0 (length d.caches)

starts_few : (d : Draft) → IsWellFormed d → length (store_starts d) ≤ 18
starts_few d well =
    let sharers = option_map_or (λ (s : ℕ). s ∷ []) (shared d) [] in
    let readers = filter (cache_is is_read_owner d) (stable_states d) in
    omega (
      arith,
      length-append (out_state d ∷ sharers) readers,
      shared_few (shared d),
      filter_few (cache_is is_read_owner d) (stable_states d),
      states_are d,
      caches_few d well,
    )

pub descs_few : (d : Draft) (m : Mode) (xs : List Desc) → IsWellFormed d → xs ≡ descs d m → length xs ≤ 256
descs_few d m xs well e = subst (λ (ys : List Desc). length ys ≤ 256) (sym e) few
  where
    stable : List Desc
    stable = map (λ s. Stable s) (stable_states d)

    loads : List Desc
    loads = map (λ t. Ask Load (out_state d) D t) (tags d m (out_state d) Load)

    stores : List Desc
    stores = flat_map (store_states d m) (store_starts d)

    others : List ℕ
    others = filter (λ s. not (is (out d) s)) (stable_states d)

    leaving : List Desc
    leaving = map (λ s. Leave s) others

    few : length (descs d m) ≤ 256
    few = omega (
      arith,
      length-append (stable ++ loads ++ stores ++ leaving) (Leave (out_state d) ∷ []),
      length-append (stable ++ loads ++ stores) leaving,
      length-append (stable ++ loads) stores,
      length-append stable loads,
      length-map (stable_states d) (λ s. Stable s),
      asked_few d m (out_state d) Load D,
      stores_few d m (store_starts d),
      starts_few d well,
      length-map others (λ s. Leave s),
      filter_few (λ s. not (is (out d) s)) (stable_states d),
      states_are d,
      caches_few d well,
    )
