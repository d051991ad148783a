-- Which states a cache controller has, in their order.
use Rattle.std.specs.Prelude.{ℕ, Bool, false, not, ◌&&◌, ◌||◌, List, [], ◌∷◌, ◌++◌, map, filter, length, Option, Some, None, is_some, unwrap_or, if◌then◌else◌}
use Rattle.std.specs.List.{list_any, flat_map, range_with_len}
use Rattle.std.specs.Option.{option_map_or}
use Rattle.pg_perm.specs.declared.kinds.Event.{Event}
use Rattle.pg_perm.specs.declared.kinds.Event.TheVariants.{Load, Store}
use Rattle.pg_perm.specs.declared.kinds.FwdClass.TheVariants as class
use Rattle.pg_perm.specs.declared.kinds.Mode.{Mode}
use Rattle.pg_perm.specs.declared.kinds.Mode.TheVariants as mode
use Rattle.pg_perm.specs.declared.draft.Draft.{Draft}
use Rattle.pg_perm.specs.declared.draft.CoreForm.{CoreForm}
use Rattle.pg_perm.specs.declared.draft.CoreForm.TheVariants as form
use Rattle.pg_terms.specs.Terms.{is, is_owner, is_read_owner, cache_is, out, shared, forward_of, core_row, keep_of}
use Rattle.pg_terms.specs.Due.{is_due}
use Rattle.pg_terms.specs.Rows.{may_keep}
use Rattle.pg_table.specs.declared.cache.Desc.{Desc}
use Rattle.pg_table.specs.declared.cache.Desc.TheVariants.{Stable, Ask, Leave}
use Rattle.pg_table.specs.declared.cache.Phase.{Phase}
use Rattle.pg_table.specs.declared.cache.Phase.TheVariants.{D, Ad, Ac, A}
use Rattle.pg_table.specs.declared.cache.Tag.{Tag}
use Rattle.pg_table.specs.declared.cache.Tag.TheVariants.{Plain, Kept, Gave, Gone}

-- the out state
abbrev pub out_state : Draft → ℕ
out_state d = unwrap_or (out d) 0

-- a cache in this state may get the share forward
abbrev pub may_share : Draft → ℕ → Bool
may_share d s = option_map_or (is_due d s) (forward_of d class.Share) false

-- forwards may lead a cache from this state to the shared state: a share, or a keep and then a share
abbrev pub may_give : Draft → ℕ → Bool
may_give d s = may_share d s || (may_keep d s && option_map_or (may_share d) (keep_of d s) false)

-- where an operation ends with this final state, once the forwards that a tag tells of have come
abbrev pub end_under_tag : Draft → ℕ → Tag → Option ℕ
end_under_tag d f Plain = Some f
end_under_tag d f Kept = if may_keep d f then keep_of d f else None
end_under_tag d f Gave = if may_give d f then shared d else None
end_under_tag d f Gone = out d

abbrev pub final_states_in : CoreForm → List ℕ
final_states_in (form.Hit next) = []
final_states_in (form.Ask request pairs) = map (λ p. p.fin) pairs
final_states_in (form.Leave request) = []

-- the final states of a load or a store that began in this state
abbrev pub final_states : Draft → ℕ → Event → List ℕ
final_states d s event = option_map_or (λ l. final_states_in l.form) (core_row d s event) []

-- a tag tells of forwards that may come to an operation that began in this state
abbrev pub is_tag_of : Draft → ℕ → Event → Tag → Bool
is_tag_of d s event tag = list_any (λ f. is_some (end_under_tag d f tag)) (final_states d s event)

-- the tags of an operation that began in this state, in their order; where forwards wait, no tag is set
abbrev pub tags : Draft → Mode → ℕ → Event → List Tag
tags d mode.Stall s event = Plain ∷ []
tags d mode.Defer s event = filter (is_tag_of d s event) (Plain ∷ Kept ∷ Gave ∷ Gone ∷ [])

-- what a store that began in this state waits for at first
abbrev pub store_phase : Draft → ℕ → Phase
store_phase d s = if cache_is (λ c. is_owner c.role) d s then Ac else Ad

-- the states of the caches, as they are declared
abbrev pub stable_states : Draft → List ℕ
stable_states d = range_with_len 0 (length d.caches)

-- the states in which a store asks: out, shared, and the owners that may only read
abbrev pub store_starts : Draft → List ℕ
store_starts d = out_state d ∷ option_map_or (λ s. s ∷ []) (shared d) [] ++ filter (cache_is is_read_owner d) (stable_states d)

-- a store in this state, in its first phase; one that waits for a count has no tag
abbrev pub first_states : Draft → Mode → ℕ → List Desc
first_states d m s = if cache_is (λ c. is_owner c.role) d s then Ask Store s Ac Plain ∷ [] else map (λ t. Ask Store s Ad t) (tags d m s Store)

-- a store in this state that waits for acknowledgements alone; without a shared state there are none
abbrev pub waiting_states : Draft → Mode → ℕ → List Desc
waiting_states d m s = if is_some (shared d) then map (λ t. Ask Store s A t) (tags d m s Store) else []

abbrev pub store_states : Draft → Mode → ℕ → List Desc
store_states d m s = first_states d m s ++ waiting_states d m s

-- the states of the cache controller: the stable ones, those of a load, those of stores by where they began, and those of evicts
abbrev pub descs : Draft → Mode → List Desc
descs d m = map (λ s. Stable s) (stable_states d)
    ++ map (λ t. Ask Load (out_state d) D t) (tags d m (out_state d) Load)
    ++ flat_map (store_states d m) (store_starts d)
    ++ map (λ s. Leave s) (filter (λ s. not (is (out d) s)) (stable_states d))
    ++ Leave (out_state d) ∷ []
