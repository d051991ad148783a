-- The rules that the line of a cache state breaks.
-- S1: out without `none`, shared without `read`, an owner with `none`.
-- S2: a second out, a second shared, a 13th owner.
-- S3: `clean` on a state that is no owner.
-- S4: an owner that no dir line lists.
-- S8: no core line for load, for store, or, at a state that isn't out, for evict.
-- S13: a due pair of the state without a take line.
use Rattle.std.specs.Prelude.{ℕ, zero, suc, Bool, false, not, ◌&&◌, ◌||◌, nat_le, List, length, take, is_none}
use Rattle.std.specs.List.{list_any, filter}
use Rattle.pg_perm.specs.declared.draft.Draft.{Draft}
use Rattle.pg_perm.specs.declared.draft.CacheLine.{CacheLine}
use Rattle.pg_perm.specs.declared.kinds.Event.TheVariants.{Load, Store, Evict}
use Rattle.pg_perm.specs.declared.fault.Rule.{Rule}
use Rattle.pg_perm.specs.declared.fault.Rule.TheVariants.{S1, S2, S3, S4, S8, S13}
use Rattle.pg_terms.specs.Terms.{is_out, is_shared, is_owner, is_none_perm, is_read_perm, is, out, lists_state, core_row, take_row}
use Rattle.pg_terms.specs.Due.{is_due}

-- S1: out without none, shared without read, or an owner with none
abbrev pub has_wrong_perm : CacheLine → Bool
has_wrong_perm c = (is_out c.role && not (is_none_perm c.perm)) || (is_shared c.role && not (is_read_perm c.perm))
    || (is_owner c.role && is_none_perm c.perm)

-- there is a cache line of this role above it
abbrev pub has_out : List CacheLine → Bool
has_out above = list_any (λ c. is_out c.role) above

abbrev pub has_shared : List CacheLine → Bool
has_shared above = list_any (λ c. is_shared c.role) above

abbrev pub owner_count : List CacheLine → ℕ
owner_count above = length (filter (λ c. is_owner c.role) above)

-- S2: a second out, a second shared, or an owner below 12 others
abbrev pub is_one_too_many : List CacheLine → CacheLine → Bool
is_one_too_many above c = (is_out c.role && has_out above) || (is_shared c.role && has_shared above)
    || (is_owner c.role && nat_le 12 (owner_count above))

-- S3: clean, and no owner
abbrev pub is_needlessly_clean : CacheLine → Bool
is_needlessly_clean c = c.clean && not (is_owner c.role)

-- some directory state lists the cache state
abbrev pub is_listed : Draft → ℕ → Bool
is_listed d s = list_any (λ l. lists_state l.beside s) d.dirs

-- S4: an owner that no directory state lists
abbrev pub is_unlisted : Draft → ℕ → CacheLine → Bool
is_unlisted d s c = is_owner c.role && not (is_listed d s)

-- S8: no core line for load, for store, or, at a state that isn't out, for evict
abbrev pub lacks_core_lines : Draft → ℕ → Bool
lacks_core_lines d s = is_none (core_row d s Load) || is_none (core_row d s Store) || (not (is (out d) s) && is_none (core_row d s Evict))

-- a forward is due in this state, and has no take line
abbrev pub lacks_take_line : Draft → ℕ → ℕ → Bool
lacks_take_line d s f = is_due d s f && is_none (take_row d s f)

-- there is one below this number
abbrev pub lacks_take_lines_below : Draft → ℕ → ℕ → Bool
lacks_take_lines_below d s zero = false
lacks_take_lines_below d s (suc f) = lacks_take_line d s f || lacks_take_lines_below d s f

-- S13: a due pair of this state without a take line
abbrev pub lacks_take_lines : Draft → ℕ → Bool
lacks_take_lines d s = lacks_take_lines_below d s (length d.messages)

-- what the line of cache state s breaks
abbrev pub cache_breaks : Draft → ℕ → CacheLine → Rule → Bool
cache_breaks d s c S1 = has_wrong_perm c
cache_breaks d s c S2 = is_one_too_many (take s d.caches) c
cache_breaks d s c S3 = is_needlessly_clean c
cache_breaks d s c S4 = is_unlisted d s c
cache_breaks d s c S8 = lacks_core_lines d s
cache_breaks d s c S13 = lacks_take_lines d s
cache_breaks d s c R = false
