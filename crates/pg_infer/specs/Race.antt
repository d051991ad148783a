-- What an outstanding operation tells the race order, and what is done with a forward on each side of it.
use Rattle.std.specs.Prelude.{ℕ, Bool, true, false, not, ◌||◌, List, [], ◌∷◌, Option, Some, None, slice_get, if◌then◌else◌}
use Rattle.std.specs.List.{list_any}
use Rattle.std.specs.Option.{option_map, option_and_then}
use Rattle.pg_perm.specs.declared.kinds.Role.{Role}
use Rattle.pg_perm.specs.declared.kinds.Role.TheVariants as role
use Rattle.pg_perm.specs.declared.kinds.Event.{Event}
use Rattle.pg_perm.specs.declared.kinds.Event.TheVariants.{Evict}
use Rattle.pg_perm.specs.declared.kinds.FwdClass.{FwdClass}
use Rattle.pg_perm.specs.declared.kinds.Side.{Side}
use Rattle.pg_perm.specs.declared.kinds.Side.TheVariants.{Before, After}
use Rattle.pg_perm.specs.declared.draft.Draft.{Draft}
use Rattle.pg_perm.specs.declared.draft.MsgClass.{MsgClass}
use Rattle.pg_perm.specs.declared.draft.MsgClass.TheVariants as message
use Rattle.pg_terms.specs.Terms.{is, shared}
use Rattle.pg_table.specs.declared.cache.Desc.{Desc}
use Rattle.pg_table.specs.declared.cache.Desc.TheVariants.{Stable, Ask, Leave}
use Rattle.pg_table.specs.declared.cache.Phase.{Phase}
use Rattle.pg_table.specs.declared.cache.Phase.TheVariants as phase
use Rattle.pg_table.specs.declared.cache.Tag.{Tag}
use Rattle.pg_table.specs.declared.cache.Tag.TheVariants as tag
use Rattle.pg_table.specs.declared.cache.Act.{Act}
use Rattle.pg_table.specs.declared.cache.Act.TheVariants as act
use Rattle.pg_table.specs.Choices.{Choice, answer_choices, later_choices}
use Rattle.pg_infer.specs.Moves.{desc_moved_to}

-- Forwards

abbrev pub class_in : MsgClass → Option FwdClass
class_in (message.Request c) = None
class_in (message.Forward c) = Some c
class_in message.Reply = None

-- the class of a forward
abbrev pub class_of : Draft → ℕ → Option FwdClass
class_of d f = option_and_then (λ m. class_in m.class) (slice_get d.messages f)

-- Stores that wait for data

abbrev pub is_before : Side → Bool
is_before Before = true
is_before After = false

-- a store that waits for data began as a sharer or as out
abbrev pub role_of_start : Draft → ℕ → Role
role_of_start d s = if is (shared d) s then role.Shared else role.Out

-- a later forward has come
abbrev pub is_tagged : Tag → Bool
is_tagged tag.Plain = false
is_tagged tag.Kept = true
is_tagged tag.Gave = true
is_tagged tag.Gone = true

-- All outstanding operations

-- the operation that is outstanding in a state
abbrev pub event_of : Desc → Option Event
event_of (Stable s) = None
event_of (Ask event s phase tag) = Some event
event_of (Leave s) = Some Evict

-- the stable state in which the outstanding operation began, or where earlier forwards have led it since
abbrev pub start_of : Desc → ℕ
start_of (Stable s) = s
start_of (Ask event s phase tag) = s
start_of (Leave s) = s

-- what the directory knows of a cache that is in this stable state
abbrev pub role_of : Draft → ℕ → Option Role
role_of d s = option_map (λ c. c.role) (slice_get d.caches s)

-- data or a count was taken, and acknowledgements alone are waited for
abbrev pub is_counting : Phase → Bool
is_counting phase.D = false
is_counting phase.Ad = false
is_counting phase.Ac = false
is_counting phase.A = true

-- the outstanding operation was granted: data or a count was taken for it, or a later forward; an evict is granted nothing
abbrev pub is_granted : Desc → Bool
is_granted (Stable s) = false
is_granted (Ask event s phase tag) = is_counting phase || is_tagged tag
is_granted (Leave s) = false

-- what may be done with a forward on this side of the outstanding operation: an earlier one is answered as in the stable state where that began,
-- and the operation goes on from where it leads; a later one waits or is taken
abbrev pub choices_by_side : Draft → Side → Desc → ℕ → List Choice
choices_by_side d Before s f = answer_choices d (start_of s) f (desc_moved_to d s)
choices_by_side d After (Ask event s phase tag) f = later_choices d s event phase tag f
choices_by_side d After _ f = []

-- a message waits, or is put off
abbrev pub is_wait : Act → Bool
is_wait act.Stall = true
is_wait act.Defer = true
is_wait _ = false

-- at most one choice, in which nothing waits
abbrev pub is_answer : List Choice → Bool
is_answer [] = true
is_answer (c ∷ []) = not (list_any is_wait c.acts)
is_answer _ = false
