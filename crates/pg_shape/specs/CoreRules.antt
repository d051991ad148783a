-- The rules that a core line breaks.
-- S7: a form, a request, a reply or a final state that the event may not have in the state.
-- S9: a case that an earlier line has.
-- S10: a store hit to a state that is no dirty write owner, or that the directory tells apart.
-- S11: an evict by a request of another class than the state may use.
-- S19: a load that ends clean by a reply which a cache may send.
use Rattle.std.specs.Prelude.{ℕ, zero, suc, Bool, true, false, not, ◌==◌, ◌&&◌, ◌||◌, List, [], ◌∷◌, length, slice_get, take, Some, None, is_some}
use Rattle.std.specs.List.{list_any}
use Rattle.std.specs.Option.{option_map_or}
use Rattle.pg_perm.specs.declared.kinds.Role.{Role}
use Rattle.pg_perm.specs.declared.kinds.Role.TheVariants as role
use Rattle.pg_perm.specs.declared.kinds.Event.{Event}
use Rattle.pg_perm.specs.declared.kinds.Event.TheVariants.{Load, Store, Evict}
use Rattle.pg_perm.specs.declared.kinds.Who.TheVariants.{Other, Sharer}
use Rattle.pg_perm.specs.declared.kinds.ReqClass.{ReqClass}
use Rattle.pg_perm.specs.declared.kinds.ReqClass.TheVariants.{Read, Write, Clean, Dirty}
use Rattle.pg_perm.specs.declared.draft.Draft.{Draft}
use Rattle.pg_perm.specs.declared.draft.CacheLine.{CacheLine}
use Rattle.pg_perm.specs.declared.draft.DirLine.{DirLine}
use Rattle.pg_perm.specs.declared.draft.CoreLine.{CoreLine}
use Rattle.pg_perm.specs.declared.draft.CoreForm.{CoreForm}
use Rattle.pg_perm.specs.declared.draft.CoreForm.TheVariants.{Hit, Ask, Leave}
use Rattle.pg_perm.specs.declared.draft.Pair.{Pair}
use Rattle.pg_perm.specs.declared.draft.ReplyName.{ReplyName}
use Rattle.pg_perm.specs.declared.draft.ReplyName.TheVariants as reply
use Rattle.pg_perm.specs.declared.fault.Rule.{Rule}
use Rattle.pg_perm.specs.declared.fault.Rule.TheVariants.{S7, S9, S10, S11, S19}
use Rattle.pg_terms.specs.Terms.{is_out, is_owner, same_event, is_request_of, is, is_other, is_write_owner, cache_is, shared, request_of, lists_state, core_row}
use Rattle.pg_terms.specs.Due.{same_reply, is_load_reply, is_store_reply}
use Rattle.pg_terms.specs.Rows.{allows, store_next}

abbrev pub is_hit : CoreForm → Bool
is_hit (Hit next) = true
is_hit (Ask request pairs) = false
is_hit (Leave request) = false

-- Points of S7

-- an evict of an out state
abbrev pub leaves_out : Draft → CoreLine → Bool
leaves_out d c = same_event c.event Evict && cache_is (λ x. is_out x.role) d c.state

-- the state has the permission, and the line is no hit
abbrev pub asks_needlessly : Draft → CoreLine → Bool
asks_needlessly d c = cache_is (allows c.event) d c.state && not (is_hit c.form)

-- the state hasn't the permission, and the line is a hit
abbrev pub hits_without_perm : Draft → CoreLine → Bool
hits_without_perm d c = cache_is (λ x. not (allows c.event x)) d c.state && is_hit c.form

-- a load that is a hit and names a next state
abbrev pub moves_at_load : Event → CoreForm → Bool
moves_at_load Load (Hit (Some next)) = true
moves_at_load _ _ = false

-- the class of what a load or a store asks; no line asks at an evict
abbrev pub class_of : Event → ReqClass
class_of Load = Read
class_of Store = Write
class_of Evict = Clean

-- a load asks by another request than READ, or a store by another than WRITE
abbrev pub asks_otherwise : Draft → Event → CoreForm → Bool
asks_otherwise d event (Hit next) = false
asks_otherwise d event (Ask request pairs) = is_other (request_of d (class_of event)) request
asks_otherwise d event (Leave request) = false

-- a load may get this reply
abbrev pub is_asked_by_load : Draft → ReplyName → Bool
is_asked_by_load d reply.AckCount = false
is_asked_by_load d (reply.Reply m) = is_load_reply d m

-- a store in a state of this role may get this reply; an owner that may write has no line that asks
abbrev pub is_asked_by_store : Draft → Role → ReplyName → Bool
is_asked_by_store d role.Out reply.AckCount = false
is_asked_by_store d role.Out (reply.Reply m) = is_store_reply d Other m
is_asked_by_store d role.Shared reply.AckCount = false
is_asked_by_store d role.Shared (reply.Reply m) = is_store_reply d Sharer m
is_asked_by_store d role.Owner reply.AckCount = true
is_asked_by_store d role.Owner (reply.Reply m) = false

-- a core in a state of this role may get this reply at this event
abbrev pub is_asked : Draft → Role → Event → ReplyName → Bool
is_asked d role Load name = is_asked_by_load d name
is_asked d role Store name = is_asked_by_store d role name
is_asked d role Evict name = false

abbrev pub names_reply : List Pair → ReplyName → Bool
names_reply pairs name = list_any (λ p. same_reply p.reply name) pairs

-- a reply stands twice
abbrev pub names_twice : List Pair → Bool
names_twice [] = false
names_twice (p ∷ pairs) = names_reply pairs p.reply || names_twice pairs

-- a reply that no core gets there
abbrev pub names_another : Draft → Role → Event → List Pair → Bool
names_another d role event pairs = list_any (λ p. not (is_asked d role event p.reply)) pairs

-- a reply that a core may get isn't named
abbrev pub misses_reply_name : Draft → Role → Event → List Pair → ReplyName → Bool
misses_reply_name d role event pairs name = is_asked d role event name && not (names_reply pairs name)

-- a reply below this number that a core may get isn't named
abbrev pub misses_below : Draft → Role → Event → List Pair → ℕ → Bool
misses_below d role event pairs zero = false
misses_below d role event pairs (suc m) =
    misses_reply_name d role event pairs (reply.Reply m) || misses_below d role event pairs m

-- some reply that a core may get isn't named
abbrev pub misses_reply : Draft → Role → Event → List Pair → Bool
misses_reply d role event pairs = misses_reply_name d role event pairs reply.AckCount || misses_below d role event pairs (length d.messages)

-- the replies aren't those that a core may get, each once
abbrev pub names_wrongly : Draft → Role → Event → List Pair → Bool
names_wrongly d role event pairs = names_twice pairs || names_another d role event pairs || misses_reply d role event pairs

-- the replies of a line that asks aren't those, and the request of its event is declared
abbrev pub has_wrong_replies : Draft → ℕ → Event → CoreForm → Bool
has_wrong_replies d s event (Hit next) = false
has_wrong_replies d s event (Ask request pairs) = is_some (request_of d (class_of event)) && cache_is (λ c. names_wrongly d c.role event pairs) d s
has_wrong_replies d s event (Leave request) = false

-- a final state of a load is neither the shared state nor an owner
abbrev pub is_no_load_final : Draft → ℕ → Bool
is_no_load_final d s = not (is (shared d) s || cache_is (λ c. is_owner c.role) d s)

-- an owner that may write, and isn't clean
abbrev pub is_dirty_writer : CacheLine → Bool
is_dirty_writer c = is_write_owner c && not c.clean

-- a store in the state is a hit that stays there
abbrev pub stays_at_store : ℕ → CoreForm → Bool
stays_at_store s (Hit None) = true
stays_at_store s (Hit (Some next)) = next == s
stays_at_store s (Ask request pairs) = false
stays_at_store s (Leave request) = false

-- a store in the state moves on, or is no hit
abbrev pub moves_at_store : Draft → ℕ → Bool
moves_at_store d s = option_map_or (λ c. not (stays_at_store s c.form)) (core_row d s Store) false

-- a final state of a store is no owner that may write, or is clean, or a store in it moves on
abbrev pub is_no_store_final : Draft → ℕ → Bool
is_no_store_final d s = not (cache_is is_dirty_writer d s) || moves_at_store d s

-- a final state is another than this one
abbrev pub ends_otherwise : ℕ → List Pair → Bool
ends_otherwise s pairs = list_any (λ p. not (p.fin == s)) pairs

-- two final states differ
abbrev pub ends_differ : List Pair → Bool
ends_differ [] = false
ends_differ (p ∷ pairs) = ends_otherwise p.fin pairs

-- a final state is none that the event may have
abbrev pub ends_wrongly : Draft → Event → CoreForm → Bool
ends_wrongly d Load (Ask request pairs) = list_any (λ p. is_no_load_final d p.fin) pairs
ends_wrongly d Store (Ask request pairs) = list_any (λ p. is_no_store_final d p.fin) pairs || ends_differ pairs
ends_wrongly d _ _ = false

-- S7: one of the points above
abbrev pub breaks_s7 : Draft → CoreLine → Bool
breaks_s7 d c = leaves_out d c || asks_needlessly d c || hits_without_perm d c || moves_at_load c.event c.form
    || asks_otherwise d c.event c.form || has_wrong_replies d c.state c.event c.form || ends_wrongly d c.event c.form

-- The other rules

-- S9: a core line above it is for the same state and event
abbrev pub has_core_line : List CoreLine → CoreLine → Bool
has_core_line above c = list_any (λ x. (x.state == c.state) && same_event x.event c.event) above

-- the directory state lists one of two states and not the other
abbrev pub tells_apart : ℕ → ℕ → DirLine → Bool
tells_apart s t l = (lists_state l.beside s && not (lists_state l.beside t)) || (not (lists_state l.beside s) && lists_state l.beside t)

-- S10: a store hit of an owner that may write leads to a state that is none or is clean, or that the directory tells apart
abbrev pub hits_wrongly : Draft → CoreLine → Bool
hits_wrongly d c = option_map_or (λ t. cache_is is_write_owner d c.state && (not (cache_is is_dirty_writer d t) || list_any (tells_apart c.state t) d.dirs))
    (store_next c.state c.event c.form) false

-- there is a request of this number, and it is of the class
abbrev pub asks_class : ReqClass → Draft → ℕ → Bool
asks_class class d m = option_map_or (λ x. is_request_of class x.class) (slice_get d.messages m) false

-- a shared copy or an owner gives its copy up by a request of another class than it may
abbrev pub leaves_by_another : Draft → Role → Bool → ℕ → Bool
leaves_by_another d role.Out clean m = false
leaves_by_another d role.Shared clean m = not (asks_class Clean d m)
leaves_by_another d role.Owner clean m = not (asks_class Dirty d m || (clean && asks_class Clean d m))

-- S11: an evict by a request of another class than its state may use
abbrev pub leaves_wrongly : Draft → ℕ → CoreForm → Bool
leaves_wrongly d s (Hit next) = false
leaves_wrongly d s (Ask request pairs) = false
leaves_wrongly d s (Leave request) = cache_is (λ c. leaves_by_another d c.role c.clean request) d s

-- some cache answers a forward with this message
abbrev pub is_sent : Draft → ℕ → Bool
is_sent d m = list_any (λ t. is t.reply m) d.takes

-- some cache answers a forward with this reply
abbrev pub is_from_cache : Draft → ReplyName → Bool
is_from_cache d reply.AckCount = false
is_from_cache d (reply.Reply m) = is_sent d m

-- the final state is clean, and a cache may send the reply, whose data memory may lack
abbrev pub is_unclean : Draft → Pair → Bool
is_unclean d p = cache_is (λ c. c.clean) d p.fin && is_from_cache d p.reply

-- S19: a load may end so
abbrev pub ends_unclean : Draft → Event → CoreForm → Bool
ends_unclean d Load (Ask request pairs) = list_any (is_unclean d) pairs
ends_unclean d _ _ = false

-- what core line n breaks
abbrev pub core_breaks : Draft → ℕ → CoreLine → Rule → Bool
core_breaks d n c S7 = breaks_s7 d c
core_breaks d n c S9 = has_core_line (take n d.cores) c
core_breaks d n c S10 = hits_wrongly d c
core_breaks d n c S11 = leaves_wrongly d c.state c.form
core_breaks d n c S19 = ends_unclean d c.event c.form
core_breaks d n c R = false
