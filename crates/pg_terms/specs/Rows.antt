-- What the lines of core, take and row say.
use Rattle.std.specs.Prelude.{ℕ, Bool, false, not, List, Option, Some, None, find}
use Rattle.std.specs.Option.{option_map, option_map_or, option_and_then}
use Rattle.pg_perm.specs.declared.kinds.Event.{Event}
use Rattle.pg_perm.specs.declared.kinds.Event.TheVariants.{Load, Store, Evict}
use Rattle.pg_perm.specs.declared.kinds.FwdClass.TheVariants.{Share, Keep}
use Rattle.pg_perm.specs.declared.draft.Draft.{Draft}
use Rattle.pg_perm.specs.declared.draft.CacheLine.{CacheLine}
use Rattle.pg_perm.specs.declared.draft.CoreForm.{CoreForm}
use Rattle.pg_perm.specs.declared.draft.CoreForm.TheVariants.{Hit, Ask, Leave}
use Rattle.pg_perm.specs.declared.draft.Pair.{Pair}
use Rattle.pg_perm.specs.declared.draft.ReplyName.{ReplyName}
use Rattle.pg_perm.specs.declared.draft.RowLine.{RowLine}
use Rattle.pg_perm.specs.declared.draft.RowForm.{RowForm}
use Rattle.pg_perm.specs.declared.draft.RowForm.TheVariants as form
use Rattle.pg_perm.specs.declared.draft.Action.{Action}
use Rattle.pg_terms.specs.Terms.{is_none_perm, is_write_perm, forward_of, has_class, core_row, take_row}
use Rattle.pg_terms.specs.Due.{forward_in, is_due, same_reply}

-- Cores

-- a permission allows an event: any but none allows a load, and write a store
abbrev pub allows : Event → CacheLine → Bool
allows Load c = not (is_none_perm c.perm)
allows Store c = is_write_perm c.perm
allows Evict c = false

abbrev pub pair_under : ReplyName → List Pair → Option Pair
pair_under name pairs = find (λ p. same_reply p.reply name) pairs

-- the final state under a reply
abbrev pub final_under : ReplyName → CoreForm → Option ℕ
final_under name (Hit next) = None
final_under name (Ask request pairs) = option_map (λ p. p.fin) (pair_under name pairs)
final_under name (Leave request) = None

-- the state in which a core ends that asked in this state and gets this reply
abbrev pub final_state : Draft → ℕ → Event → ReplyName → Option ℕ
final_state d x event name = option_and_then (λ c. final_under name c.form) (core_row d x event)

-- the state that a store in state s leads to where it is a hit
abbrev pub store_next : ℕ → Event → CoreForm → Option ℕ
store_next s Store (Hit None) = Some s
store_next s Store (Hit (Some next)) = Some next
store_next s _ _ = None

-- Forwards

-- what an owner in a state answers to a forward
abbrev pub reply_to : Draft → ℕ → ℕ → Option ℕ
reply_to d s f = option_and_then (λ t. t.reply) (take_row d s f)

-- a cache in this state may get the keep forward
abbrev pub may_keep : Draft → ℕ → Bool
may_keep d s = option_map_or (is_due d s) (forward_of d Keep) false

-- The directory

-- what a row line of this form does with a request
abbrev pub action_in : RowForm → Option Action
action_in (form.Ask request who action) = Some action
action_in (form.Evict who left) = None

-- a row line passes a request on by a share
abbrev pub is_by_share : Draft → RowLine → Bool
is_by_share d r = option_map_or (has_class Share d) (forward_in r.form) false
