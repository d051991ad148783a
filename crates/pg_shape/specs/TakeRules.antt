-- The rules that a take line breaks.
-- S9: a case that an earlier line has.
-- S12: a pair that isn't due, or a reply or next state that the forward's class doesn't ask for.
-- S14: a keep line whose next state may get the keep forward and is led on to another state by it.
use Rattle.std.specs.Prelude.{ℕ, Bool, false, not, ◌==◌, ◌&&◌, ◌||◌, List, take, is_none, is_some}
use Rattle.std.specs.List.{list_any}
use Rattle.pg_perm.specs.declared.draft.Draft.{Draft}
use Rattle.pg_perm.specs.declared.draft.TakeLine.{TakeLine}
use Rattle.pg_perm.specs.declared.kinds.FwdClass.TheVariants.{Inv, Share, Keep, Drop}
use Rattle.pg_perm.specs.declared.fault.Rule.{Rule}
use Rattle.pg_perm.specs.declared.fault.Rule.TheVariants.{S9, S12, S14}
use Rattle.pg_terms.specs.Terms.{is, is_other, is_read_owner, cache_is, out, shared, has_class, keep_of}
use Rattle.pg_terms.specs.Due.{is_due}
use Rattle.pg_terms.specs.Rows.{may_keep}

-- S9: a take line above it is for the same state and forward
abbrev pub has_take_line : List TakeLine → TakeLine → Bool
has_take_line above t = list_any (λ x. (x.state == t.state) && (x.forward == t.forward)) above

-- not so: the copy is given up without data
abbrev pub invalidates_wrongly : Draft → TakeLine → Bool
invalidates_wrongly d t = is_some t.reply || is_other (out d) t.next

-- not so: the owner becomes a sharer and sends data
abbrev pub shares_wrongly : Draft → TakeLine → Bool
shares_wrongly d t = is_none t.reply || not (is (shared d) t.next)

-- not so: the owner is one that may only read, is clean only if it was, and sends data
abbrev pub keeps_wrongly : Draft → TakeLine → Bool
keeps_wrongly d t = is_none t.reply || not (cache_is is_read_owner d t.next)
    || (cache_is (λ c. c.clean) d t.next && not (cache_is (λ c. c.clean) d t.state))

-- not so: the owner gives its copy up and sends data
abbrev pub drops_wrongly : Draft → TakeLine → Bool
drops_wrongly d t = is_none t.reply || is_other (out d) t.next

-- the line isn't what a forward of its class asks for
abbrev pub answers_wrongly : Draft → TakeLine → Bool
answers_wrongly d t = (has_class Inv d t.forward && invalidates_wrongly d t) || (has_class Share d t.forward && shares_wrongly d t)
    || (has_class Keep d t.forward && keeps_wrongly d t) || (has_class Drop d t.forward && drops_wrongly d t)

-- S12: the pair isn't due, or the line isn't what its forward asks for
abbrev pub takes_wrongly : Draft → TakeLine → Bool
takes_wrongly d t = not (is_due d t.state t.forward) || answers_wrongly d t

-- S14: the keep forward leads to a state that it then leads to another
abbrev pub keeps_moving : Draft → TakeLine → Bool
keeps_moving d t = has_class Keep d t.forward && may_keep d t.next && is_other (keep_of d t.next) t.next

-- what take line n breaks
abbrev pub take_breaks : Draft → ℕ → TakeLine → Rule → Bool
take_breaks d n t S9 = has_take_line (take n d.takes) t
take_breaks d n t S12 = takes_wrongly d t
take_breaks d n t S14 = keeps_moving d t
take_breaks d n t R = false
