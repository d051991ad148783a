use Rattle.std.proofs.Common.{◌≡◌, length}
use Rattle.std.specs.List.{list_all}
use Rattle.pg_perm.specs.Names.{is_state_name}
use Rattle.pg_forms.proofs.reading.are_states.Given as goal

-- what is left answers for all
abbrev pub invariant-loop-name : goal.invariant-loop-name
invariant-loop-name l = list_all is_state_name l.left ≡ list_all is_state_name l.words

abbrev pub decreases-loop-name : goal.decreases-loop-name
decreases-loop-name l = length l.left
