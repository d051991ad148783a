use Rattle.std.proofs.Common.{◌≡◌, length}
use Rattle.pg_shape.specs.DirRules.{has_twice}
use Rattle.pg_shape.proofs.dir_rules.has_twice.Given as goal

-- a state stands twice in what is left exactly where one does in all
abbrev pub invariant-loop-state : goal.invariant-loop-state
invariant-loop-state l = has_twice l.left ≡ has_twice l.states

abbrev pub decreases-loop-state : goal.decreases-loop-state
decreases-loop-state l = length l.left
