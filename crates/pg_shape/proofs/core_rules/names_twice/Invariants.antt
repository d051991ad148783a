use Rattle.std.proofs.Common.{◌≡◌, length}
use Rattle.pg_shape.specs.CoreRules.{names_twice}
use Rattle.pg_shape.proofs.core_rules.names_twice.Given as goal

-- a reply stands twice in what is left exactly where one does in all
abbrev pub invariant-loop-pair : goal.invariant-loop-pair
invariant-loop-pair l = names_twice l.left ≡ names_twice l.pairs

abbrev pub decreases-loop-pair : goal.decreases-loop-pair
decreases-loop-pair l = length l.left
