use Rattle.std.proofs.Common.{◌≡◌}
use Rattle.pg_shape.specs.CoreRules.{misses_below}
use Rattle.pg_shape.proofs.core_rules.misses_below.Given as goal

-- a reply below what is left is missed exactly where one is below all
abbrev pub invariant-loop-left : goal.invariant-loop-left
invariant-loop-left l = misses_below l.draft l.role l.event l.pairs l.left ≡ misses_below l.draft l.role l.event l.pairs l.below

abbrev pub decreases-loop-left : goal.decreases-loop-left
decreases-loop-left l = l.left
