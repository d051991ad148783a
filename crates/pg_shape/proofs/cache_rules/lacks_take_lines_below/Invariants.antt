use Rattle.std.proofs.Common.{◌≡◌}
use Rattle.pg_shape.specs.CacheRules.{lacks_take_lines_below}
use Rattle.pg_shape.proofs.cache_rules.lacks_take_lines_below.Given as goal

-- a forward below what is left lacks its take line exactly where one below all does
abbrev pub invariant-loop-left : goal.invariant-loop-left
invariant-loop-left l = lacks_take_lines_below l.draft l.state l.left ≡ lacks_take_lines_below l.draft l.state l.below

abbrev pub decreases-loop-left : goal.decreases-loop-left
decreases-loop-left l = l.left
