use Rattle.std.proofs.Common.{◌≤◌, ◌-◌}
use Rattle.pg_table.specs.declared.cache.Desc.TheVariants.{Stable}
use Rattle.pg_table.specs.Tables.{number_of}
use Rattle.pg_table.specs.Sound.{states_of}
use Rattle.pg_table.specs.Descriptors.{out_state}
use Rattle.pg_cache.proofs.line.out_number.Given as goal

abbrev pub invariant-loop-table : goal.invariant-loop-table
invariant-loop-table l = l.number ≤ number_of (states_of l.t.cache) (Stable (out_state l.t.protocol))

abbrev pub decreases-loop-table : goal.decreases-loop-table
decreases-loop-table l = number_of (states_of l.t.cache) (Stable (out_state l.t.protocol)) - l.number
