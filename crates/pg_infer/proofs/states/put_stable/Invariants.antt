use Rattle.std.proofs.Common.{◌≡◌, ◌++◌}
use Rattle.std.specs.Prelude.{map}
use Rattle.std.specs.List.{range_with_len}
use Rattle.pg_table.specs.declared.cache.Desc.TheVariants.{Stable}
use Rattle.pg_infer.proofs.states.put_stable.Given as goal

abbrev pub invariant-loop-state : goal.invariant-loop-state
invariant-loop-state l = l.states.items ≡ l.initial.states.items ++ map (λ s. Stable s) (range_with_len 0 l.state)
