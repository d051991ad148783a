use Rattle.std.proofs.Common.{◌≡◌, ◌++◌}
use Rattle.std.specs.Prelude.{map, not}
use Rattle.std.specs.List.{filter, range_with_len}
use Rattle.pg_table.specs.declared.cache.Desc.TheVariants.{Leave}
use Rattle.pg_terms.specs.Terms.{is, out}
use Rattle.pg_infer.proofs.states.put_leaving.Given as goal

abbrev pub invariant-loop-state : goal.invariant-loop-state
invariant-loop-state l = l.states.items ≡ l.initial.states.items ++ map (λ s. Leave s) (filter (λ s. not (is (out l.protocol) s)) (range_with_len 0 l.state))
