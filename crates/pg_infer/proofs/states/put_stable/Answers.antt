use Rattle.std.proofs.Common.{sym, arith}
use Rattle.std.proofs.lemmas.List.FromFn.{map-range_with_len_more}
use Rattle.pg_table.specs.declared.cache.Desc.TheVariants.{Stable}
use Rattle.pg_infer.proofs.Ranges.{append_grown}
use Rattle.pg_infer.proofs.states.put_stable.Goals as goal

pub loop-state-preserved : goal.loop-state-preserved
loop-state-preserved c = append_grown _ _ _ _ _ _ c.in_ok-put.ensures c.loop-state.invariant (sym (map-range_with_len_more (λ s. Stable s) 0 c.loop-state.state c.loop-state.state (omega arith)))
