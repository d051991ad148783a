use Rattle.std.proofs.Common.{◌≡◌, ◌++◌}
use Rattle.std.specs.List.{filter, flat_map, range_with_len}
use Rattle.pg_terms.specs.Terms.{cache_is, is_read_owner}
use Rattle.pg_table.specs.Descriptors.{store_states}
use Rattle.pg_infer.proofs.states.put_readers.Given as goal

abbrev pub invariant-loop-state : goal.invariant-loop-state
invariant-loop-state l = l.states.items ≡ l.initial.states.items ++ flat_map (store_states l.protocol l.mode) (filter (cache_is is_read_owner l.protocol) (range_with_len 0 l.state))
