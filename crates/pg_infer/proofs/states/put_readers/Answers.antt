use Rattle.pg_terms.specs.Terms.{cache_is, is_read_owner}
use Rattle.pg_table.specs.Descriptors.{store_states}
use Rattle.pg_infer.proofs.Ranges.{append_grown, flat_filter_more}
use Rattle.pg_infer.proofs.states.put_readers.Goals as goal

pub loop-state-preserved : goal.loop-state-preserved
loop-state-preserved c =
    append_grown _ _ _ _ _ _ c.in_ok-put_reader.ensures c.loop-state.invariant
    (flat_filter_more (store_states c.args.protocol.now c.args.mode) (cache_is is_read_owner c.args.protocol.now) c.loop-state.state)
