use Rattle.std.specs.Prelude.{length}
use Rattle.pg_tally.proofs.Sums.{tally_is_low}
use Rattle.pg_tally.proofs.tally.tally_of.Goals as goal

pub returns-clause-low : goal.returns-clause-low
returns-clause-low c = tally_is_low c.args.steps.now c.args.done.now c.args.journal.now _
    (λ i. record {
      txns = c.txns.ensures i;
      stale = c.stale.ensures i;
      loads = c.loads.ensures i;
      late = c.late.ensures i;
      stores = c.stores.ensures i;
      events = length c.args.journal.now;
      sum = c.sum_of_loads.ensures.exact i;
    })
    c.sum_of_loads.ensures.low
