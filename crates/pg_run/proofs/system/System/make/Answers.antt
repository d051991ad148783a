use Rattle.pg_run.proofs.Openings.{opened_system}
use Rattle.pg_run.proofs.system.System.make.Goals as goal

pub invariant_of-result : goal.invariant_of-result
invariant_of-result c = opened_system c.args.tables.value c.args.script.now c.in_ok-blocks.blocks.items c.ops-ops.ensures.within c.in_ok-blocks.ensures
