use Rattle.std.proofs.Common.{arith}
use Rattle.std.proofs.Math.Seq.{take-add}
use Rattle.std.proofs.lemmas.List.{take_rest, length-drop}
use Rattle.pg_io.proofs.Holds.{Holds-append}
use Rattle.pg_io.proofs.write.write_all.Goals as goal

pub loop-written-preserved : goal.loop-written-preserved
loop-written-preserved g c =
    let put = rw take_rest at c.in-Bytes.ensures in
    record {
      held = rw take-add (Holds-append _ _ _ _ _ c.loop-written.invariant.held put.held);
      faults = cc put.faults;
      within = omega (arith, put.within, length-drop c.loop-written.written c.args.bytes.now);
    }
