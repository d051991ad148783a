use Rattle.std.proofs.Common.{◌≡◌, arith, sym, subst}
use Rattle.pg_script.specs.Scripts.{IsWithin}
use Rattle.pg_script.proofs.Drills.{drawn_last, next_drawn, drill_is_within, drawn_is_drill}
use Rattle.pg_script.proofs.drill.drill_script.Goals as goal

pub loop-number-preserved : goal.loop-number-preserved
loop-number-preserved c =
    let (are, state, low) = c.loop-number.invariant in
    let below = c.loop-number-test.true in (
      drawn_last c.args.seed c.args.cores c.args.blocks c.loop-number.number c.loop-number.pick c.draw_op.new.pick c.draw_op.result c.loop-number.drawn c.push.new.self are state c.draw_op.ensures.state c.draw_op.ensures.core c.draw_op.ensures.block c.draw_op.ensures.op c.in_ok-push.ensures.pushed,
      next_drawn c.args.seed c.loop-number.number c.loop-number.pick c.draw_op.new.pick state c.draw_op.ensures.state,
      omega (arith, below),
    )

pub new-requires : goal.new-requires
new-requires c =
    let (are, state, low) = c.loop-number.invariant in
    let past = c.loop-number-test.false in
    let all : c.loop-number.number ≡ c.args.ops = omega (arith, low, past) in
    subst IsWithin (sym (drawn_is_drill c.args.seed c.args.cores c.args.blocks c.args.ops c.loop-number.number c.loop-number.drawn all are)) (drill_is_within c.args.seed c.args.cores c.args.blocks c.args.ops c.requires)
