use Rattle.std.proofs.Common.{sym, ◌∙◌}
use Rattle.pg_run.proofs.Drains.{turn_lowers, turn_drains, ends_drained, ends_finished}
use Rattle.pg_run.proofs.system.System.drain.Goals as goal

pub loop-draws-smaller : goal.loop-draws-smaller
loop-draws-smaller c = turn_lowers c.loop-draws.self c.advance.new.self c.next.result c.advance.ensures.reached c.advance.ensures.turn (sym c.advance.ensures.any ∙ c.loop-draws-test.true)

pub loop-draws-preserved : goal.loop-draws-preserved
loop-draws-preserved c =
    turn_drains c.loop-draws.self c.advance.new.self c.next.result c.loop-draws.draws c.next.new.self c.advance.ensures.reached c.advance.ensures.turn c.next.ensures.state c.next.ensures.pick (sym c.advance.ensures.any ∙ c.loop-draws-test.true)
    ∙ c.loop-draws.invariant

pub returns-clause-scheduled : goal.returns-clause-scheduled
returns-clause-scheduled c =
    ends_drained c.loop-draws.self c.advance.new.self c.next.result c.loop-draws.draws c.next.new.self c.advance.ensures.turn c.next.ensures.state c.next.ensures.pick (sym c.advance.ensures.any ∙ c.loop-draws-test.false) ∙ c.loop-draws.invariant

pub returns-clause-finished : goal.returns-clause-finished
returns-clause-finished c = ends_finished c.loop-draws.self c.advance.new.self c.next.result c.advance.ensures.reached c.advance.ensures.turn (sym c.advance.ensures.any ∙ c.loop-draws-test.false)
