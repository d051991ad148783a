use Rattle.std.proofs.Common.{ap, ◌∙◌}
use Rattle.pg_perm.specs.declared.draft.Draft.{Draft}
use Rattle.pg_run.specs.Systems.{SystemView}
use Rattle.pg_controller_run.specs.Histories.{final_worlds}
use Rattle.pg_controller_run.proofs.Texts.{drained}
use Rattle.pg_drill.proofs.run.drained.Goals as goal

pub returns-clause-given : goal.returns-clause-given
returns-clause-given c = ap (λ (s : SystemView). s.given) c.drain.ensures.scheduled ∙ c.in_ok-system.ensures.given

pub returns-clause-worlds : goal.returns-clause-worlds
returns-clause-worlds c =
    let is =
    drained c.in_ok-protocol.protocol c.args.mode c.args.seed c.args.script.now c.in_ok-tables.tables.value c.in_ok-system.system c.drain.new.self (c.in_ok-tables.ensures.ok ∙ c.in_ok-generate.ensures.exact)
    c.in_ok-system.ensures.tables c.in_ok-system.ensures.given c.in_ok-system.ensures.opening c.drain.ensures.scheduled in
    is.worlds ∙ ap (λ (d : Draft). final_worlds d c.args.mode c.args.seed c.args.script.now) c.in_ok-protocol.ensures
