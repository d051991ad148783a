use Rattle.std.proofs.Common.{◌≡◌, ℕ, List, subst, ◌∙◌}
use Rattle.std.specs.Prelude.{IfOk}
use Rattle.std.proofs.lemmas.Result.{IfOk-weaker}
use Rattle.pg_controller_run.proofs.Texts.{drained, drained_histories, tells_histories}
use Rattle.pg_controller_run.proofs.run.controller_run.Goals as goal

pub returns-clause-exact : goal.returns-clause-exact
returns-clause-exact c =
    let d = c.args.protocol.now in
    let made = c.in_ok-tables.ensures.ok ∙ c.in_ok-generate.ensures.exact in
    let is = drained d c.args.mode c.args.seed c.args.script.now c.in_ok-tables.tables.value c.in_ok-system.system c.drain.new.self made c.in_ok-system.ensures.tables c.in_ok-system.ensures.given c.in_ok-system.ensures.opening c.drain.ensures.scheduled in
    subst (λ (t : List ℕ). IfOk c.histories_text.result (λ text. text.items ≡ t))
    (drained_histories d c.args.mode c.args.seed c.args.script.now c.drain.new.self c.draft-draft.ensures.well_formed c.draft-draft.ensures.shaped is) c.histories_text.ensures

pub returns-clause-atomic : goal.returns-clause-atomic
returns-clause-atomic c =
    IfOk-weaker c.histories_text.result _ _ (λ text exact. tells_histories c.args.protocol.now c.args.mode c.args.seed c.args.script.now text.items c.draft-draft.ensures.well_formed c.draft-draft.ensures.shaped exact)
    (returns-clause-exact c)
