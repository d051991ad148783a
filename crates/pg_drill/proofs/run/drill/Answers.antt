use Rattle.std.proofs.Common.{◌≡◌, ℕ, List, subst, ap, ◌∙◌}
use Rattle.std.specs.Prelude.{IfOk}
use Rattle.std.proofs.lemmas.Result.{IfOk-weaker}
use Rattle.pg_samples.specs.Drafts.{moesi}
use Rattle.pg_script.specs.Scripts.{Operations}
use Rattle.pg_controllers.specs.Worlds.{World}
use Rattle.pg_controller_run.specs.Histories.{final_worlds}
use Rattle.pg_tally.specs.Summaries.{summary}
use Rattle.pg_drill.specs.Drills.{tally_of_blocks}
use Rattle.pg_drill.proofs.Atomic.{tells_drill}
use Rattle.pg_drill.proofs.run.drill.Goals as goal

pub returns-clause-exact : goal.returns-clause-exact
returns-clause-exact c =
    let counted =
    c.in_ok-tally.ensures
    ∙ ap (λ (ws : List World). tally_of_blocks c.in_ok-script.script.cores ws) c.in_ok-system.ensures.worlds
    ∙ ap (λ (s : Operations). tally_of_blocks s.cores (final_worlds moesi c.args.mode c.args.seed s)) c.in_ok-script.ensures.exact in
    subst (λ (t : List ℕ). IfOk c.summary_text.result (λ text. text.items ≡ t))
    (ap (summary c.args.seed c.args.cores c.args.blocks c.args.ops) counted) c.summary_text.ensures

pub returns-clause-atomic : goal.returns-clause-atomic
returns-clause-atomic c =
    IfOk-weaker c.summary_text.result _ _ (λ text exact. tells_drill c.args.mode c.args.seed c.args.cores c.args.blocks c.args.ops text.items exact)
    (returns-clause-exact c)
