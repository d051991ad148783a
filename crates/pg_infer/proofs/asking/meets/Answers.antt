use Rattle.std.proofs.Common.{◌≡◌, ◌∙◌, List, sym, subst}
use Rattle.std.specs.Prelude.{IfOk}
use Rattle.std.proofs.lemmas.Result.{IfOk-weaker}
use Rattle.pg_table.specs.Choices.{Choice}
use Rattle.pg_table.specs.GeneratedStates.{choice_of_mode}
use Rattle.pg_infer.proofs.Stores.{meets_earlier}
use Rattle.pg_infer.proofs.asking.meets.Goals as goal

pub returns-then-is_earlier : goal.returns-then-is_earlier
returns-then-is_earlier c =
    subst (λ (cs : List Choice). IfOk c.earlier_choice.result (λ x. x ≡ choice_of_mode c.args.mode cs))
    (sym (meets_earlier c.args.protocol.now c.args.start c.args.tag c.args.forward (sym c.is_earlier.ensures ∙ c.if-is_earlier.true)))
    (IfOk-weaker c.earlier_choice.result _ _ (λ x each. each c.args.mode) c.earlier_choice.ensures)
