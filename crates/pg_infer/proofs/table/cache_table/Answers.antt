use Rattle.std.proofs.Common.{◌≡◌, ◌∙◌, List, sym, ap, subst}
use Rattle.std.proofs.lemmas.Result.{IfOk-weaker}
use Rattle.pg_table.specs.declared.cache.Desc.{Desc}
use Rattle.pg_table.specs.declared.cache.Input.{Input}
use Rattle.pg_table.specs.Controllers.{table_by}
use Rattle.pg_table.specs.Choices.{choices}
use Rattle.pg_table.specs.GeneratedStates.{inputs, choice_of_mode}
use Rattle.pg_table.specs.Tables.{TableState, same_desc, dir_table}
use Rattle.pg_table.specs.Sound.{IsSound}
use Rattle.pg_table.proofs.Mixed.{generated_is_sound}
use Rattle.pg_infer.proofs.Nexts.{cache_leads}
use Rattle.pg_infer.proofs.table.cache_table.Goals as goal

pub table_of-requires-clause-onward : goal.table_of-requires-clause-onward
table_of-requires-clause-onward c n s i x =
    cache_leads c.args.protocol.now c.args.mode _ n s i x c.draft.ensures.well_formed c.draft.ensures.shaped (c.as_slice.ensures.value ∙ c.in_ok-states.ensures)

pub returns-clause-exact : goal.returns-clause-exact
returns-clause-exact c =
    let d = c.args.protocol.now in
    let m = c.args.mode in
    let of = c.as_slice.ensures.value ∙ c.in_ok-states.ensures in
    let met : c.as_slice-2.result.now ≡ inputs d = c.as_slice-2.ensures.value ∙ c.in_ok-inputs.ensures ∙ ap inputs c.draft.ensures.exact in
    IfOk-weaker c.table_of.result _ _
    (λ x e. e ∙ ap (λ (is : List Input). table_by same_desc (λ s i. choice_of_mode m (choices d s i)) is c.as_slice.result.now) met
    ∙ ap (λ (ss : List Desc). table_by same_desc (λ s i. choice_of_mode m (choices d s i)) (inputs d) ss) of) c.table_of.ensures

pub returns-clause-sound : goal.returns-clause-sound
returns-clause-sound c =
    let d = c.args.protocol.now in
    IfOk-weaker c.table_of.result _ _
    (λ x e. subst (λ (t : List TableState). IsSound d t (dir_table d)) (sym e) (generated_is_sound d c.args.mode c.draft.ensures.well_formed c.draft.ensures.shaped)) (returns-clause-exact c)
