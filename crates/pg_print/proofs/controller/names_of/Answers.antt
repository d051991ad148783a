use Rattle.std.proofs.Common.{[], ◌∷◌, ◌++◌, map, take, sym, ap, ◌∙◌}
use Rattle.std.specs.String.{string_bytes}
use Rattle.std.proofs.lemmas.List.{map-append}
use Rattle.pg_print.specs.TableText as print
use Rattle.pg_print.proofs.Rows.{name_next}
use Rattle.pg_print.proofs.controller.names_of.Goals as goal

pub loop-state-preserved : goal.loop-state-preserved
loop-state-preserved g c =
    ap (map string_bytes) c.in_ok-push.ensures.items
    ∙ (map-append string_bytes c.loop-state.names.items (c.in_ok-name.name ∷ [])
    ∙ (ap (λ names. names ++ string_bytes c.in_ok-name.name ∷ []) c.loop-state.invariant
    ∙ (ap (λ name. print.names_of g.D.State.wording c.args.draft.now (take c.loop-state.state c.args.table.now) ++ name ∷ []) c.in_ok-name.ensures
    ∙ sym (name_next g.D.State.wording c.args.draft.now c.args.table.now c.loop-state.state c.desc.result c.desc.ensures))))
