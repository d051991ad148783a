use Rattle.std.proofs.Common.{◌≡◌, List, sym, subst}
use Rattle.std.specs.Prelude.{IfOk}
use Rattle.pg_perm.specs.declared.kinds.Mode.{Mode}
use Rattle.pg_table.specs.Choices.{Choice}
use Rattle.pg_table.specs.GeneratedStates.{choice_of_mode}
use Rattle.pg_infer.proofs.Stores.{with_permission, without_permission}
use Rattle.pg_infer.proofs.stable.by_store.Goals as goal

pub returns-then-is_allowed : goal.returns-then-is_allowed
returns-then-is_allowed c =
    subst (λ (cs : List Choice). IfOk c.hit.result (λ x. (m : Mode) → x ≡ choice_of_mode m cs))
    (sym (with_permission c.args.protocol.now c.args.state (cc (c.is_allowed.ensures, c.if-is_allowed.true, c.draft.ensures.exact)))) c.hit.ensures

pub returns-else-is_allowed : goal.returns-else-is_allowed
returns-else-is_allowed c =
    subst (λ (cs : List Choice). IfOk c.ask_to_write.result (λ x. (m : Mode) → x ≡ choice_of_mode m cs))
    (sym (without_permission c.args.protocol.now c.args.state (cc (c.is_allowed.ensures, c.if-is_allowed.false, c.draft.ensures.exact)))) c.ask_to_write.ensures
