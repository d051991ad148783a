use Rattle.std.proofs.Common.{◌==◌, List, [], ◌∷◌, ◌++◌, ap, ◌∙◌, arith}
use Rattle.std.specs.Prelude.{map, filter}
use Rattle.std.specs.List.{range_with_len}
use Rattle.pg_perm.specs.declared.kinds.Op.{Op}
use Rattle.pg_script.specs.declared.script.ScriptOp.{ScriptOp}
use Rattle.pg_script.specs.Scripts.{on_block}
use Rattle.pg_run.proofs.Openings.{operations_found, todo_more}
use Rattle.pg_run.proofs.opening.todo_on.Goals as goal

pub loop-core-preserved : goal.loop-core-preserved
loop-core-preserved c =
    let (are, low) = c.loop-core.invariant in
    let below = c.loop-core-test.true in
    let s = c.args.script.now in
    let core = c.loop-core.core in (
      c.in_ok-add_core.ensures.added
          ∙ ap (λ (todo : List (List Op)). todo ++ c.in_ok-ops.ops.items ∷ []) are
          ∙ ap (λ (ops : List Op). map (λ i. on_block s i c.args.block) (range_with_len 0 core) ++ ops ∷ [])
          (c.in_ok-ops.ensures
          ∙ ap (λ (lines : List ScriptOp). map (λ (o : ScriptOp). o.op) (filter (λ (o : ScriptOp). o.core == core) lines)) (c.deref.ensures.value ∙ c.in_ok-lines.ensures)
          ∙ operations_found s core c.args.block)
          ∙ todo_more s c.args.block core,
      omega (arith, below),
    )
