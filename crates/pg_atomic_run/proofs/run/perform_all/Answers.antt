use Rattle.std.proofs.Common.{◌≡◌, ℕ, List, length, length-set, true, [], ◌∷◌, refl, sym, ap, subst, ◌∙◌, arith}
use Rattle.std.specs.Prelude.{slice_get, slice_set, Some, ◌++◌}
use Rattle.std.specs.List.{list_all}
use Rattle.pg_script.specs.declared.script.ScriptOp.{ScriptOp}
use Rattle.pg_script.specs.Scripts.{is_inside}
use Rattle.pg_atomic.specs.Steps.{IsReached}
use Rattle.pg_atomic.specs.Scripts.{op_steps, steps_of}
use Rattle.pg_atomic_run.specs.declared.block.Block.{Block}
use Rattle.pg_atomic_run.specs.Histories.{ops_on}
use Rattle.pg_atomic_run.specs.Blocks.{block_after_op, AreStepsSoFar}
use Rattle.pg_atomic_run.proofs.Stands.{at_block, rest_inside, at_after, reached_after, length_steps}
use Rattle.pg_atomic_run.proofs.run.perform_all.Goals as goal

stands : (c : goal.After-perform-arg-1) → (slice_get c.loop-op.blocks.items c.in-Some.op.now.block ≡ Some c.index_mut.result.now)
    × (list_all (is_inside c.args.cores (length c.args.blocks.now.items)) (c.in-Some.op.now ∷ c.in-Some.rest.now) ≡ true)
stands c =
    let inside = subst (λ (ls : List ScriptOp). list_all (is_inside c.args.cores (length c.args.blocks.now.items)) ls ≡ true) c.in-Some.ensures.cases.0 c.loop-op.invariant.1 in (
      at_block c.loop-op.blocks.items c.args.cores (length c.args.blocks.now.items) c.in-Some.op.now c.in-Some.rest.now c.index_mut.result.now c.loop-op.invariant.0
          inside c.index_mut.ensures.value,
      inside,
    )

pub perform-requires-clause-reached : goal.perform-requires-clause-reached
perform-requires-clause-reached c =
    let r = c.loop-op.invariant.2 c.in-Some.op.now.block c.index_mut.result.now (stands c).0 in
    subst (λ (n : ℕ). IsReached c.args.protocol.now n c.index_mut.result.now.atomic) (sym r.1) r.0

pub loop-op-preserved : goal.loop-op-preserved
loop-op-preserved c =
    let d = c.args.protocol.now in
    let o : ScriptOp = c.in-Some.op.now in
    let x : Block = c.index_mut.result.now in
    let here = at_block c.loop-op.blocks.items c.args.cores (length c.args.blocks.now.items) o c.in-Some.rest.now x c.loop-op.invariant.0
    (subst (λ (ls : List ScriptOp). list_all (is_inside c.args.cores (length c.args.blocks.now.items)) ls ≡ true) c.in-Some.ensures.cases.0 c.loop-op.invariant.1)
    c.index_mut.ensures.value in
    let r = c.loop-op.invariant.2 o.block x here in
    let leads : c.perform.new.self ≡ block_after_op d o.core o.op x = c.in_ok-perform.ensures.step in (
      length-set c.loop-op.blocks.items o.block c.perform.new.self ∙ c.loop-op.invariant.0,
      rest_inside c.args.cores (length c.args.blocks.now.items) o c.in-Some.rest.now
          (subst (λ (ls : List ScriptOp). list_all (is_inside c.args.cores (length c.args.blocks.now.items)) ls ≡ true) c.in-Some.ensures.cases.0 c.loop-op.invariant.1),
      reached_after d c.args.cores c.loop-op.blocks.items o.block c.perform.new.self c.loop-op.invariant.2
          (subst (λ (n : ℕ). IsReached d n c.perform.new.self.atomic) r.1 c.in_ok-perform.ensures.reached)
          (ap (λ (z : Block). length z.atomic.states) leads ∙ length_steps d x.atomic (op_steps d x.atomic o.core o.op) ∙ r.1),
      λ all at. subst (λ (y : Block). AreStepsSoFar d all c.in-Some.rest.now (slice_set c.loop-op.blocks.items o.block y)) (sym leads)
          (at_after d all o c.in-Some.rest.now c.loop-op.blocks.items x
          (subst (λ (ls : List ScriptOp). AreStepsSoFar d all ls c.loop-op.blocks.items) c.in-Some.ensures.cases.0 (c.loop-op.invariant.3 all at)) here),
    )

none_left : (ls : List ScriptOp) → length ls ≡ 0 → ls ≡ []
none_left [] h = refl
none_left (l ∷ ls) h = absurd (omega (arith, h))

pub returns-clause-taken : goal.returns-clause-taken
returns-clause-taken c =
    λ all at b x here. subst (λ (ls : List ScriptOp). x.steps ++ steps_of c.args.protocol.now x.atomic (ops_on ls b) ≡ all b)
    (none_left c.loop-op.left.now c.in_default.ensures.cases) (c.loop-op.invariant.3 all at b x here)
