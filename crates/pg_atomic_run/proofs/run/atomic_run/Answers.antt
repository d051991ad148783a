use Rattle.std.proofs.Common.{◌≡◌, ℕ, ◌+◌, List, ◌++◌, length, append-nil, sym, ap, subst, ◌∙◌, arith}
use Rattle.std.specs.Prelude.{IfOk, codes}
use Rattle.pg_script.specs.declared.script.ScriptOp.{ScriptOp}
use Rattle.pg_history.specs.HistoryText.{block_texts}
use Rattle.pg_atomic_run.specs.Histories.{block_steps}
use Rattle.pg_atomic_run.specs.Blocks.{AreStepsSoFar, AreOpen, texts_of}
use Rattle.pg_atomic_run.proofs.Stands.{open_at, texts_at}
use Rattle.pg_atomic_run.proofs.run.atomic_run.Goals as goal

zero_plus : (k : ℕ) → 0 + k ≡ k
zero_plus k = omega arith

pub returns : goal.returns
returns c =
    let d = c.args.protocol.now in
    let s = c.args.script.now in
    let opened = subst (λ (n : ℕ). AreOpen d n c.in_ok-blocks.blocks.items) c.cores.ensures c.in_ok-blocks.ensures.open in
    let before = subst (λ (ops : List ScriptOp). AreStepsSoFar d (block_steps d s) ops c.in_ok-blocks.blocks.items) (sym c.ops-ops.ensures.exact) (open_at d s c.in_ok-blocks.blocks.items opened) in
    let behind = c.in_ok-perform_all.ensures.taken (block_steps d s) before in
    let many : length c.perform_all.new.blocks.items ≡ s.blocks = c.in_ok-perform_all.ensures.many ∙ c.in_ok-blocks.ensures.many ∙ c.blocks-2.ensures in
    let texts : texts_of 0 c.perform_all.new.blocks.items ≡ block_texts (block_steps d s) 0 s.blocks =
    texts_at (block_steps d s) 0 c.perform_all.new.blocks.items
    (λ k x e. sym (append-nil x.steps) ∙ behind k x e ∙ ap (block_steps d s) (sym (zero_plus k)))
    ∙ ap (block_texts (block_steps d s) 0) many in
    subst (λ (t : List ℕ). IfOk c.texts.result (λ text. text.items ≡ t ++ codes "end\n"))
    (ap (texts_of 0) c.deref.ensures.value ∙ texts) c.texts.ensures
