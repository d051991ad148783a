use Rattle.std.proofs.Common.{ℕ, ◌+◌, ◌-◌, List, ◌++◌, append_assoc, sym, ap, ◌∙◌, arith}
use Rattle.pg_history.specs.HistoryText.{block_text, block_texts}
use Rattle.pg_controller_run.specs.Histories.{serial_steps}
use Rattle.pg_controller_run.proofs.Texts.{one_more}
use Rattle.pg_controller_run.proofs.run.histories_text.Goals as goal

pub loop-block-preserved : goal.loop-block-preserved
loop-block-preserved c =
    let steps = serial_steps c.args.system.now in
    let b = c.loop-block.block in
    let n = c.blocks-count.result in
    let rest : List ℕ = block_texts steps (b + 1) (n - (b + 1)) in
    let low = c.loop-block-test.true in (
      ap (λ (t : List ℕ). t ++ rest) c.in_ok-put_history.ensures
          ∙ append_assoc c.loop-block.text.items (block_text b (steps b)) rest
          ∙ ap (λ (t : List ℕ). c.loop-block.text.items ++ t) (sym (one_more steps b n low))
          ∙ c.loop-block.invariant.0,
      omega (arith, low),
    )
