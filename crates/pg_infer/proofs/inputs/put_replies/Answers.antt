use Rattle.std.proofs.Common.{◌<◌, length, [], ◌∷◌, arith}
use Rattle.std.specs.Prelude.{slice_index_or}
use Rattle.pg_perm.specs.Classes.{is_reply}
use Rattle.pg_table.specs.declared.cache.Input.TheVariants.{DataAll, DataPart}
use Rattle.pg_infer.proofs.Ranges.{append_grown}
use Rattle.pg_infer.proofs.Messages.{flat_more, message_at}
use Rattle.pg_infer.proofs.inputs.put_replies.Goals as goal

pub loop-number-preserved : goal.loop-number-preserved
loop-number-preserved c =
    let ms = c.args.messages.now in
    let n = c.loop-number.number in
    let m = slice_index_or ms c.from.result c.index-messages-from.result in
    let below : n < length ms = omega (arith, c.loop-number-test.true) in
    append_grown _ _ _ _ _ _ c.in_ok-put_data.ensures c.loop-number.invariant
    (flat_more (λ r. DataAll r ∷ DataPart r ∷ []) is_reply n ms m (message_at ms c.from.result n c.index-messages-from.result c.from.ensures below))
