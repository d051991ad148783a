use Rattle.std.proofs.Common.{sym, ◌∙◌}
use Rattle.pg_forms.proofs.Firsts.{pairs_after_first}
use Rattle.pg_forms.proofs.reading.are_pairs.Goals as goal

pub loop-reply-preserved : goal.loop-reply-preserved
loop-reply-preserved c =
    sym (pairs_after_first c.loop-reply.left c.in-Some.rest c.in-Some-first.rest c.in-Some.reply.now c.in-Some-first.fin.now c.in-Some.ensures c.in-Some-first.ensures (sym c.if-not-is_name.ensures) (sym c.if-not-is_state_name.ensures))
    ∙ c.loop-reply.invariant
