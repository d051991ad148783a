use Rattle.std.proofs.Common.{ℕ, List, ap, ◌∙◌}
use Rattle.pg_text.specs.Texts.{reading}
use Rattle.protogen_cli.specs.Replies.{answer_to_text}
use Rattle.protogen_cli.proofs.Replies.{long_told, short_told}
use Rattle.protogen_cli.proofs.judge.judge.Goals as goal

pub returns-in_ok-too_long-in-Err-TooLong-clause-reply :
    goal.returns-in_ok-too_long-in-Err-TooLong-clause-reply
returns-in_ok-too_long-in-Err-TooLong-clause-reply g c =
    let left = g.S.Source.left c.read_all.new.source in
    let given = rw c.in-Err-TooLong.field-0-is at c.in-Err-TooLong.ensures.taken in
    rw c.in_ok-too_long-in-Err-TooLong.ensures (long_told c.args.command _ left given)

pub returns-in_ok-on_input-in-Ok-clause-reply : goal.returns-in_ok-on_input-in-Ok-clause-reply
returns-in_ok-on_input-in-Ok-clause-reply g c =
    let same = ap (λ (bytes : List ℕ). answer_to_text c.args.command bytes (reading bytes)) c.deref.ensures.value in
    short_told c.args.command _ _ c.in-Ok.input.items c.in_ok-on_input-in-Ok.field-0 c.in-Ok.ensures.all c.in-Ok.ensures.within (c.in_ok-on_input-in-Ok.ensures ∙ same)
