use Rattle.std.proofs.Common.{◌∙◌, ap, refl, subst, sym, arith}
use Rattle.protogen_cli.specs.Statuses.{IsReplied, IsOfText}
use Rattle.protogen_cli.proofs.Replies.{some_told, answer_to_input-not-usage, answer_to_input-replied, of_text_due, taken_not}
use Rattle.protogen_cli.proofs.Runs.{has_run, reply_of}
use Rattle.protogen_cli.proofs.command.protogen.Goals as goal

pub returns-in_default-clause-answer : goal.returns-in_default-clause-answer
returns-in_default-clause-answer g c =
    let told = some_told (g.S.Source.left c.args.source.now) in
    let ends = c.finish.ensures.ends (g.S.Source.faults c.args.source.now) in
    rw (sym c.command_of.ensures ∙ c.in_default.is) (told.0, told.1, ends)

pub returns-in_default-clause-usage : goal.returns-in_default-clause-usage
returns-in_default-clause-usage g c = (
  λ e. let ends = rw e at c.finish.ensures.ends 0 in (cc, ends.write_faults),
  λ p. c.finish.ensures.status p.1,
)

pub returns-in_default-clause-whole : goal.returns-in_default-clause-whole
returns-in_default-clause-whole g c =
    λ of. absurd (of_text_due _ _ _ _ (c.finish.ensures.ends 0) of)

pub returns-in_default-clause-read_fault : goal.returns-in_default-clause-read_fault
returns-in_default-clause-read_fault g c = (
  λ e. let ends = rw e at c.finish.ensures.ends 0 in let rises = ends.read_fault in omega arith,
  λ rises. let none : ⊥ = omega arith in absurd none,
)

pub returns-in-Ok-clause-usage : goal.returns-in-Ok-clause-usage
returns-in-Ok-clause-usage g c = (
  λ e. let ends = rw e at c.finish-in-Ok.ensures.ends 0 in
      let (input, _, same) = c.in-Ok.ensures.reply in
      absurd (answer_to_input-not-usage _ input (ends.due ∙ c.status.ensures ∙ ap (λ r. r.status) same)),
  λ p. absurd (taken_not c.command_of.result _ c.in-Some.command c.command_of.ensures c.in-Some.is p.0),
)

pub returns-in-Ok-clause-whole : goal.returns-in-Ok-clause-whole
returns-in-Ok-clause-whole g c =
    λ of. c.in-Ok.ensures.whole (subst IsOfText c.status.ensures (of_text_due _ _ _ _ (c.finish-in-Ok.ensures.ends 0) of))

pub returns-in-Ok-clause-read_fault : goal.returns-in-Ok-clause-read_fault
returns-in-Ok-clause-read_fault g c = (
  λ e. let ends = rw e at c.finish-in-Ok.ensures.ends 0 in let rises = ends.read_fault in omega arith,
  λ rises. let none : ⊥ = omega (arith, c.in-Ok.ensures.faults) in absurd none,
)

pub returns-in-Err-Fault-clause-answer : goal.returns-in-Err-Fault-clause-answer
returns-in-Err-Fault-clause-answer g c =
    let told = some_told (g.S.Source.left c.args.source.now) in
    let fault = rw c.in-Err-Fault.field-0-is at c.in-Err-Fault.ensures.faults in
    (told.0, told.1, record { read_fault = fault; write_faults = refl; held = refl })

pub returns-in-Err-Memory-clause-answer : goal.returns-in-Err-Memory-clause-answer
returns-in-Err-Memory-clause-answer g c =
    let told = some_told (g.S.Source.left c.args.source.now) in
    let faults = rw c.in-Err-Memory.field-0-is at c.in-Err-Memory.ensures.faults in
    (told.0, told.1, record { read_faults = faults; write_faults = refl; held = refl })

pub returns-in_default-clause-too_long : goal.returns-in_default-clause-too_long
returns-in_default-clause-too_long g c =
    λ e. let ends = rw e at c.finish.ensures.ends 0 in let due = ends.due in let none : ⊥ = cc in absurd none

pub returns-in-Ok-clause-too_long : goal.returns-in-Ok-clause-too_long
returns-in-Ok-clause-too_long g c =
    λ e. let ends = rw e at c.finish-in-Ok.ensures.ends 0 in
    c.in-Ok.ensures.too_long (sym (ends.due ∙ c.status.ensures))

pub finish-requires-in-Ok-clause-replied : goal.finish-requires-in-Ok-clause-replied
finish-requires-in-Ok-clause-replied g c =
    let (input, _, same) = c.in-Ok.ensures.reply in
    subst IsReplied (sym (c.status.ensures ∙ ap (λ r. r.status) same)) (answer_to_input-replied c.in-Some.command input)

pub returns-in-Ok-clause-run : goal.returns-in-Ok-clause-run
returns-in-Ok-clause-run g c = λ mode seed asked done.
    let (input, told, same) = c.in-Ok.ensures.reply in
    let due = reply_of c.status.result c.bytes.result.now _ c.status.ensures c.bytes.ensures ∙ same in
    has_run mode seed c.command_of.result _ c.in-Some.command _ _ _ _ _ c.command_of.ensures c.in-Some.is asked (input, told, due) (c.finish-in-Ok.ensures.ends 0) done
