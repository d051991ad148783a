use Rattle.std.proofs.Common.{◌≡◌, true, Some}
use Rattle.std.proofs.lemmas.List.Elements.{All-pop}
use Rattle.crossbeam_queue.specs.Passes.{IsPassOf}
use Rattle.pg_bells.specs.declared.pass.AnswerPass.{AnswerPass}
use Rattle.pg_bells.specs.Gathering.{answer_view}
use Rattle.pg_bells.proofs.Steps.{merges}
use Rattle.pg_bells.proofs.gathering.take_in_answers.Goals as goal

pub absorb-requires-clause-rule : goal.absorb-requires-clause-rule
absorb-requires-clause-rule c =
    let popped = All-pop (λ (p : AnswerPass). IsPassOf c.args.queue.now p.pass × ((answer_view p).live ≡ true)) _ _ (Some c.in-Some.field-0) c.in-Some.ensures.items c.loop-pass.invariant.answers in
    merges _ _ _ _ c.loop-pass.invariant.live popped.1.1
