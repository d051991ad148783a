use Rattle.std.proofs.Common.{◌≡◌, ℕ, ◌+◌, List, length, All, subst, arith}
use Rattle.std.proofs.lemmas.List.Elements.{All-weaker}
use Rattle.pg_bells.specs.declared.pass.RingPass.{RingPass}
use Rattle.pg_bells.specs.declared.pass.AnswerPass.{AnswerPass}
use Rattle.pg_bells.specs.declared.bells.Bells.{Bells}
use Rattle.pg_bells.specs.Passes.{IsRingPassOf, IsAnswerPassOf, IsRinger, IsAnswerer}
use Rattle.pg_bells.specs.Closing.{AreLeft}
use Rattle.pg_bells.specs.Gathering.{ring_view, answer_view}
use Rattle.pg_bells.proofs.Ends.{learns, rung, once, left}
use Rattle.pg_bells.proofs.bells.Bells.close.Goals as goal

ringers : (b : Bells) (rings : List RingPass) → All (IsRingPassOf b) rings → All (λ p. IsRinger (b.ringers + b.answerers) p.core p.count (ring_view p)) rings
ringers b rings all = All-weaker (IsRingPassOf b) (λ (p : RingPass). IsRinger (b.ringers + b.answerers) p.core p.count (ring_view p)) (λ p f. f.1) rings all

answerers : (b : Bells) (answers : List AnswerPass) → All (IsAnswerPassOf b) answers → All (λ p. IsAnswerer (b.ringers + b.answerers) (answer_view p)) answers
answerers b answers all = All-weaker (IsAnswerPassOf b) (λ (p : AnswerPass). IsAnswerer (b.ringers + b.answerers) (answer_view p)) (λ p f. f.1) answers all

pub len_as-requires-clause-rule : goal.len_as-requires-clause-rule
len_as-requires-clause-rule g c = learns _ _ c.in-Some.ensures.none.1

pub returns-in-Some-clause-rung : goal.returns-in-Some-clause-rung
returns-in-Some-clause-rung g c =
    let all : length c.args.rings.items + length c.args.answers.items ≡ c.args.self.ringers + c.args.self.answerers = omega arith in
    rung _ _ _ (ringers c.args.self c.args.rings.items c.requires.rings.1) (answerers c.args.self c.args.answers.items c.requires.answers.1) _ _ c.len_as.ensures.rule.1.2 c.in-Some.ensures.told c.in-Some.ensures.took all

pub returns-in-Some-clause-once : goal.returns-in-Some-clause-once
returns-in-Some-clause-once g c =
    let all : length c.args.rings.items + length c.args.answers.items ≡ c.args.self.ringers + c.args.self.answerers = omega arith in
    once _ _ _ (ringers c.args.self c.args.rings.items c.requires.rings.1) (answerers c.args.self c.args.answers.items c.requires.answers.1) _ _ c.len_as.ensures.rule.1.2 c.in-Some.ensures.told c.in-Some.ensures.took all

pub returns-in-Some-clause-left : goal.returns-in-Some-clause-left
returns-in-Some-clause-left g c =
    let all : length c.args.rings.items + length c.args.answers.items ≡ c.args.self.ringers + c.args.self.answerers = omega arith in
    let held = c.len_as.ensures.rule.1 in
    subst (λ m. AreLeft m c.args.rings.items c.args.answers.items) held.1
    (left _ _ _ (ringers c.args.self c.args.rings.items c.requires.rings.1) (answerers c.args.self c.args.answers.items c.requires.answers.1) _ _ held.2 c.in-Some.ensures.told c.in-Some.ensures.took all)
