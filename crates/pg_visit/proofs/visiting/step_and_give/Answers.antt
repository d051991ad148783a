use Rattle.std.proofs.Common.{◌≡◌, ℕ, List, [], ◌∷◌, ◌++◌, ap, sym, subst, ◌∙◌}
use Rattle.pg_messages.specs.declared.messages.WorldEvent.{WorldEvent}
use Rattle.pg_turn.specs.Passes.{seen_by, made_by}
use Rattle.pg_world.specs.Turns.{journal_of}
use Rattle.pg_visit.proofs.Steps.{added, one_added}
use Rattle.pg_visit.proofs.visiting.step_and_give.Goals as goal

pub give-requires-clause-begins : goal.give-requires-clause-begins
give-requires-clause-begins c = (added (journal_of c.args.world) (journal_of c.step.new.world) (seen_by c.args.pass.now) ((c.number.result, c.args.e) ∷ []) c.requires.seen c.step.ensures.journal).0

pub give-requires-clause-own : goal.give-requires-clause-own
give-requires-clause-own c =
    one_added c.args.pass.now.number c.number.result c.args.e (journal_of c.args.world) (journal_of c.step.new.world) (seen_by c.args.pass.now) c.requires.seen c.step.ensures.journal c.number.ensures

pub returns-clause-events : goal.returns-clause-events
returns-clause-events c =
    c.give.ensures.given.mine
    ∙ ap (λ (es : List (ℕ × WorldEvent)). made_by c.args.pass.now ++ es)
    ((added (journal_of c.args.world) (journal_of c.step.new.world) (seen_by c.args.pass.now) ((c.number.result, c.args.e) ∷ []) c.requires.seen c.step.ensures.journal).1
    ∙ ap (λ (n : ℕ). (n, c.args.e) ∷ []) c.number.ensures)
