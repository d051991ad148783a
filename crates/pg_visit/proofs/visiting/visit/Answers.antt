use Rattle.std.proofs.Common.{ℕ, List, [], ◌++◌, ap, sym, ◌∙◌}
use Rattle.std.proofs.lemmas.List.{append-nil}
use Rattle.pg_messages.specs.declared.messages.WorldEvent.{WorldEvent}
use Rattle.pg_turn.specs.Passes.{seen_by, made_by}
use Rattle.pg_world.specs.Turns.{journal_of}
use Rattle.pg_visit.proofs.Steps.{added}
use Rattle.pg_visit.proofs.visiting.visit.Goals as goal

pub give-requires-clause-begins : goal.give-requires-clause-begins
give-requires-clause-begins g c =
    (added (journal_of c.take-world.result) (journal_of c.take-world.result) (seen_by c.take-world.new.pass) [] c.take-world.ensures.taken.seen (sym (append-nil (journal_of c.take-world.result)))).0

pub returns-in-None-clause-quiet : goal.returns-in-None-clause-quiet
returns-in-None-clause-quiet g c = λ no. (
  c.give.ensures.given.mine
      ∙ ap (λ (es : List (ℕ × WorldEvent)). made_by c.take-world.new.pass ++ es)
      (added (journal_of c.take-world.result) (journal_of c.take-world.result) (seen_by c.take-world.new.pass) [] c.take-world.ensures.taken.seen (sym (append-nil (journal_of c.take-world.result)))).1
      ∙ append-nil (made_by c.take-world.new.pass)
      ∙ c.take-world.ensures.taken.mine,
  record { world = c.take-world.result; root_is = c.take-world.ensures.root; journal = sym c.give.ensures.given.seen; finished = c.in-None.ensures.none },
)
