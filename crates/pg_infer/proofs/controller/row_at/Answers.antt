use Rattle.std.proofs.Common.{sym, ◌∙◌}
use Rattle.pg_infer.proofs.controller.row_at.Goals as goal

pub row_of-requires-clause-among : goal.row_of-requires-clause-among
row_of-requires-clause-among g c = c.requires.onward _ (sym c.in_ok-choice.ensures ∙ c.in-Some.is)
