use Rattle.std.proofs.Common.{sym, ◌∙◌}
use Rattle.pg_options.proofs.Firsts.{keeps_met, keeps_next, keeps_last}
use Rattle.pg_options.specs.Options.{word_bytes}
use Rattle.pg_options.proofs.rule.is_given.Goals as goal

pub returns-then-is : goal.returns-then-is
returns-then-is c = keeps_met (word_bytes c.loop-other.rest.now) c.args.option _ _ _ c.in-Some.ensures.parts (sym c.is.ensures ∙ c.if-is.true) c.loop-other.invariant

pub loop-other-preserved : goal.loop-other-preserved
loop-other-preserved c = keeps_next (word_bytes c.loop-other.rest.now) c.args.option _ _ _ c.in-Some.ensures.parts (sym c.is.ensures ∙ c.if-is.false) c.loop-other.invariant

pub returns : goal.returns
returns c = keeps_last (word_bytes c.loop-other.rest.now) c.args.option _ c.in_default.ensures.parts c.loop-other.invariant
