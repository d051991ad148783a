use Rattle.std.proofs.Common.{sym, ◌∙◌}
use Rattle.pg_options.proofs.Firsts.{right_next, wrong_first, right_last}
use Rattle.std.specs.Prelude.{string_bytes}
use Rattle.std.proofs.lemmas.List.{length-map}
use Rattle.pg_options.specs.Options.{word_bytes}
use Rattle.pg_options.proofs.rule.are_options.Goals as goal

pub returns-then-not-is_right : goal.returns-then-not-is_right
returns-then-not-is_right c = wrong_first (word_bytes c.loop-option.rest.now) c.args.command _ _ _ c.in-Some.ensures.parts (λ gs e. sym c.if-not-is_right.true ∙ c.is_right.ensures gs e) c.loop-option.invariant

pub loop-option-preserved : goal.loop-option-preserved
loop-option-preserved c = right_next (word_bytes c.loop-option.rest.now) c.args.command _ _ _ c.in-Some.ensures.parts (λ gs e. sym c.if-not-is_right.false ∙ c.is_right.ensures gs e) c.loop-option.invariant

pub returns : goal.returns
returns c =
    let rest = c.loop-option.rest.now in
    right_last (word_bytes rest) c.args.command _ _ _ c.in_default.ensures.parts (length-map rest string_bytes) c.is_empty.ensures c.loop-option.invariant
