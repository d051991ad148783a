use Rattle.std.proofs.Common.{ap, subst, ◌∙◌}
use Rattle.clap.specs.Words.{takes, HasMatchesOf}
use Rattle.pg_options.specs.Options.{word_bytes}
use Rattle.pg_options.proofs.Parses.{takes_right, finds_values}
use Rattle.pg_options.proofs.parser.parse.Goals as goal

pub unreachable-requires : goal.unreachable-requires
unreachable-requires c =
    let taken = takes_right c.args.command (word_bytes c.args.words.now) c.requires.0 c.requires.1 in
    c.in_default.not-OutOfMemory (c.kind.ensures ∙ c.in-Err.ensures.passes (ap (λ a. takes a (word_bytes c.args.words.now)) c.in_ok-parser.ensures ∙ taken))

pub returns-in-Ok : goal.returns-in-Ok
returns-in-Ok c = λ gs right q own.
    finds_values c.args.command (word_bytes c.args.words.now) gs c.in-Ok.matches q right (subst (λ a. HasMatchesOf a (word_bytes c.args.words.now) c.in-Ok.matches) c.in_ok-parser.ensures c.in-Ok.ensures.matches) own
