use Rattle.std.proofs.Common.{◌≡◌, length}
use Rattle.clap.specs.Words.{app_of}
use Rattle.pg_options.specs.Parsers.{with_options, parser_of}
use Rattle.pg_options.proofs.parser.parser.Given as goal

abbrev pub invariant-loop-option : goal.invariant-loop-option
invariant-loop-option l = with_options l.rest (app_of l.parser) ≡ parser_of l.fn.command

abbrev pub decreases-loop-option : goal.decreases-loop-option
decreases-loop-option l = length l.rest
