use Rattle.std.proofs.Common.{arith}
use Rattle.std.specs.Prelude.{string_bytes}
use Rattle.std.proofs.lemmas.List.{length-map}
use Rattle.protogen_cli.specs.Words.{word_bytes}
use Rattle.protogen_cli.proofs.NoCommand.{no_command}
use Rattle.protogen_cli.proofs.words.command_of.Goals as goal

pub returns-in_default-4 : goal.returns-in_default-4
returns-in_default-4 c =
    let many = c.in_default.len_at_least in
    let same = length-map c.args.words.now string_bytes in
    no_command (word_bytes c.args.words.now) (omega (arith, many, same))
