use Rattle.std.proofs.Common.{rules, ◌≡◌, ◌∷◌, Some, sym, ap, ◌∙◌}
use Rattle.std.specs.Prelude.{string_bytes}
use Rattle.pg_options.specs.Options.{word_bytes, command_name}
use Rattle.pg_options.proofs.Commands.{right_words, command_is}
use Rattle.pg_options.proofs.command.command_of.Goals as goal

pub parse-requires : goal.parse-requires
parse-requires c =
    let is : word_bytes c.args.words.now ≡ string_bytes c.in-Some.word.now ∷ word_bytes c.in-Some.rest.now = ap word_bytes c.in-Some.ensures.cases.0 in
    right_words c.in-Some-command_name.command _ (word_bytes c.in-Some.rest.now) _ is (sym c.are_options.ensures ∙ c.if-not-are_options.false)

pub read-requires : goal.read-requires
read-requires c =
    let is : word_bytes c.args.words.now ≡ string_bytes c.in-Some.word.now ∷ word_bytes c.in-Some.rest.now = search rules in
    let right = right_words c.in-Some-command_name.command _ (word_bytes c.in-Some.rest.now) _ is (sym c.are_options.ensures ∙ c.if-not-are_options.false) in
    (right.0, c.in_ok-matches.ensures right.0 right.1)

pub returns : goal.returns
returns c =
    let is : word_bytes c.args.words.now ≡ string_bytes c.in-Some.word.now ∷ word_bytes c.in-Some.rest.now = search rules in
    let right = right_words c.in-Some-command_name.command _ (word_bytes c.in-Some.rest.now) _ is (sym c.are_options.ensures ∙ c.if-not-are_options.false) in
    let named : Some c.in-Some-command_name.command ≡ command_name (string_bytes c.in-Some.word.now) = c.in-Some-command_name.ensures ∙ ap command_name c.as_str.ensures.value in
    ap Some (c.read.ensures right.0 (c.in_ok-matches.ensures right.0 right.1))
    ∙ command_is c.in-Some-command_name.command _ (word_bytes c.in-Some.rest.now) _ right.0 is named right.1
