use Rattle.std.specs.String.{string_bytes}
use Rattle.pg_lines.proofs.Joining.{line_put}
use Rattle.pg_lines.proofs.writing.put_line.Goals as goal

pub returns : goal.returns
returns c = line_put c.args.words.now (string_bytes c.args.text.now) (string_bytes c.in_ok-line.line) c.as_str.result.now _ _
    c.in_ok-line.ensures.ok c.as_str.ensures.value c.in_ok-push_str.ensures.bytes c.in_ok-push_str-2.ensures.bytes
