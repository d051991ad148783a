use Rattle.std.proofs.Common.{◌≡◌, List, [], ◌∷◌, ◌++◌, map, ap, ◌∙◌}
use Rattle.std.specs.String.{string_bytes}
use Rattle.pg_lines.specs.Lines.{text_of}
use Rattle.pg_script.specs.declared.script.ScriptOp.{ScriptOp}
use Rattle.pg_script.specs.declared.statement.Statement.TheVariants.{Cores, Blocks}
use Rattle.pg_script.specs.Forms.{spelling}
use Rattle.pg_script.specs.Printing.{op_line_of, script_text}
use Rattle.pg_script.specs.Texts.{reading}
use Rattle.pg_script.proofs.Joining.{parts_put}
use Rattle.pg_script.proofs.Printed.{printed_reads}
use Rattle.pg_script.proofs.Short.{bytes_short}
use Rattle.pg_script.proofs.printer.print.Goals as goal

written : (c : goal.After-into_bytes) → c.into_bytes.result.items ≡ script_text c.args.script.now
written c =
    ap (λ v. v.items) c.into_bytes.ensures.value
    ∙ parts_put c.args.script.now _ _ _ _ c.new-text.ensures.bytes
    (c.in_ok-put_counts.ensures
    ∙ (λ i. string_bytes c.new-text.result ++ text_of (spelling (Cores (c.cores.ensures i)) ∷ spelling (Blocks (c.blocks-2.ensures i)) ∷ [])))
    (c.in_ok-put_ops.ensures
    ∙ ap (λ (os : List ScriptOp). string_bytes c.put_counts.new.text ++ text_of (map (λ o. spelling (op_line_of o)) os)) c.ops.ensures.exact)
    c.in_ok-push_str.ensures.bytes

pub returns-clause-exact : goal.returns-clause-exact
returns-clause-exact c = written c

pub returns-clause-read_back : goal.returns-clause-read_back
returns-clause-read_back c = ap reading (written c) ∙ printed_reads c.args.script.now c.ops.ensures.within

pub returns-clause-short : goal.returns-clause-short
returns-clause-short c = bytes_short c.args.script.now c.into_bytes.result.items c.ops.ensures.within (written c)
