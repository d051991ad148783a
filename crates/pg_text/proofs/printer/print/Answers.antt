use Rattle.std.proofs.Common.{◌≡◌, ℕ, List, [], ◌∷◌, ◌++◌, map, codes, ap, sym, ◌∙◌, append-nil}
use Rattle.std.specs.String.{string_bytes}
use Rattle.pg_lines.specs.Lines.{line_text}
use Rattle.pg_forms.specs.declared.line.Line.{Line}
use Rattle.pg_forms.specs.declared.line.Line.TheVariants.{Protocol, End}
use Rattle.pg_text.specs.Printing.{draft_text, cache_line_of, dir_line_of, message_line_of, core_line_of, take_line_of, row_line_of}
use Rattle.pg_text.proofs.Joining.{lines_put}
use Rattle.pg_text.proofs.Printed.{bytes_read, bytes_short}
use Rattle.pg_text.proofs.printer.print.Goals as goal

written : (c : goal.After-into_bytes) → c.into_bytes.result.items ≡ draft_text c.args.draft.now
written c =
    let d = c.args.draft.now in
    let head : List Line = Protocol d.name ∷ [] in
    let caches : List Line = head ++ map cache_line_of d.caches in
    let dirs : List Line = caches ++ map (dir_line_of d) d.dirs in
    let messages : List Line = dirs ++ map message_line_of d.messages in
    let cores : List Line = messages ++ map (core_line_of d) d.cores in
    let takes : List Line = cores ++ map (take_line_of d) d.takes in
    let rows : List Line = takes ++ map (row_line_of d) d.rows in
    let line : List ℕ = line_text (codes "protocol" ∷ d.name ∷ []) in
    let first = c.in_ok-put_line.ensures
    ∙ ap (λ (w : List ℕ). string_bytes c.new-text.result ++ line_text (codes "protocol" ∷ w ∷ [])) c.as_str.ensures
    ∙ ap (λ (t : List ℕ). t ++ line) c.new-text.ensures.bytes ∙ sym (append-nil line) in
    let at_caches = lines_put cache_line_of d.caches head _ _ first c.in_ok-put_lines.ensures in
    let at_dirs = lines_put (dir_line_of d) d.dirs caches _ _ at_caches c.in_ok-put_lines-2.ensures in
    let at_messages = lines_put message_line_of d.messages dirs _ _ at_dirs c.in_ok-put_lines-3.ensures in
    let at_cores = lines_put (core_line_of d) d.cores messages _ _ at_messages c.in_ok-put_lines-4.ensures in
    let at_takes = lines_put (take_line_of d) d.takes cores _ _ at_cores c.in_ok-put_lines-5.ensures in
    let at_rows = lines_put (row_line_of d) d.rows takes _ _ at_takes c.in_ok-put_lines-6.ensures in
    let whole : string_bytes c.put_line-2.new.text ≡ draft_text d = lines_put (λ (l : Line). l) (End ∷ []) rows _ _ at_rows c.in_ok-put_line-2.ensures in
    ap (λ v. v.items) c.into_bytes.ensures.value ∙ whole

pub returns-clause-exact : goal.returns-clause-exact
returns-clause-exact c = written c

pub returns-clause-read_back : goal.returns-clause-read_back
returns-clause-read_back c = bytes_read c.args.draft.now c.into_bytes.result.items c.requires (written c)

pub returns-clause-short : goal.returns-clause-short
returns-clause-short c = bytes_short c.args.draft.now c.into_bytes.result.items c.requires (written c)
