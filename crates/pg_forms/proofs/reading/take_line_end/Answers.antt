use Rattle.std.proofs.Common.{sym, ap, ◌∙◌}
use Rattle.pg_forms.specs.Reading.{take_line_end}
use Rattle.pg_lines.proofs.Firsts.{two_firsts}
use Rattle.pg_forms.proofs.reading.take_line_end.Goals as goal

pub returns-in-None-first : goal.returns-in-None-first
returns-in-None-first c =
    let words = two_firsts _ _ _ _ _ c.in_ok-first.ensures c.in-Some.ensures c.in-None-first.ensures in
    c.take_replying.ensures ∙ sym (ap (take_line_end c.args.state c.args.forward) words)
