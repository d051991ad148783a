use Rattle.std.proofs.Common.{ℕ, Bool, ◌∙◌, sym, ap}
use Rattle.std.specs.Prelude.{is_some}
use Rattle.std.specs.List.{list_any}
use Rattle.pg_table.specs.Descriptors.{end_under_tag}
use Rattle.pg_table.proofs.Lists.{any_map}
use Rattle.pg_infer.proofs.tag_ends.is_tag_of.Goals as goal

pub returns : goal.returns
returns c =
    let test : ℕ → Bool = λ f. is_some (end_under_tag c.args.protocol.now f c.args.tag) in
    c.any_may_end.ensures ∙ sym (any_map test (λ p. p.fin) c.pairs_of.result.now) ∙ ap (list_any test) c.pairs_of.ensures
