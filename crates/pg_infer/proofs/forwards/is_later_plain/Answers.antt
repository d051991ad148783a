use Rattle.std.proofs.Common.{ℕ, Bool, ◌∙◌, sym, ap}
use Rattle.std.specs.List.{list_any}
use Rattle.pg_terms.specs.Due.{is_due}
use Rattle.pg_table.proofs.Lists.{any_map}
use Rattle.pg_infer.proofs.forwards.is_later_plain.Goals as goal

pub returns : goal.returns
returns c =
    let test : ℕ → Bool = λ x. is_due c.args.protocol.now x c.args.forward in
    c.any_due.ensures ∙ sym (any_map test (λ p. p.fin) c.pairs_of.result.now) ∙ ap (list_any test) c.pairs_of.ensures
