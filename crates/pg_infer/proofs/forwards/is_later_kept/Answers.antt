use Rattle.std.proofs.Common.{ℕ, Bool, false, ◌∙◌, sym, ap}
use Rattle.std.specs.Prelude.{◌&&◌}
use Rattle.std.specs.List.{list_any}
use Rattle.std.specs.Option.{option_map_or}
use Rattle.pg_terms.specs.Terms.{keep_of}
use Rattle.pg_terms.specs.Due.{is_due}
use Rattle.pg_terms.specs.Rows.{may_keep}
use Rattle.pg_table.proofs.Lists.{any_map}
use Rattle.pg_infer.proofs.forwards.is_later_kept.Goals as goal

pub returns : goal.returns
returns c =
    let d = c.args.protocol.now in
    let test : ℕ → Bool = λ x. may_keep d x && option_map_or (λ k. is_due d k c.args.forward) (keep_of d x) false in
    c.any_due_once_kept.ensures ∙ sym (any_map test (λ p. p.fin) c.pairs_of.result.now) ∙ ap (list_any test) c.pairs_of.ensures
