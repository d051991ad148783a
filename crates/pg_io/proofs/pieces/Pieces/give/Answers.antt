use Rattle.std.proofs.Common.{◌≡◌, ◌∙◌, ap, take, drop, rules, refl}
use Rattle.pg_io.proofs.Given.{drop-by_piece}
use Rattle.pg_io.proofs.pieces.Pieces.give.Goals as goal

pub returns-clause-reads : goal.returns-clause-reads
returns-clause-reads c =
    let left : c.args.self.now.left ≡ drop c.self.inside.given c.self.inside.bytes.items = search rules in
    let rest : c.split_at.result.1.now ≡ drop c.self.inside.given c.self.inside.bytes.items = search rules in
    record {
      some = search rules;
      fits = search rules;
      given = left ∙ drop-by_piece _ _ _ _ (c.copy_front.ensures ∙ ap (take c.min-count.result) rest);
      faults = refl;
    }
