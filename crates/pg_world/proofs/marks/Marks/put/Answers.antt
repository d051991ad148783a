use Rattle.std.proofs.Common.{◌≡◌, ◌+◌, ℕ, List, arith, sym, subst, ◌∙◌}
use Rattle.pg_directory.specs.DirEntries.{with_core}
use Rattle.pg_world.specs.Indexed.{IsCounted}
use Rattle.pg_world.proofs.CoresWhere.{few, counted_with, with_present}
use Rattle.pg_world.proofs.marks.Marks.put.Goals as goal

pub overflow_add-self : goal.overflow_add-self
overflow_add-self c =
    let most = few 64 c.self.inside.cores c.self.invariant.rising c.self.invariant.below in
    let size = c.self.invariant.size in
    omega (arith, most, size)

pub invariant_of-self : goal.invariant_of-self
invariant_of-self c =
    subst (IsCounted (c.self.inside.size + 1)) (sym c.add.ensures)
    (counted_with c.self.inside.size c.args.core c.self.inside.cores c.requires c.self.invariant (sym c.has.ensures ∙ c.if-not-has.true))

pub returns-else-not-has : goal.returns-else-not-has
returns-else-not-has c =
    subst (λ (xs : List ℕ). xs ≡ with_core c.args.core xs) c.self.view_is (sym (with_present c.args.core c.self.inside.cores c.self.invariant.rising (sym c.has.ensures ∙ c.if-not-has.false)))
