use Rattle.std.proofs.Common.{◌≡◌, ◌-◌, ℕ, List, sym, subst, ◌∙◌}
use Rattle.pg_directory.specs.DirEntries.{without_core}
use Rattle.pg_directory.proofs.Cores.{without_absent}
use Rattle.pg_world.specs.Indexed.{IsCounted}
use Rattle.pg_world.proofs.CoresWhere.{counted_without}
use Rattle.pg_world.proofs.marks.Marks.take.Goals as goal

pub invariant_of-self : goal.invariant_of-self
invariant_of-self c =
    subst (IsCounted (c.self.inside.size - 1)) (sym c.remove.ensures) (counted_without c.self.inside.size c.args.core c.self.inside.cores c.self.invariant (sym c.has.ensures ∙ c.if-has.true))

pub returns-else-has : goal.returns-else-has
returns-else-has c = subst (λ (xs : List ℕ). xs ≡ without_core c.args.core xs) c.self.view_is (sym (without_absent c.args.core c.self.inside.cores (sym c.has.ensures ∙ c.if-has.false)))
