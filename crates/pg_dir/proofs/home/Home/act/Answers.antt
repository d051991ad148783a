use Rattle.std.proofs.Common.{◌≡◌, ap, sym, subst, length, ◌∙◌}
use Rattle.pg_directory.specs.DirEntries.{without_core}
use Rattle.pg_dir.specs.Numbers as numbers
use Rattle.pg_dir.proofs.Below.{below_without}
use Rattle.pg_dir.proofs.home.Home.act.Goals as goal

pub send_to_each-requires-clause-there : goal.send_to_each-requires-clause-there
send_to_each-requires-clause-there c =
    let cores : length c.args.w.now.slots ≡ c.self.inside.cores = c.requires.cores ∙ ap (λ v. v.cores) (sym c.self.view_is) in
    subst (λ n. numbers.AreBelow n c.remove.new.self) (sym cores)
    (subst (numbers.AreBelow c.self.inside.cores) (sym (c.remove.ensures ∙ ap (without_core c.args.given.core) c.copy-others.ensures))
    (below_without c.self.inside.cores c.args.given.core _ c.self.invariant.sharers_below))
