use Rattle.std.proofs.Common.{sym, ◌∙◌, subst, refl}
use Rattle.std.specs.Prelude.{IsSome}
use Rattle.pg_atomic.proofs.rows.out.Goals as goal

pub unwrap-requires : goal.unwrap-requires
unwrap-requires c = let (s, first) = c.requires.shaped.perms.start in subst IsSome (sym (c.out.ensures ∙ first)) refl
