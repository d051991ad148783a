use Rattle.std.proofs.Common.{sym, ap, ◌∙◌, ◌<◌, arith, w64}
use Rattle.std.specs.Int.{trailing_zeros}
use Rattle.pg_directory.specs.DirEntries.{without_core}
use Rattle.pg_directory.specs.CoreSets.{cores_of}
use Rattle.pg_directory.proofs.CoreBits.{cores_of-zero, cores_of-first, cores_of-clear, trailing_zeros-lt}
use Rattle.pg_directory.proofs.core_set.CoreSet.pop_first.Goals as goal

pub returns-then-self-eq0-clause-none : goal.returns-then-self-eq0-clause-none
returns-then-self-eq0-clause-none c = sym c.self.view_is ∙ ap cores_of c.if-self-eq0.true ∙ cores_of-zero

pub returns-clause-first : goal.returns-clause-first
returns-clause-first c = sym c.self.view_is ∙ cores_of-first c.self.inside.bits (omega arith) (omega arith)

pub returns-clause-left : goal.returns-clause-left
returns-clause-left c =
    let inside : trailing_zeros w64 c.self.inside.bits < 64 = trailing_zeros-lt c.self.inside.bits (omega arith) (omega arith) in
    cores_of-clear c.self.inside.bits (trailing_zeros w64 c.self.inside.bits) inside ∙ ap (without_core (trailing_zeros w64 c.self.inside.bits)) c.self.view_is
