use Rattle.std.proofs.Common.{ap, sym, ◌∙◌, arith}
use Rattle.std.proofs.lemmas.Bool.{eq-eqb, eqb-true}
use Rattle.pg_directory.specs.CoreSets.{cores_of}
use Rattle.pg_directory.proofs.CoreBits.{cores_of-zero, zero-from_cores_of}
use Rattle.pg_directory.proofs.core_set.CoreSet.is_empty.Goals as goal

pub returns : goal.returns
returns c = (
  λ h. sym c.self.view_is ∙ ap cores_of (eqb-true c.self.inside.bits 0 h) ∙ cores_of-zero,
  λ none. eq-eqb c.self.inside.bits 0 (zero-from_cores_of c.self.inside.bits (omega arith) (c.self.view_is ∙ none)),
)
