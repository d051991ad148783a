use Rattle.std.proofs.Common.{ap, sym, ◌∙◌}
use Rattle.std.specs.Prelude.{◌==◌}
use Rattle.std.proofs.lemmas.Nat.Bits.{shr_and_one}
use Rattle.pg_directory.specs.DirEntries.{is_among}
use Rattle.pg_directory.proofs.CoreBits.{is_among-cores_of}
use Rattle.pg_directory.proofs.core_set.CoreSet.has.Goals as goal

pub returns : goal.returns
returns c =
    ap (λ n. n == 1) (shr_and_one c.self.inside.bits c.args.core) ∙ sym (is_among-cores_of c.self.inside.bits c.args.core c.requires)
    ∙ ap (λ cores. is_among cores c.args.core) c.self.view_is
