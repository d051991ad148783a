use Rattle.std.proofs.Common.{[], ◌∷◌, length, ap, arith}
use Rattle.std.proofs.lemmas.List.{append-nil}
use Rattle.pg_bells.specs.Passes.{rung_by, taken_by}
use Rattle.pg_bells.proofs.Counts.{sum_cons}
use Rattle.pg_bells.proofs.laws.what_is_left.Goals as goal

pub returns-clause-taken : goal.returns-clause-taken
returns-clause-taken c left ring answer is same =
    let a = ap length (append-nil (taken_by answer)) in omega (arith, is, same, a)
