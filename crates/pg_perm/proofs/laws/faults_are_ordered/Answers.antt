use Rattle.std.proofs.Common.{inl}
use Rattle.pg_perm.proofs.Ranks.{same_fault, one_is_no_later}
use Rattle.pg_perm.proofs.laws.faults_are_ordered.Goals as goal

pub returns-clause-by_line : goal.returns-clause-by_line
returns-clause-by_line c = λ f g low. inl low

pub returns-clause-either : goal.returns-clause-either
returns-clause-either c = one_is_no_later

pub returns-clause-same : goal.returns-clause-same
returns-clause-same c = same_fault
