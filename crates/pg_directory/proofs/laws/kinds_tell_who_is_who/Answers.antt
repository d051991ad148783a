use Rattle.pg_directory.proofs.WhoAfter.{requestor_after, other_after}
use Rattle.pg_directory.proofs.laws.kinds_tell_who_is_who.Goals as goal

pub returns-clause-requestor : goal.returns-clause-requestor
returns-clause-requestor c = requestor_after

pub returns-clause-others : goal.returns-clause-others
returns-clause-others c = other_after
