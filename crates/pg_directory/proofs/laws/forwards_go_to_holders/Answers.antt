use Rattle.pg_directory.proofs.Receivers.{none_to_requestor, none_to_others, inv_to_sharer, passed_to_owner}
use Rattle.pg_directory.proofs.laws.forwards_go_to_holders.Goals as goal

pub returns-clause-requestor : goal.returns-clause-requestor
returns-clause-requestor c = none_to_requestor

pub returns-clause-nothing : goal.returns-clause-nothing
returns-clause-nothing c = none_to_others

pub returns-clause-sharers : goal.returns-clause-sharers
returns-clause-sharers c = inv_to_sharer

pub returns-clause-owner : goal.returns-clause-owner
returns-clause-owner c = passed_to_owner
