use Rattle.pg_table.proofs.DirHandles.{request_has_choice, load_acts, store_acts, sharers_are_invalidated, owner_evict_acts, other_evict_acts, request_leads, share_waits, owner_gets_action, action_goes_to_owner, none_is_stale}
use Rattle.pg_table.proofs.directory_laws.directory_rows_follow_requests.Goals as goal

pub returns-clause-choice : goal.returns-clause-choice
returns-clause-choice c = request_has_choice

pub returns-clause-load : goal.returns-clause-load
returns-clause-load c = load_acts

pub returns-clause-store : goal.returns-clause-store
returns-clause-store c = store_acts

pub returns-clause-sharers : goal.returns-clause-sharers
returns-clause-sharers c = sharers_are_invalidated

pub returns-clause-evict_owner : goal.returns-clause-evict_owner
returns-clause-evict_owner c = owner_evict_acts

pub returns-clause-evict_other : goal.returns-clause-evict_other
returns-clause-evict_other c = other_evict_acts

pub returns-clause-known : goal.returns-clause-known
returns-clause-known c = request_leads

pub returns-clause-busy : goal.returns-clause-busy
returns-clause-busy c = share_waits

pub returns-clause-sent : goal.returns-clause-sent
returns-clause-sent c = owner_gets_action

pub returns-clause-passed : goal.returns-clause-passed
returns-clause-passed c = action_goes_to_owner

pub returns-clause-stale : goal.returns-clause-stale
returns-clause-stale c = none_is_stale
