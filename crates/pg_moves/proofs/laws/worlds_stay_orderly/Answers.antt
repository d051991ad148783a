use Rattle.pg_moves.proofs.Kept.{begins_kept, asks_kept, back_kept, answer_kept, passed_kept, inv_kept}
use Rattle.pg_moves.proofs.laws.worlds_stay_orderly.Goals as goal

pub returns-clause-issue : goal.returns-clause-issue
returns-clause-issue c = begins_kept

pub returns-clause-request : goal.returns-clause-request
returns-clause-request c = asks_kept

pub returns-clause-written_back : goal.returns-clause-written_back
returns-clause-written_back c = back_kept

pub returns-clause-evicted : goal.returns-clause-evicted
returns-clause-evicted c = answer_kept

pub returns-clause-passed : goal.returns-clause-passed
returns-clause-passed c = passed_kept

pub returns-clause-invalidated : goal.returns-clause-invalidated
returns-clause-invalidated c = inv_kept
