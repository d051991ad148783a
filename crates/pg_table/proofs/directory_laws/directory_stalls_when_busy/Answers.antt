use Rattle.pg_table.proofs.DirStalls.{busy_request_stalls, dir_stalls_when_busy, others_go_on}
use Rattle.pg_table.proofs.directory_laws.directory_stalls_when_busy.Goals as goal

pub returns-clause-stays : goal.returns-clause-stays
returns-clause-stays c = busy_request_stalls

pub returns-clause-stalls : goal.returns-clause-stalls
returns-clause-stalls c = dir_stalls_when_busy

pub returns-clause-others : goal.returns-clause-others
returns-clause-others c = others_go_on
