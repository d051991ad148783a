use Rattle.pg_table.proofs.DirCases.{ask_has_row, evict_has_row, ask_has_none, evict_has_none, ask_listed, evict_listed}
use Rattle.pg_table.proofs.directory_laws.directory_cases_have_rows.Goals as goal

pub returns-clause-asks : goal.returns-clause-asks
returns-clause-asks c = ask_has_row

pub returns-clause-evicts : goal.returns-clause-evicts
returns-clause-evicts c = evict_has_row

pub returns-clause-no_ask : goal.returns-clause-no_ask
returns-clause-no_ask c = ask_has_none

pub returns-clause-no_evict : goal.returns-clause-no_evict
returns-clause-no_evict c = evict_has_none

pub returns-clause-ask_listed : goal.returns-clause-ask_listed
returns-clause-ask_listed c = ask_listed

pub returns-clause-evict_listed : goal.returns-clause-evict_listed
returns-clause-evict_listed c = evict_listed
