use Rattle.pg_script.proofs.Faults.{reading_err_is_fault, reading_ok_is_script, only_fault, only_script}
use Rattle.pg_script.proofs.laws.first_fault_is_exact.Goals as goal

pub returns-clause-fault : goal.returns-clause-fault
returns-clause-fault c bytes f = (reading_err_is_fault bytes f, only_fault bytes f)

pub returns-clause-script : goal.returns-clause-script
returns-clause-script c bytes s = (reading_ok_is_script bytes s, only_script bytes s)
