use Rattle.pg_text.proofs.Faults.{reading_err_is_fault, reading_ok_is_text, only_fault, only_text}
use Rattle.pg_text.proofs.laws.first_fault_is_exact.Goals as goal

pub returns-clause-fault : goal.returns-clause-fault
returns-clause-fault c bytes f = (reading_err_is_fault bytes f, only_fault bytes f)

pub returns-clause-text : goal.returns-clause-text
returns-clause-text c bytes d place = (reading_ok_is_text bytes d place, only_text bytes d place)
