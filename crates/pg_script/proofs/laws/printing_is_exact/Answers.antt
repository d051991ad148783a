use Rattle.pg_script.proofs.Printed.{printed_reads}
use Rattle.pg_script.proofs.Short.{printed_short}
use Rattle.pg_script.proofs.laws.printing_is_exact.Goals as goal

pub returns-clause-back : goal.returns-clause-back
returns-clause-back c = printed_reads

pub returns-clause-short : goal.returns-clause-short
returns-clause-short c = printed_short
