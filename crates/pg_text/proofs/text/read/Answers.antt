use Rattle.pg_text.proofs.Faults.{answered_fault, answered_text}
use Rattle.pg_text.proofs.WellFormed.{answered_well_formed}
use Rattle.pg_text.proofs.text.read.Goals as goal

pub returns-clause-fault : goal.returns-clause-fault
returns-clause-fault c = answered_fault c.args.bytes.now c.read_lines.result c.read_lines.ensures.exact

pub returns-clause-text : goal.returns-clause-text
returns-clause-text c = answered_text c.args.bytes.now c.read_lines.result c.read_lines.ensures.exact

pub returns-clause-well_formed : goal.returns-clause-well_formed
returns-clause-well_formed c = answered_well_formed c.args.bytes.now c.read_lines.result c.read_lines.ensures.exact
