use Rattle.pg_ready.proofs.Events.{operation_ready, slot_empty, head_ready, data_ready, ack_ready}
use Rattle.pg_ready.proofs.laws.lines_are_ready.Goals as goal

pub returns-clause-operation : goal.returns-clause-operation
returns-clause-operation c = operation_ready

pub returns-clause-slot : goal.returns-clause-slot
returns-clause-slot c = slot_empty

pub returns-clause-head : goal.returns-clause-head
returns-clause-head c = head_ready

pub returns-clause-data : goal.returns-clause-data
returns-clause-data c = data_ready

pub returns-clause-ack : goal.returns-clause-ack
returns-clause-ack c = ack_ready
