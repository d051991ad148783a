use Rattle.pg_safe.proofs.Requests.{operation_row, head_row, data_row, ack_row}
use Rattle.pg_safe.proofs.DirRows.{request_row, wb_row}
use Rattle.pg_safe.proofs.laws.nothing_lacks_its_row.Goals as goal

pub returns-clause-operation : goal.returns-clause-operation
returns-clause-operation c = operation_row

pub returns-clause-head : goal.returns-clause-head
returns-clause-head c = head_row

pub returns-clause-data : goal.returns-clause-data
returns-clause-data c = data_row

pub returns-clause-acks : goal.returns-clause-acks
returns-clause-acks c = ack_row

pub returns-clause-written_back : goal.returns-clause-written_back
returns-clause-written_back c = wb_row

pub returns-clause-asked : goal.returns-clause-asked
returns-clause-asked c = request_row
