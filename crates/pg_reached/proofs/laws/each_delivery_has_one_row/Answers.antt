use Rattle.pg_reached.proofs.Reached.{operation_has_row, head_has_row, data_has_row, acknowledgement_has_row, write_back_has_row}
use Rattle.pg_reached.proofs.Waiting.{each_request_has_row}
use Rattle.pg_reached.proofs.laws.each_delivery_has_one_row.Goals as goal

pub returns-clause-operation : goal.returns-clause-operation
returns-clause-operation c = operation_has_row

pub returns-clause-head : goal.returns-clause-head
returns-clause-head c = head_has_row

pub returns-clause-data : goal.returns-clause-data
returns-clause-data c = data_has_row

pub returns-clause-acknowledgement : goal.returns-clause-acknowledgement
returns-clause-acknowledgement c = acknowledgement_has_row

pub returns-clause-written_back : goal.returns-clause-written_back
returns-clause-written_back c = write_back_has_row

pub returns-clause-request : goal.returns-clause-request
returns-clause-request c = each_request_has_row
