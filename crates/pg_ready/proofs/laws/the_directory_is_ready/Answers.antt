use Rattle.pg_ready.proofs.DirReady.{request_row, request_room, write_back_busy}
use Rattle.pg_ready.proofs.laws.the_directory_is_ready.Goals as goal

pub returns-clause-row : goal.returns-clause-row
returns-clause-row c = request_row

pub returns-clause-room : goal.returns-clause-room
returns-clause-room c = request_room

pub returns-clause-written_back : goal.returns-clause-written_back
returns-clause-written_back c = write_back_busy
