use Rattle.pg_table.proofs.SoundRows.{stalls_alone, later_either}
use Rattle.pg_table.proofs.sound_laws.sound_tables_stall_later_forwards.Goals as goal

pub returns-clause-stall : goal.returns-clause-stall
returns-clause-stall c = stalls_alone

pub returns-clause-either : goal.returns-clause-either
returns-clause-either c = later_either
