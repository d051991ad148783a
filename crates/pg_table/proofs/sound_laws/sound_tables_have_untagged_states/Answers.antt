use Rattle.pg_table.proofs.SoundStates.{has_initial, has_load, has_data, has_count, has_acks}
use Rattle.pg_table.proofs.sound_laws.sound_tables_have_untagged_states.Goals as goal

pub returns-clause-initial : goal.returns-clause-initial
returns-clause-initial c = has_initial

pub returns-clause-load : goal.returns-clause-load
returns-clause-load c = has_load

pub returns-clause-data : goal.returns-clause-data
returns-clause-data c = has_data

pub returns-clause-count : goal.returns-clause-count
returns-clause-count c = has_count

pub returns-clause-acks : goal.returns-clause-acks
returns-clause-acks c = has_acks
