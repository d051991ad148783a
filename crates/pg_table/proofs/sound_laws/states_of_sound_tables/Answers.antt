use Rattle.pg_table.proofs.SoundStates.{stable_states_are, leaving_states_are, load_states_are, data_states_are, count_states_are, ack_states_are, tags_end, no_store_states, no_evict_states}
use Rattle.pg_table.proofs.sound_laws.states_of_sound_tables.Goals as goal

pub returns-clause-stable : goal.returns-clause-stable
returns-clause-stable c = stable_states_are

pub returns-clause-leaving : goal.returns-clause-leaving
returns-clause-leaving c = leaving_states_are

pub returns-clause-load : goal.returns-clause-load
returns-clause-load c = load_states_are

pub returns-clause-data : goal.returns-clause-data
returns-clause-data c = data_states_are

pub returns-clause-count : goal.returns-clause-count
returns-clause-count c = count_states_are

pub returns-clause-acks : goal.returns-clause-acks
returns-clause-acks c = ack_states_are

pub returns-clause-tags : goal.returns-clause-tags
returns-clause-tags c = tags_end

pub returns-clause-no_store : goal.returns-clause-no_store
returns-clause-no_store c = no_store_states

pub returns-clause-no_evict : goal.returns-clause-no_evict
returns-clause-no_evict c = no_evict_states
