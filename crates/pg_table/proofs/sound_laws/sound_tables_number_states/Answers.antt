use Rattle.pg_table.proofs.SoundRows.{number_of_row_state, state_at_number, picked_is_found, found_is_picked}
use Rattle.pg_table.proofs.sound_laws.sound_tables_number_states.Goals as goal

pub returns-clause-number : goal.returns-clause-number
returns-clause-number c = number_of_row_state

pub returns-clause-state : goal.returns-clause-state
returns-clause-state c = state_at_number

pub returns-clause-found : goal.returns-clause-found
returns-clause-found c = picked_is_found

pub returns-clause-picked : goal.returns-clause-picked
returns-clause-picked c = found_is_picked
