use Rattle.pg_table.proofs.Mixed.{mixed_is_sound}
use Rattle.pg_table.proofs.laws.mixed_tables_are_sound.Goals as goal

pub returns : goal.returns
returns c = mixed_is_sound
