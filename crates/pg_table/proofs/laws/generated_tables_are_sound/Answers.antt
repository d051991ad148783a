use Rattle.pg_table.proofs.Mixed.{generated_is_sound}
use Rattle.pg_table.proofs.laws.generated_tables_are_sound.Goals as goal

pub returns : goal.returns
returns c = generated_is_sound
