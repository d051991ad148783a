use Rattle.pg_directory.proofs.Start.{start_is_sound, out_fits_at_start}
use Rattle.pg_directory.proofs.laws.starts_are_sound.Goals as goal

pub returns-clause-sound : goal.returns-clause-sound
returns-clause-sound c d n = start_is_sound d n

pub returns-clause-out : goal.returns-clause-out
returns-clause-out c d core x = out_fits_at_start d core x
