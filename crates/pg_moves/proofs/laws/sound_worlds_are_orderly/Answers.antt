use Rattle.pg_moves.proofs.Kept.{opening_good}
use Rattle.pg_moves.proofs.laws.sound_worlds_are_orderly.Goals as goal

pub returns-clause-opening : goal.returns-clause-opening
returns-clause-opening c = opening_good

pub returns-clause-orderly : goal.returns-clause-orderly
returns-clause-orderly c d t n w sound = (sound.marks, sound.orderly)
