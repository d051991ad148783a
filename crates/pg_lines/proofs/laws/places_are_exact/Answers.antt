use Rattle.pg_lines.proofs.Places.{bytes_after-lines, bytes_after-place}
use Rattle.pg_lines.proofs.laws.places_are_exact.Goals as goal

pub returns-clause-lines : goal.returns-clause-lines
returns-clause-lines c = bytes_after-lines

pub returns-clause-place : goal.returns-clause-place
returns-clause-place c = bytes_after-place
