use Rattle.pg_lines.proofs.Written.{words_written, lines_written, place_written}
use Rattle.pg_lines.proofs.laws.written_texts_are_exact.Goals as goal

pub returns-clause-words : goal.returns-clause-words
returns-clause-words c = words_written

pub returns-clause-lines : goal.returns-clause-lines
returns-clause-lines c = lines_written

pub returns-clause-place : goal.returns-clause-place
returns-clause-place c = place_written
