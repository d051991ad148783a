use Rattle.pg_text.proofs.ReadBack.{read_spelled}
use Rattle.pg_text.proofs.laws.lines_are_kept.Goals as goal

pub returns : goal.returns
returns c = record { kept = read_spelled }
