use Rattle.pg_script.proofs.Bytes.{text_kept}
use Rattle.pg_script.proofs.Taken.{words_kept, within_bounds}
use Rattle.pg_script.proofs.laws.scripts_are_kept.Goals as goal

pub returns-clause-kept : goal.returns-clause-kept
returns-clause-kept c = words_kept

pub returns-clause-within : goal.returns-clause-within
returns-clause-within c = within_bounds

pub returns-clause-text : goal.returns-clause-text
returns-clause-text c = text_kept
