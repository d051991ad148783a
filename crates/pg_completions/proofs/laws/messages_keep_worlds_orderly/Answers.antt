use Rattle.std.proofs.Common.{◌∙◌}
use Rattle.pg_controllers.specs.Worlds.{core}
use Rattle.pg_completions.proofs.DataKept.{data_kept}
use Rattle.pg_completions.proofs.AckKept.{ack_kept}
use Rattle.pg_completions.proofs.CountKept.{count_kept}
use Rattle.pg_completions.proofs.EarlyKept.{early_kept, same_answers}
use Rattle.pg_completions.proofs.laws.messages_keep_worlds_orderly.Goals as goal

pub returns-clause-filled : goal.returns-clause-filled
returns-clause-filled c = data_kept

pub returns-clause-acknowledged : goal.returns-clause-acknowledged
returns-clause-acknowledged c = ack_kept

pub returns-clause-counted : goal.returns-clause-counted
returns-clause-counted c = count_kept

pub returns-clause-early : goal.returns-clause-early
returns-clause-early c d t n w m e f r i k ms wf sh sound o full low queue inv pend answers on = early_kept d t n w m e f r i k ms wf sh sound o full low queue inv pend (same_answers d (core w e).line.desc f ∙ answers) on
