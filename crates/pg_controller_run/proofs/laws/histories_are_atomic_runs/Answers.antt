use Rattle.std.proofs.Common.{refl}
use Rattle.pg_controller_run.specs.Histories.{histories}
use Rattle.pg_controller_run.proofs.Final.{history_of_block}
use Rattle.pg_controller_run.proofs.Texts.{tells_histories}
use Rattle.pg_controller_run.proofs.laws.histories_are_atomic_runs.Goals as goal

pub returns-clause-block : goal.returns-clause-block
returns-clause-block c = λ d m seed b s well shape within low. history_of_block d m seed b s well shape low

pub returns-clause-text : goal.returns-clause-text
returns-clause-text c = λ d m seed s well shape within. tells_histories d m seed s (histories d m seed s) well shape refl
