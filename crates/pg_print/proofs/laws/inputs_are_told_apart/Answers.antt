use Rattle.pg_print.proofs.InputWords.{inputs_apart, evict_apart}
use Rattle.pg_print.proofs.DirInputWords.{dir_inputs_apart}
use Rattle.pg_print.proofs.laws.inputs_are_told_apart.Goals as goal

pub returns-clause-cache : goal.returns-clause-cache
returns-clause-cache c d i j = inputs_apart d i j

pub returns-clause-evict : goal.returns-clause-evict
returns-clause-evict c d f = evict_apart d f

pub returns-clause-home : goal.returns-clause-home
returns-clause-home c d i j = dir_inputs_apart d i j
