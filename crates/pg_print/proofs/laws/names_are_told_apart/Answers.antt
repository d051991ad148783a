use Rattle.pg_print.proofs.Apart.{states_apart, dir_states_apart}
use Rattle.pg_print.proofs.laws.names_are_told_apart.Goals as goal

pub returns-clause-cache : goal.returns-clause-cache
returns-clause-cache c d m s t = states_apart d m s t

pub returns-clause-home : goal.returns-clause-home
returns-clause-home c d s t = dir_states_apart d s t
