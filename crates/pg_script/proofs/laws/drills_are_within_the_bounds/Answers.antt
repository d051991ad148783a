use Rattle.std.proofs.lemmas.List.FromFn.{length-map-range_with_len}
use Rattle.pg_script.specs.Drills.{drill_op}
use Rattle.pg_script.proofs.Drills.{drill_is_within}
use Rattle.pg_script.proofs.laws.drills_are_within_the_bounds.Goals as goal

pub returns-clause-within : goal.returns-clause-within
returns-clause-within c = drill_is_within

pub returns-clause-count : goal.returns-clause-count
returns-clause-count c seed cores blocks ops = length-map-range_with_len (drill_op seed cores blocks) 1 ops
