use Rattle.pg_table.specs.GeneratedStates.{rows_of}
use Rattle.pg_table.proofs.RowsFor.{rows_for_input, row_single}
use Rattle.pg_table.proofs.laws.rows_are_for_one_input.Goals as goal

pub returns-clause-chosen : goal.returns-clause-chosen
returns-clause-chosen c = λ d m. rows_for_input d (λ s i. m)

pub returns-clause-single : goal.returns-clause-single
returns-clause-single c = λ d m ss s. row_single ss (rows_of d m s)
