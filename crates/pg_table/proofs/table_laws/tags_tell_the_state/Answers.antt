use Rattle.pg_table.proofs.Tags.{tag_tells_take_row, keep_stays, later_due, due_later_plain, due_later_kept}
use Rattle.pg_table.proofs.table_laws.tags_tell_the_state.Goals as goal

pub returns-clause-leads : goal.returns-clause-leads
returns-clause-leads c = tag_tells_take_row

pub returns-clause-stays : goal.returns-clause-stays
returns-clause-stays c = keep_stays

pub returns-clause-due : goal.returns-clause-due
returns-clause-due c = later_due

pub returns-clause-plain : goal.returns-clause-plain
returns-clause-plain c = due_later_plain

pub returns-clause-kept : goal.returns-clause-kept
returns-clause-kept c = due_later_kept
