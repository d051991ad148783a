use Rattle.std.proofs.Common.{◌∙◌, ap}
use Rattle.pg_table.specs.Directory.{dir_descs}
use Rattle.pg_infer.proofs.Nexts.{dir_choice_leads_to_state}
use Rattle.pg_infer.proofs.directory.dir_table.Goals as goal

pub table_of-requires-clause-onward : goal.table_of-requires-clause-onward
table_of-requires-clause-onward c n s i x =
    dir_choice_leads_to_state c.args.protocol.now _ n s i x c.draft.ensures.well_formed (c.as_slice.ensures.value ∙ c.in_ok-states.ensures.exact ∙ ap dir_descs c.draft.ensures.exact)
