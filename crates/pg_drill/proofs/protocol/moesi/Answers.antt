use Rattle.std.proofs.Common.{◌∙◌}
use Rattle.pg_drill.proofs.Texts.{only_want_of_memory, draft_is_moesi, never_refused}
use Rattle.pg_drill.proofs.protocol.moesi.Goals as goal

pub only_memory-requires : goal.only_memory-requires
only_memory-requires c = only_want_of_memory c.as_bytes.result.now c.in-Err.error c.in-Err.ensures.exact c.as_bytes.ensures.value

pub unreachable-requires : goal.unreachable-requires
unreachable-requires c =
    never_refused c.in-Ok.draft c.in-Err-shape.field-0 c.in-Err-shape.ensures.exact
    (draft_is_moesi c.as_bytes.result.now c.in-Ok.draft c.in-Ok.field-0-1 c.in-Ok.ensures.exact c.as_bytes.ensures.value)

pub returns : goal.returns
returns c =
    c.in-Ok-shape.ensures.protocol
    ∙ draft_is_moesi c.as_bytes.result.now c.in-Ok.draft c.in-Ok.field-0-1 c.in-Ok.ensures.exact c.as_bytes.ensures.value
