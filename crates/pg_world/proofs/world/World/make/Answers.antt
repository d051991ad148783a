use Rattle.std.proofs.Common.{ap, subst, ◌∙◌}
use Rattle.pg_perm.specs.Drafts.{IsWellFormed}
use Rattle.pg_shape.specs.Shaped.{IsShaped}
use Rattle.pg_table.specs.Tables.{Parts}
use Rattle.pg_table.specs.Sound.{IsSound}
use Rattle.pg_world.specs.Kept.{WorldView}
use Rattle.pg_world.proofs.Made.{made_kept, made_opens, made_room, few_programs}
use Rattle.pg_world.proofs.world.World.make.Goals as goal

pub make-requires-clause-few : goal.make-requires-clause-few
make-requires-clause-few c = few_programs c.into_programs-programs.result.items c.args.todo c.into_programs-programs.ensures.given c.requires.few

pub of-requires : goal.of-requires
of-requires c =
    let is = c.protocol.ensures.exact ∙ ap (λ (t : Parts). t.protocol) c.deref.ensures in
    let made = c.in_ok-block.ensures in
    made_kept c.in_ok-block.block c.args.tables.value c.into_programs-programs.result.items c.args.todo c.operations-ops.result
    (subst IsWellFormed is c.draft-draft.ensures.well_formed) (subst IsShaped is c.draft-draft.ensures.shaped) (subst (λ (t : Parts). IsSound t.protocol t.cache t.home) c.deref.ensures c.protocol.ensures.sound)
    made.tables made.programs made.new made.limits c.into_programs-programs.ensures.given c.into_programs-programs.ensures.whole c.operations-ops.ensures c.requires.few c.requires.short

pub returns-clause-opening : goal.returns-clause-opening
returns-clause-opening c =
    let made = c.in_ok-block.ensures in
    ap (λ (v : WorldView). v.world) c.of.ensures
    ∙ made_opens c.in_ok-block.block c.args.tables.value c.into_programs-programs.result.items c.args.todo made.tables made.programs made.new c.into_programs-programs.ensures.given c.into_programs-programs.ensures.whole

pub returns-clause-room : goal.returns-clause-room
returns-clause-room c =
    ap (λ (v : WorldView). v.limit) c.of.ensures
    ∙ made_room c.in_ok-block.block c.into_programs-programs.result.items c.args.todo c.operations-ops.result c.in_ok-block.ensures.limits c.into_programs-programs.ensures.given c.operations-ops.ensures
