use Rattle.std.proofs.Common.{◌≡◌, ◌<◌, Some, slice_get, length, ap, sym, subst, ◌∙◌}
use Rattle.std.specs.Option.{option_map}
use Rattle.pg_perm.specs.Drafts.{IsWellFormed}
use Rattle.pg_dir.proofs.Rows.{as_desc, wb_there, wb_leads, wb_inside, wb_makes}
use Rattle.pg_dir.proofs.home.Home.write_back.Goals as goal

pub wb_row-row-requires : goal.wb_row-row-requires
wb_row-row-requires c =
    wb_there c.args.t.now.protocol _ c.args.self.now (subst IsWellFormed c.protocol.ensures.exact c.draft-draft.ensures.well_formed) c.protocol.ensures.sound.home c.requires.place c.requires.busy

pub desc-self-inside-requires : goal.desc-self-inside-requires
desc-self-inside-requires c =
    let leads = wb_leads c.args.t.now.protocol _ c.args.self.now c.wb_row-row.result.now (subst IsWellFormed c.protocol.ensures.exact c.draft-draft.ensures.well_formed)
    c.protocol.ensures.sound.home c.requires.place c.requires.busy c.wb_row-row.ensures in
    subst (λ t. c.wb_row-row.result.now.next < length t) (sym c.home.ensures.exact) (wb_inside c.args.t.now.home c.wb_row-row.result.now.next _ leads)

pub returns-clause-written : goal.returns-clause-written
returns-clause-written c =
    let leads = wb_leads c.args.t.now.protocol _ c.args.self.now c.wb_row-row.result.now (subst IsWellFormed c.protocol.ensures.exact c.draft-draft.ensures.well_formed)
    c.protocol.ensures.sound.home c.requires.place c.requires.busy c.wb_row-row.ensures in
    let gives : option_map (λ s. s.desc) (slice_get c.args.t.now.home c.wb_row-row.result.now.next) ≡ Some c.desc-self-inside.result =
    subst (λ t. option_map (λ s. s.desc) (slice_get t c.wb_row-row.result.now.next) ≡ Some c.desc-self-inside.result) c.home.ensures.exact c.desc-self-inside.ensures in
    ap (λ v. as_desc v.directory c.args.word c.desc-self-inside.result) c.self.view_is
    ∙ wb_makes c.args.t.now.protocol c.args.self.now.directory c.args.t.now.home c.wb_row-row.result.now.next c.desc-self-inside.result c.args.word c.requires.busy leads gives
