use Rattle.std.proofs.Common.{◌≡◌, ◌+◌, suc, ap, sym, subst, ◌∙◌, arith}
use Rattle.pg_perm.specs.Drafts.{IsWellFormed}
use Rattle.pg_controllers.specs.Directories as dirs
use Rattle.pg_dir.specs.Effects as effect
use Rattle.pg_dir.proofs.Rows.{has_row, drives, leads_inside, row_fits, row_makes, drive_makes}
use Rattle.pg_dir.proofs.home.Home.take_request.Goals as goal

pub row-row-requires-clause-row : goal.row-row-requires-clause-row
row-row-requires-clause-row c =
    has_row c.args.t.now.protocol _ c.args.self.now (effect.request_by c.args.core c.args.a) (subst IsWellFormed c.protocol.ensures.exact c.draft-draft.ensures.well_formed)
    c.protocol.ensures.sound.home c.requires.place c.requires.row

pub drive-requires-clause-fits : goal.drive-requires-clause-fits
drive-requires-clause-fits c =
    let stamp : c.self.inside.last + 1 ≡ suc c.args.self.now.directory.last = omega (arith, ap (λ v. v.directory.last) c.self.view_is) in
    let does = drives c.args.t.now.protocol _ c.args.self.now (effect.request_by c.args.core c.args.a) c.row-row.result.now (subst IsWellFormed c.protocol.ensures.exact c.draft-draft.ensures.well_formed)
    c.protocol.ensures.sound.home c.requires.place c.requires.row c.row-row.ensures in
    subst (λ x. effect.AllFit x (dirs.dir_entry_of c.args.self.now.directory) c.args.core (c.self.inside.last + 1) c.args.a.word c.row-row.result.now.acts (record { memory = c.args.self.now.directory.memory; invs = 0; nets = c.args.w.now }))
    (sym (c.draft-draft.ensures.exact ∙ c.protocol.ensures.exact))
    (row_fits c.args.t.now.protocol c.args.t.now.home c.args.self.now.directory c.args.core c.args.a c.args.w.now c.row-row.result.now (c.self.inside.last + 1) stamp does c.requires.spare)

pub drive-requires-clause-next : goal.drive-requires-clause-next
drive-requires-clause-next c =
    let does = drives c.args.t.now.protocol _ c.args.self.now (effect.request_by c.args.core c.args.a) c.row-row.result.now (subst IsWellFormed c.protocol.ensures.exact c.draft-draft.ensures.well_formed)
    c.protocol.ensures.sound.home c.requires.place c.requires.row c.row-row.ensures in
    leads_inside c.args.t.now.home _ c.row-row.result.now does

pub returns-clause-handled : goal.returns-clause-handled
returns-clause-handled c =
    let stamp : c.self.inside.last + 1 ≡ suc c.args.self.now.directory.last = omega (arith, ap (λ v. v.directory.last) c.self.view_is) in
    let does = drives c.args.t.now.protocol _ c.args.self.now (effect.request_by c.args.core c.args.a) c.row-row.result.now (subst IsWellFormed c.protocol.ensures.exact c.draft-draft.ensures.well_formed)
    c.protocol.ensures.sound.home c.requires.place c.requires.row c.row-row.ensures in
    drive_makes c.draft-draft.result.now c.args.t.now.protocol c.args.self.now.directory c.drive.new.self.directory c.args.core c.args.a c.drive.new.w c.args.w.now c.row-row.result.now (c.self.inside.last + 1)
    (c.draft-draft.ensures.exact ∙ c.protocol.ensures.exact) (ap (λ v. v.directory) c.drive.ensures.directory) c.drive.ensures.nets
    ∙ row_makes c.args.t.now.protocol c.args.t.now.home c.args.self.now.directory c.args.core c.args.a c.args.w.now c.row-row.result.now (c.self.inside.last + 1) c.drive.new.self.directory.desc stamp does c.drive.ensures.desc
