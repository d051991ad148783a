use Rattle.std.proofs.Common.{◌≡◌, List, Some, None, sym, ap, ◌∙◌}
use Rattle.pg_table.specs.Tables.{TableState}
use Rattle.pg_table.specs.Tables.{find_row}
use Rattle.pg_table.specs.Controllers.{state_at}
use Rattle.pg_cache.specs.Acts.{LineView}
use Rattle.pg_cache.specs.Rows.{after_choice}
use Rattle.pg_cache.proofs.Numbered.{leads_there}
use Rattle.pg_cache.proofs.Driven.{fits, finds, drives}
use Rattle.pg_cache.proofs.registers.Registers.drive.Goals as goal

pub desc-desc-requires : goal.desc-desc-requires
desc-desc-requires c =
    let found : find_row c.args.t.now.cache c.args.self.now.state c.args.input ≡ Some c.in-Some.row.now =
    ap (λ (x : LineView). find_row c.args.t.now.cache x.state c.args.input) (sym c.self.view_is) ∙ ap (λ (t : List TableState). find_row t c.self.inside.state c.args.input) (sym c.cache-table.ensures.exact) ∙ sym c.in-Some.ensures in
    rw c.cache-table.ensures.exact (leads_there c.args.t.now.protocol c.args.t.now.cache c.args.self.now.state c.args.input c.in-Some.row.now c.cache-table.ensures.sound.cache found)

pub follow-requires : goal.follow-requires
follow-requires c =
    let found : find_row c.args.t.now.cache c.args.self.now.state c.args.input ≡ Some c.in-Some.row.now =
    ap (λ (x : LineView). find_row c.args.t.now.cache x.state c.args.input) (sym c.self.view_is) ∙ ap (λ (t : List TableState). find_row t c.self.inside.state c.args.input) (sym c.cache-table.ensures.exact) ∙ sym c.in-Some.ensures in
    let at : state_at c.args.t.now.cache c.in-Some.row.now.next ≡ Some c.desc-desc.result =
    ap (λ (t : List TableState). state_at t c.in-Some.row.now.next) (sym c.cache-table.ensures.exact) ∙ c.desc-desc.ensures in
    rw (c.draft.ensures.exact, c.protocol.ensures.exact) (fits c.args.t.now c.args.input c.args.met.now c.args.self.now c.args.w.now c.in-Some.row.now c.desc-desc.result c.cache-table.ensures.sound.cache c.requires found at)

pub returns-clause-row : goal.returns-clause-row
returns-clause-row c =
    let found : find_row c.args.t.now.cache c.args.self.now.state c.args.input ≡ Some c.in-Some.row.now =
    ap (λ (x : LineView). find_row c.args.t.now.cache x.state c.args.input) (sym c.self.view_is) ∙ ap (λ (t : List TableState). find_row t c.self.inside.state c.args.input) (sym c.cache-table.ensures.exact) ∙ sym c.in-Some.ensures in
    let at : state_at c.args.t.now.cache c.in-Some.row.now.next ≡ Some c.desc-desc.result =
    ap (λ (t : List TableState). state_at t c.in-Some.row.now.next) (sym c.cache-table.ensures.exact) ∙ c.desc-desc.ensures in
    let draft = c.draft.ensures.exact ∙ c.protocol.ensures.exact in
    c.follow.ensures ∙ ap (λ (d : _). after_choice d (record { acts = c.in-Some.row.now.acts; next = c.desc-desc.result }) c.in-Some.row.now.next c.args.met.now c.args.self.now c.args.w.now) draft
    ∙ drives c.args.t.now c.args.input c.args.met.now c.args.self.now c.args.w.now c.in-Some.row.now c.desc-desc.result c.cache-table.ensures.sound.cache c.requires found at

pub returns-in_default-clause-row : goal.returns-in_default-clause-row
returns-in_default-clause-row c =
    let found : find_row c.args.t.now.cache c.args.self.now.state c.args.input ≡ None =
    ap (λ (x : LineView). find_row c.args.t.now.cache x.state c.args.input) (sym c.self.view_is) ∙ ap (λ (t : List TableState). find_row t c.self.inside.state c.args.input) (sym c.cache-table.ensures.exact) ∙ sym c.in_default.ensures in
    absurd (finds c.args.t.now c.args.input c.args.met.now c.args.self.now c.args.w.now c.cache-table.ensures.sound.cache c.requires found)
